use Rattle.std.proofs.Common.{sym, ap, ◌∙◌}
use Rattle.dead_pass_writes.specs.Telling.{told}
use Rattle.dead_pass_writes.proofs.Keys.{more_is, once_is, put_write, same_pair, told_same}
use Rattle.dead_pass_writes.proofs.writes.PlaceWrites.add.Goals as goal
use Rattle.dead_pass_writes.proofs.writes.PlaceWrites.add.Goals.{then-contains_key, else-contains_key}

pub returns : goal.returns
returns c = λ p x.
    (let old = c.args.self.now in
    let was = told old c.args.place c.args.name in
    c.in_ok-insert.ensures.updates.0 (p, x)
    ∙ put_write _ _ _ c.args.spot was (told old p x) (same_pair (c.args.place, c.args.name) (p, x))
    (elim c.if-contains_key.branch [
      | then-contains_key w ↦ w.written-is ∙ more_is was c.args.spot (sym c.contains_key.ensures ∙ w.if-contains_key.true)
      | else-contains_key w ↦ w.written-is ∙ once_is was c.args.spot (sym c.contains_key.ensures ∙ w.if-contains_key.false)
    ])
    (told_same old c.args.place c.args.name p x))
