use Rattle.std.proofs.Common.{◌∙◌, ap}
use Rattle.dead_pass_writes.proofs.Keys.{same_pair}
use Rattle.dead_pass_writes.specs.RemovedChangesTelling.{told}
use Rattle.dead_pass_writes.proofs.FirstAndLast.{put_removal, told_same}
use Rattle.dead_pass_writes.proofs.removed.RemovedChanges.add.Goals as goal

pub returns : goal.returns
returns c = λ p v.
    (let old = c.args.self.now in
    c.in_ok-insert.ensures.updates.0 (p, v)
    ∙ put_removal _ _ _ c.args.number (told old c.args.place c.args.var) (told old p v) (same_pair (c.args.place, c.args.var) (p, v)) (ap (λ n. record { first = n; last = c.args.number }) c.first_with-first.ensures) (told_same old c.args.place c.args.var p v))
