use Rattle.std.proofs.Common.{cond, true, ap, ◌∙◌}
use Rattle.home_assign.specs.Pairs.{has}
use Rattle.home_assign.proofs.PairsMore.{cond_or, same_pair}
use Rattle.home_assign.proofs.pairs.Pairs.add.Goals as goal

pub returns-clause-added : goal.returns-clause-added
returns-clause-added c = λ x y.
    let old = has c.args.self.now x y in
    c.in_ok-insert.ensures.updates.0 (x, y) ∙ ap (λ b. cond b true old) (same_pair c.args.a c.args.b x y) ∙ cond_or _ old
