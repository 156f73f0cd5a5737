use Rattle.std.proofs.Common.{◌≡◌, ◌++◌}
use Rattle.work_gen.specs.Generated.{statements}
use Rattle.work_gen.proofs.generating.push_statements.Given as goal

abbrev pub invariant-loop-left : goal.invariant-loop-left
invariant-loop-left l = l.text.items ++ statements l.left l.state ≡ l.fn.text.items ++ statements l.count l.seed

abbrev pub decreases-loop-left : goal.decreases-loop-left
decreases-loop-left l = l.left
