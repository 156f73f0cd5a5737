use Rattle.std.proofs.Common.{arith}
use Rattle.currency_writers.proofs.Going.{above_next, assigned_above}
use Rattle.currency_writers.proofs.flow.variable_count.Goals as goal

pub loop-assignment-init : goal.loop-assignment-init
loop-assignment-init c = λ k d lt. absurd (omega (arith, lt))

pub loop-assignment-preserved : goal.loop-assignment-preserved
loop-assignment-preserved c = above_next c.args.assignments.now c.loop-assignment.count _ c.loop-assignment.assignment-index _ c.loop-assignment-test.true c.count_with-count.ensures.least c.count_with-count.ensures.above c.loop-assignment.invariant

pub returns : goal.returns
returns c = assigned_above c.args.assignments.now c.loop-assignment.count c.loop-assignment.assignment-index (omega arith) c.loop-assignment.invariant
