use Rattle.std.proofs.Common.{arith}
use Rattle.currency_hiding.proofs.Numbering.{variable_done, variable_next}
use Rattle.currency_hiding.proofs.changes.variable_count.Goals as goal

pub loop-change-init : goal.loop-change-init
loop-change-init c = λ k d lt. absurd (omega (arith, lt))

pub loop-change-preserved : goal.loop-change-preserved
loop-change-preserved c = variable_next c.args.changes.now c.loop-change.count _ c.loop-change.change-index _ c.loop-change-test.true c.count_with-count.ensures.least c.count_with-count.ensures.above c.loop-change.invariant

pub returns : goal.returns
returns c = variable_done c.args.changes.now c.loop-change.count c.loop-change.change-index (omega arith) c.loop-change.invariant
