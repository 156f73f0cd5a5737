use Rattle.std.proofs.Common.{arith}
use Rattle.pass_law.proofs.InOrder.{in_order}
use Rattle.pass_law.proofs.Logging.{longer, one_more}
use Rattle.pass_law.proofs.cases.log_cases.Goals as goal

pub loop-case-preserved : goal.loop-case-preserved
loop-case-preserved c = record {
  some =
      let more = longer _ _ _ c.in_ok-push.ensures.appended in
      let some = c.loop-case.invariant.some in
      omega arith;
  few = c.loop-case.invariant.few;
  left = one_more c.args.pass c.args.kind _ _ c.sort_unstable.new.self c.loop-case.case-index _ _ _ c.loop-case-test.true c.in_ok-push.ensures.number c.in_ok-push.ensures.appended c.loop-case.invariant.left;
}

pub returns-clause-in_order : goal.returns-clause-in_order
returns-clause-in_order c = in_order _ c.sort_unstable.ensures.sorted
