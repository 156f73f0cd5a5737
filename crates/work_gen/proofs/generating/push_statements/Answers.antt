use Rattle.std.proofs.Common.{◌∙◌, arith}
use Rattle.work_gen.proofs.Statements.{one_more}
use Rattle.work_gen.proofs.generating.push_statements.Goals as goal

pub loop-left-preserved : goal.loop-left-preserved
loop-left-preserved c =
    one_more c.loop-left.text.items _ _ c.loop-left.left c.loop-left.state c.next-state.result (omega arith) c.next-state.ensures c.in_ok-push_statement.ensures
    ∙ c.loop-left.invariant
