use Rattle.std.proofs.Common.{length, map}
use Rattle.graph_core.specs.Graphs.{operand_view}
use Rattle.rv_emit_runs.specs.Passing.{AreWords}
use Rattle.rv_emit.proofs.constants.operands_are_words.Given as goal

abbrev pub invariant-loop-left : goal.invariant-loop-left
invariant-loop-left l = AreWords (map operand_view l.left) → AreWords (map operand_view l.fn.operands)

abbrev pub decreases-loop-left : goal.decreases-loop-left
decreases-loop-left l = length l.left
