use Rattle.std.proofs.Common.{length, map}
use Rattle.std.specs.List.{AllByRecursion}
use Rattle.graph_core.specs.Graphs.{instruction_view}
use Rattle.rv_emit_runs.specs.Laid.{HasWords}
use Rattle.rv_emit.proofs.constants.instructions_have_words.Given as goal

abbrev pub invariant-loop-left : goal.invariant-loop-left
invariant-loop-left l = AllByRecursion HasWords (map instruction_view l.left) → AllByRecursion HasWords (map instruction_view l.fn.instructions)

abbrev pub decreases-loop-left : goal.decreases-loop-left
decreases-loop-left l = length l.left
