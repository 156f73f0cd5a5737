use Rattle.std.proofs.Common.{length, map}
use Rattle.std.specs.List.{AllByRecursion}
use Rattle.graph_core.specs.Graphs.{block_view}
use Rattle.rv_emit_runs.specs.Laid.{HasWordsInBlock}
use Rattle.rv_emit.proofs.constants.blocks_have_words.Given as goal

abbrev pub invariant-loop-left : goal.invariant-loop-left
invariant-loop-left l = AllByRecursion HasWordsInBlock (map block_view l.left) → AllByRecursion HasWordsInBlock (map block_view l.fn.blocks)

abbrev pub decreases-loop-left : goal.decreases-loop-left
decreases-loop-left l = length l.left
