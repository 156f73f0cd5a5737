use Rattle.std.proofs.Common.{◌≡◌, ◌++◌, length, map}
use Rattle.graph_core.specs.Graphs.{block_view}
use Rattle.rv_emit_sequence.specs.Sequences.{numbers_from}
use Rattle.rv_emit_sequence.proofs.sequence.numbers_of.Given as goal

abbrev pub invariant-loop-left : goal.invariant-loop-left
invariant-loop-left l = l.numbers.items ++ numbers_from l.number (map block_view l.left) ≡ numbers_from 0 (map block_view l.blocks)

abbrev pub decreases-loop-left : goal.decreases-loop-left
decreases-loop-left l = length l.left
