use Rattle.std.proofs.Common.{◌≡◌, ◌++◌, length}
use Rattle.rv_emit_layout.specs.Layouts.{longest_view, reaches_from}
use Rattle.rv_emit_layout.proofs.layout.Longest.reaches_of.Given as goal

abbrev pub invariant-loop-left : goal.invariant-loop-left
invariant-loop-left l = l.reaches.items ++ reaches_from (longest_view l.self) l.sequence.labels.items l.index l.left ≡ reaches_from (longest_view l.self) l.sequence.labels.items 0 l.sequence.pieces.items

abbrev pub decreases-loop-left : goal.decreases-loop-left
decreases-loop-left l = length l.left
