use Rattle.std.proofs.Common.{◌≡◌, ◌++◌, length}
use Rattle.rv_emit_layout.specs.Layouts.{offsets_from}
use Rattle.rv_emit_layout.proofs.layout.offsets_of.Given as goal

abbrev pub invariant-loop-left : goal.invariant-loop-left
invariant-loop-left l = l.offsets.items ++ offsets_from l.reaches l.index l.words l.left ≡ offsets_from l.reaches 0 0 l.pieces

abbrev pub decreases-loop-left : goal.decreases-loop-left
decreases-loop-left l = length l.left
