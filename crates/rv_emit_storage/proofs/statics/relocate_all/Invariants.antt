use Rattle.std.proofs.Common.{◌≡◌, length}
use Rattle.rv_emit_storage.specs.Filled.{with_relocations}
use Rattle.rv_emit_storage.proofs.statics.relocate_all.Given as goal

abbrev pub invariant-loop-last : goal.invariant-loop-last
invariant-loop-last l = with_relocations l.statics.objects.items l.size l.left l.bytes.items ≡ with_relocations l.statics.objects.items l.size l.fn.relocations l.fn.bytes.items

abbrev pub decreases-loop-last : goal.decreases-loop-last
decreases-loop-last l = length l.left
