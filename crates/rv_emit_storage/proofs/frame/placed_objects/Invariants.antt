use Rattle.std.proofs.Common.{length, refl}
use Rattle.graph_core.specs.Validity.{taken_by_object}
use Rattle.graph_homes.specs.Frames.{object_offsets}
use Rattle.rv_emit_storage.proofs.Offsets.{Found}
use Rattle.rv_emit_storage.proofs.frame.placed_objects.Given as goal

abbrev pub invariant-loop-left : goal.invariant-loop-left
invariant-loop-left l = Found taken_by_object object_offsets (λ n. refl) (λ n o left. refl) l.fn.start l.fn.objects l.offsets.items l.offset l.left

abbrev pub decreases-loop-left : goal.decreases-loop-left
decreases-loop-left l = length l.left
