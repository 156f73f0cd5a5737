use Rattle.std.proofs.Common.{length, map, refl}
use Rattle.graph_core.specs.declared.unit.StaticObject.{StaticObject}
use Rattle.graph_core.specs.Graphs.{static_view}
use Rattle.graph_core.specs.Memory.{static_bytes}
use Rattle.graph_core.specs.Validity.{taken_by}
use Rattle.rv_emit_storage.specs.StaticAddresses.{addresses_from}
use Rattle.rv_emit_storage.proofs.Offsets.{Found}
use Rattle.rv_emit_storage.proofs.statics.placed_objects.Given as goal

abbrev pub invariant-loop-left : goal.invariant-loop-left
invariant-loop-left l = Found (λ (o : StaticObject). taken_by (static_bytes (static_view o))) (λ n xs. addresses_from n (map static_bytes (map static_view xs))) (λ n. refl) (λ n o left. refl) l.fn.start l.fn.objects l.offsets.items l.address l.left

abbrev pub decreases-loop-left : goal.decreases-loop-left
decreases-loop-left l = length l.left
