use Rattle.std.proofs.Common.{ℕ, List, length, map, refl}
use Rattle.graph_core.specs.declared.unit.Bytes.{Bytes}
use Rattle.graph_core.specs.Graphs.{bytes_view}
use Rattle.graph_core.specs.Validity.{taken_by}
use Rattle.rv_emit_storage.specs.StaticAddresses.{addresses_from}
use Rattle.rv_emit_storage.proofs.Offsets.{Found}
use Rattle.rv_emit_storage.proofs.statics.placed_arrays.Given as goal

abbrev pub invariant-loop-left : goal.invariant-loop-left
invariant-loop-left l = Found (λ (o : Bytes). taken_by ((λ (b : List ℕ). length b) (bytes_view o))) (λ n xs. addresses_from n (map (λ (b : List ℕ). length b) (map bytes_view xs))) (λ n. refl) (λ n o left. refl) l.fn.start l.fn.all l.offsets.items l.address l.left

abbrev pub decreases-loop-left : goal.decreases-loop-left
decreases-loop-left l = length l.left
