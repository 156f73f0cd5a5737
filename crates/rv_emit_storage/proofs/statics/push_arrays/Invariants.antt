use Rattle.std.proofs.Common.{◌≡◌, ◌-◌, ◌^◌, ◌++◌, ℕ, List, length, map, min}
use Rattle.std.specs.List.{flat_map}
use Rattle.graph_core.specs.Graphs.{bytes_view}
use Rattle.graph_core.specs.Validity.{taken_by}
use Rattle.rv_emit_storage.specs.StaticAddresses.{padded}
use Rattle.rv_emit_storage.proofs.statics.push_arrays.Given as goal

abbrev pub invariant-loop-left : goal.invariant-loop-left
invariant-loop-left l =
    l.made.items ++ flat_map (λ (b : List ℕ). padded (min (taken_by (length b)) (2 ^ 64 - 1)) b) (map bytes_view l.left)
    ≡ l.fn.made.items ++ flat_map (λ (b : List ℕ). padded (min (taken_by (length b)) (2 ^ 64 - 1)) b) (map bytes_view l.fn.all)

abbrev pub decreases-loop-left : goal.decreases-loop-left
decreases-loop-left l = length l.left
