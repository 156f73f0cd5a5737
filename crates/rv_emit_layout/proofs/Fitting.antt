-- The static memory of a valid unit has addresses that are words.
use Rattle.std.proofs.Common.{◌≡◌, ◌≤◌, ℕ, ◌+◌, List, [], ◌∷◌, ◌++◌, length, map, arith}
use Rattle.graph_core.specs.Graphs.{UnitForm}
use Rattle.graph_core.specs.Memory.{static_bytes}
use Rattle.graph_core.specs.Validity.{IsValid, taken_by, total}
use Rattle.memory_map.proofs.Facts.{map_facts}
use Rattle.rv_emit_storage.specs.UnitMaps.{map_of_unit}
use Rattle.rv_emit_storage.specs.Placed.{FitsStatics}

total_append : (xs ys : List ℕ) → total taken_by (xs ++ ys) ≡ total taken_by xs + total taken_by ys
total_append [] ys = omega arith
total_append (x ∷ xs) ys = omega (arith, total_append xs ys)

total_map : {A : Type 0} (size : A → ℕ) (xs : List A) → total taken_by (map size xs) ≡ total (λ x. taken_by (size x)) xs
total_map size [] = omega arith
total_map size (x ∷ xs) = omega (arith, total_map size xs)

pub statics_fit : (u : UnitForm) → IsValid u → FitsStatics u
statics_fit u v =
    let few : total (λ o. taken_by (static_bytes o)) u.statics + total (λ (b : List ℕ). taken_by (length b)) u.array_bytes ≤ 1048576 = v.statics in
    omega (arith, few, total_append (map static_bytes u.statics) (map (λ (b : List ℕ). length b) u.array_bytes), total_map static_bytes u.statics, total_map (λ (b : List ℕ). length b) u.array_bytes, (map_facts (map_of_unit u)).apart, (map_facts (map_of_unit u)).whole)
