-- What is written between two points of a place.
use Rattle.std.specs.Prelude.{◌≡◌, ℕ, true, false, Some, List, [], ◌∷◌, slice_get}
use Rattle.places.specs.declared.flow.Assignment.{Assignment}
use Rattle.graph_core.specs.Graphs.{Instruction, End, Block, Graph}
use Rattle.graph_core.specs.Uses.{targets_of}
use Rattle.graph_core.specs.Paths.{Among, writes, is_marker}
use Rattle.dead_pass_rule.specs.Idle.{Goes}

-- A point of a graph to which ways lead: the number of its block, and what is left of it.
module _ (g : Graph) (k : ℕ) (to : List Instruction) where
  -- another point
  abbrev pub IsApart : ℕ → List Instruction → Type 0
  IsApart n rest = n ≡ k → rest ≡ to → ⊥

  -- Some way leads to the point within a place: it passes no marker, and ends where it first comes to the point.
  pub data ComesTo : (n : ℕ) → List Instruction → End → Type 0 where
    there : {n : ℕ} {rest : List Instruction} {e : End} → n ≡ k → rest ≡ to → ComesTo n rest e
    passes : {n : ℕ} {i : Instruction} {rest : List Instruction} {e : End} → IsApart n (i ∷ rest) → is_marker i ≡ false
        → ComesTo n rest e → ComesTo n (i ∷ rest) e
    leads : {n l : ℕ} {e : End} (b : Block) → Among l (targets_of e) → slice_get g.blocks l ≡ Some b
        → ComesTo l b.instructions b.end → ComesTo n [] e

module _ (assignments : List Assignment) (g : Graph) (k : ℕ) (to : List Instruction) where
  -- And on one such way there is a write of a name that stays.
  pub data IsWrittenBetween (y : ℕ) : (n : ℕ) → List Instruction → End → Type 0 where
    written : {n : ℕ} {i : Instruction} {rest : List Instruction} {e : End} → IsApart g k to n (i ∷ rest)
        → writes y i ≡ true → (Goes assignments g n (i ∷ rest) e → ⊥) → ComesTo g k to n rest e
        → IsWrittenBetween y n (i ∷ rest) e
    passes : {n : ℕ} {i : Instruction} {rest : List Instruction} {e : End} → IsApart g k to n (i ∷ rest)
        → is_marker i ≡ false → IsWrittenBetween y n rest e → IsWrittenBetween y n (i ∷ rest) e
    leads : {n l : ℕ} {e : End} (b : Block) → Among l (targets_of e) → slice_get g.blocks l ≡ Some b
        → IsWrittenBetween y l b.instructions b.end → IsWrittenBetween y n [] e
