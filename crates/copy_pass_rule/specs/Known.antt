-- Instructions that make no copy, and types of scalars.
use Rattle.std.specs.Prelude.{◌≡◌, ℕ, Option, List, slice_get, option_map}
use Rattle.graph_core.specs.Graphs.{Name, Instruction, Move, Scalar}
use Rattle.copy_pass_rule.specs.Copying.{AreOfOneType}

-- It does not move one scalar to another of the same type.
abbrev pub IsNoCopy : List Scalar → Instruction → Type 0
IsNoCopy scalars i = (x y : ℕ) → i ≡ Move x (Name y) → AreOfOneType scalars x y → ⊥

-- the type of a scalar, if there is one of this number
abbrev pub type_in : List Scalar → (x : ℕ) → Option ℕ
type_in scalars x = option_map (λ (s : Scalar). s.of) (slice_get scalars x)
