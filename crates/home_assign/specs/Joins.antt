-- Names that are copies of each other.
use Rattle.std.specs.Prelude.{◌≡◌, ◌⊎◌, ℕ, ◌<◌, ◌≤◌, Option, Some, None, slice_get}
use Rattle.graph_core.specs.Graphs.{Move, Name, Block, Graph}
use Rattle.graph_core.specs.Paths.{Among}

-- An instruction copies one of two names to the other.
pub record AreJoined (g : Graph) (x y : ℕ) : Type 0 where
  pub n : ℕ
  pub b : Block
  pub is : slice_get g.blocks n ≡ Some b
  pub copies : Among (Move x (Name y)) b.instructions ⊎ Among (Move y (Name x)) b.instructions

-- The earliest earlier name to which a name is joined.
pub record IsFirstJoined (g : Graph) (x y : ℕ) : Type 0 where
  pub earlier_one : y < x
  pub joined : AreJoined g x y
  pub first : (z : ℕ) → z < x → AreJoined g x z → y ≤ z

-- the earliest earlier name to which a name is joined is this one, or there is none
abbrev pub IsFirst : Graph → (x : ℕ) → Option ℕ → Type 0
IsFirst g x None = (y : ℕ) → y < x → AreJoined g x y → ⊥
IsFirst g x (Some y) = IsFirstJoined g x y
