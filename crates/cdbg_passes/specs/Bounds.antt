-- What passes do where counts are bounded.
use Rattle.std.specs.Prelude.{◌≡◌, ◌⊎◌, ℕ, suc, ◌≤◌, Some, List, ◌∷◌, ◌++◌, length, slice_get, take, drop}
use Rattle.memory_map.specs.declared.map.Room.{Room}
use Rattle.graph_core.specs.Graphs.{Graph}
use Rattle.graph_core.specs.Validity.{arguments_of, instructions_of}
use Rattle.motion_pass_placement.specs.Moves.{IsWithin}
use Rattle.motion_pass_placement.specs.Moving.{IsMoved}

-- A FUNCTION DOES NOT GROW: it has no more names, blocks, instructions that are counted, and arguments of calls.
pub record NeverGrows (g h : Graph) : Type 0 where
  pub names : h.name_count ≤ g.name_count
  pub blocks : length h.blocks ≤ length g.blocks
  pub instructions : instructions_of h ≤ instructions_of g
  pub arguments : arguments_of h ≤ arguments_of g

-- Why code motion leaves a function as it was: what the rule makes of it is the same, or would take the unit beyond a
-- bound, with the functions before it as they became and those behind it as they were.
pub record IsLeftForBounds (room : Room) (before : List Graph) (g : Graph) (behind : List Graph) : Type 0 where
  pub moved : Graph
  pub is : IsMoved g moved
  pub why : (moved ≡ g) ⊎ (IsWithin room moved (before ++ moved ∷ behind) → ⊥)

-- FUNCTIONS ARE LEFT FOR BOUNDS ALONE: so it is of each that is behind the pass what it was before.
abbrev pub AreLeftForBounds : Room → (gs hs : List Graph) → Type 0
AreLeftForBounds room gs hs =
    (k : ℕ) (g : Graph) → slice_get gs k ≡ Some g → slice_get hs k ≡ Some g
    → IsLeftForBounds room (take k hs) g (drop (suc k) gs)
