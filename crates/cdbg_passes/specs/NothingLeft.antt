-- That a pass leaves nothing that it could still do, said of what it made.
use Rattle.std.specs.Prelude.{◌≡◌, ◌⊎◌, ℕ, suc, Some, List, ◌∷◌, ◌++◌, slice_get, take, drop}
use Rattle.memory_map.specs.declared.map.Room.{Room}
use Rattle.graph_core.specs.Graphs.{Instruction, End, Graph, UnitForm}
use Rattle.graph_core.specs.Uses.{target_of}
use Rattle.graph_core.specs.Paths.{Among}
use Rattle.graph_core.specs.Points.{IsUnread, StandsWith, reads_at}
use Rattle.graph_paths.specs.Reached.{IsReached}
use Rattle.copy_pass_rule.specs.Copying.{IsCopied}
use Rattle.dead_pass_rule.specs.Idle.{MayGo}
use Rattle.motion_pass_placement.specs.Moves.{IsWithin}
use Rattle.motion_pass_placement.specs.Moving.{IsMoved}
use Rattle.motion_pass_laws.specs.Often.{HasNothingAgain}
use Rattle.motion_pass_laws.specs.Optimal.{IsOptimal}

-- NO COPY REACHES A READ: at no point that a path comes to is a scalar read to which one instruction copied another
-- scalar of its type on every path, with neither written since.
abbrev pub HasNoCopies : Graph → Type 0
HasNoCopies h =
    (n : ℕ) (rest : List Instruction) (e : End) (x y : ℕ) → IsReached h n rest e → Among x (reads_at rest e)
    → IsCopied h x y n rest e → ⊥

-- NO WRITE IS DEAD: where a path comes to a write of a temporary, or of a scalar in a place that assigns its variable
-- and writes it once, with the binding of a parameter counted, some way from there reads the name before it is written
-- again.
abbrev pub HasNoDead : UnitForm → Graph → Type 0
HasNoDead u h =
    (n p x : ℕ) (i : Instruction) (rest : List Instruction) (e : End) → IsReached h n (i ∷ rest) e
    → StandsWith h p n (i ∷ rest) e → target_of i ≡ Some x → MayGo u.assignments h p x → IsUnread h x n rest e → ⊥

-- What code motion would make of a function takes the unit beyond a bound, with the functions before it as they became
-- and those behind it as they were.
pub record IsBeyondBounds (room : Room) (before : List Graph) (g : Graph) (behind : List Graph) : Type 0 where
  pub moved : Graph
  pub is : IsMoved g moved
  pub beyond : IsWithin room moved (before ++ moved ∷ behind) → ⊥

-- NOTHING IS COMPUTED AGAIN in any function behind code motion, but where it left the function as it was for a bound.
abbrev pub ComputeNothingAgain : Room → (gs hs : List Graph) → Type 0
ComputeNothingAgain room gs hs =
    (k : ℕ) (g h : Graph) → slice_get gs k ≡ Some g → slice_get hs k ≡ Some h
    → HasNothingAgain h ⊎ ((h ≡ g) × IsBeyondBounds room (take k hs) g (drop (suc k) gs))

-- EACH FUNCTION IS COMPUTATIONALLY OPTIMAL behind code motion, but where it left the function as it was for a bound.
abbrev pub AreOptimal : Room → (gs hs : List Graph) → Type 0
AreOptimal room gs hs =
    (k : ℕ) (g h : Graph) → slice_get gs k ≡ Some g → slice_get hs k ≡ Some h
    → IsOptimal g h ⊎ ((h ≡ g) × IsBeyondBounds room (take k hs) g (drop (suc k) gs))
