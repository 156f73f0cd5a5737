-- Which changes removed assignments in the places where the notes stand that reach a point.
use Rattle.std.specs.Prelude.{◌≡◌, ℕ, ◌-◌, true, false, if◌then◌else◌, Option, Some, None, List, [], ◌∷◌, length, option_map, slice_get, take}
use Rattle.std.specs.Option.{option_map_or}
use Rattle.graph_core.specs.Graphs.{Instruction, Block, End, Graph, Logged, Scalar}
use Rattle.graph_core.specs.Paths.{History, Path, notes}
use Rattle.graph_core.specs.Validity.{place_behind}
use Rattle.graph_core.specs.WellMarked.{IsVariable}
use Rattle.dead_pass_writes.specs.Removals.{IsFirstRemoval, IsRemoval}
use Rattle.currency_notes.specs.declared.state.State as declared-state
use Rattle.currency_notes.specs.Notes.{told_in, IsAtMost}

-- the variable of a scalar, if it is one of a graph
abbrev pub variable_in : Graph → (x : ℕ) → Option ℕ
variable_in g x = option_map (λ (s : Scalar). s.variable) (slice_get g.scalars x)

-- the place in force in a block of a graph where so many of its instructions are left
abbrev pub place_where : Graph → (block left : ℕ) → Option ℕ
place_where g n left =
    option_map_or (λ (b : Block). place_behind (take (length b.instructions - left) b.instructions) b.place)
    (slice_get g.blocks n) None

-- the place in which the last note of a scalar on a history stands, if there is one
abbrev pub noted_place : Graph → (x : ℕ) → History → Option ℕ
noted_place g x [] = None
noted_place g x (p ∷ h) = if notes x p.instruction then place_where g p.block p.left else noted_place g x h

module _ (log : List Logged) (g : Graph) where
  -- A change removed an assignment of a scalar's variable in the place where its last note on a history stands.
  pub record IsSource (x : ℕ) (h : History) (number : ℕ) : Type 0 where
    pub place : ℕ
    pub variable : ℕ
    pub stands : noted_place g x h ≡ Some place
    pub of : IsVariable g x variable
    pub removed : IsRemoval log place variable number

  -- This is the first change that removed an assignment of a scalar's variable in a place, or there is none.
  abbrev pub IsFirstOf : (place : Option ℕ) → (x : ℕ) → Option ℕ → Type 0
  IsFirstOf place x None =
      (q variable number : ℕ) → place ≡ Some q → IsVariable g x variable → IsRemoval log q variable number → ⊥
  IsFirstOf place x (Some c) =
      (q : ℕ) × (variable : ℕ) × (place ≡ Some q) × IsVariable g x variable × IsFirstRemoval log q variable c

  -- What is told behind an instruction, behind which a place is in force: of a scalar of which it is a note, the first
  -- change that removed an assignment in the place; of another one, what was told before.
  pub record IsToldBy (i : Instruction) (place : Option ℕ) (old new : declared-state.State) : Type 0 where
    pub first : (x : ℕ) (c : Option ℕ) → notes x i ≡ true → told_in new.noted.items x ≡ Some c → IsFirstOf place x c
    pub before : (x : ℕ) (c : Option ℕ) → notes x i ≡ false → told_in new.noted.items x ≡ Some c
        → told_in old.noted.items x ≡ Some c

  -- What is told of a scalar is no greater than any change that removed an assignment where its last note on a history
  -- stands.
  abbrev pub IsLeastTold : declared-state.State → History → Type 0
  IsLeastTold s h =
      (x : ℕ) (c : Option ℕ) (number : ℕ) → told_in s.noted.items x ≡ Some c → IsSource x h number → IsAtMost c number

  -- A path comes to a point, and a change that is told of a scalar in a state removed an assignment where its last note
  -- stands on some path to the point.
  pub record IsAttained (s : declared-state.State) (n : ℕ) (rest : List Instruction) (e : End) : Type 0 where
    pub history : History
    pub way : Path g history n rest e
    pub source : (x c : ℕ) → told_in s.noted.items x ≡ Some (Some c)
        → (h : History) × Path g h n rest e × IsSource x h c
