-- Registers that are given to more than one name: when the register of a scalar was given to another name too.
use Rattle.std.specs.Prelude.{◌≡◌, ◌≢◌, ℕ, ◌<◌, ◌≤◌, ◌==◌, ◌&&◌, if◌then◌else◌, Option, Some, None, List, [], ◌∷◌, length}
use Rattle.debug_records.specs.declared.change.Kind.TheVariants.{Moved}
use Rattle.graph_homes.specs.declared.home.Home.{Home}
use Rattle.graph_homes.specs.declared.home.Home.TheVariants.{Register}
use Rattle.graph_core.specs.Graphs.{Name, Instruction, Move, Block, Graph, Logged}
use Rattle.graph_core.specs.Paths.{Among}
use Rattle.graph_core.specs.Validity.{place_behind}
use Rattle.graph_core.specs.Points.{is_place}

-- the name of which the first copy in a place to a scalar is; what else is moved to the scalar, a constant or an
-- address, is no copy
abbrev pub first_among : (p x : ℕ) → (in_force : Option ℕ) → List Instruction → Option ℕ
first_among p x place [] = None
first_among p x place (Move y (Name m) ∷ more) =
    if is_place p place && y == x then Some m else first_among p x place more
first_among p x place (i ∷ more) = first_among p x (place_behind (i ∷ []) place) more

-- the first of two, if there is one
abbrev pub one_or_other : {A : Type 0} → Option A → Option A → Option A
one_or_other None other = other
one_or_other (Some a) other = Some a

-- the name of which the first copy in a place to a scalar is, among the blocks of a graph in order
abbrev pub first_copy : (p x : ℕ) → List Block → Option ℕ
first_copy p x [] = None
first_copy p x (b ∷ more) = one_or_other (first_among p x b.place b.instructions) (first_copy p x more)

-- A name is the temporary of a change that moved the computation of a scalar's value.
pub record IsTemporaryOf (log : List Logged) (g : Graph) (x variable t : ℕ) : Type 0 where
  pub change : Logged
  pub logged : Among change log
  pub moved : change.kind ≡ Moved
  pub of : change.variable ≡ variable
  pub copied : first_copy change.place x g.blocks ≡ Some t
  pub temporary : length g.scalars ≤ t

-- The register of a scalar was given to another name too, which is no temporary of the scalar's moved computations.
pub record IsReused (log : List Logged) (home : ℕ → Home) (h : Graph) (x variable : ℕ) : Type 0 where
  pub register : ℕ
  pub y : ℕ
  pub named : y < h.name_count
  pub other : y ≢ x
  pub kept : home x ≡ Register register
  pub shared : home y ≡ Register register
  pub foreign : IsTemporaryOf log h x variable y → ⊥
