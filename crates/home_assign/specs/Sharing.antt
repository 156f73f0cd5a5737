-- Which scalars share their registers with other names, and the changes that tell of it.
use Rattle.std.specs.Prelude.{◌≡◌, ◌≢◌, ◌+◌, ◌==◌, ◌&&◌, ℕ, Bool, false, not, Some, List, [], ◌∷◌, ◌++◌, slice_get}
use Rattle.std.specs.Option.{option_map_or}
use Rattle.debug_records.specs.declared.change.PassName.{PassName}
use Rattle.debug_records.specs.declared.change.Kind.TheVariants.{Reused}
use Rattle.graph_core.specs.Graphs.{Graph, Logged, Scalar}
use Rattle.graph_homes.specs.declared.home.Home.{Home}
use Rattle.graph_homes.specs.declared.home.Home.TheVariants.{Register, Slot}
use Rattle.graph_homes.specs.Reused.{IsReused}
use Rattle.home_assign.specs.declared.pairs.Pairs.{Pairs}
use Rattle.home_assign.specs.Pairs.{has}

-- the home of a name
abbrev pub home_in : List Home → ℕ → Home
home_in homes x = option_map_or (λ home. home) (slice_get homes x) (Slot 0)

-- a name is neither a scalar nor one of the scalar's own
abbrev pub is_other : Pairs → (x y : ℕ) → Bool
is_other own x y = not (y == x) && not (has own x y)

-- a name that is neither the scalar nor one of its own has the scalar's register
pub record IsForeign (homes : List Home) (own : Pairs) (x : ℕ) : Type 0 where
  pub register : ℕ
  pub y : ℕ
  pub kept : slice_get homes x ≡ Some (Register register)
  pub shared : slice_get homes y ≡ Some (Register register)
  pub other : y ≢ x
  pub foreign : has own x y ≡ false

-- what is logged of a scalar whose register other names have too: at its place, of its variable
abbrev pub change_of : PassName → Scalar → Logged
change_of pass s = record { pass = pass; kind = Reused; place = s.place; variable = s.variable }

module _ (made : List Logged) (home : ℕ → Home) (g : Graph) (pass : PassName) where
  -- The changes of these scalars, the first of which has this number: for each in order one change if its register was
  -- given to another name too, and else none.
  pub data AreShared : (x : ℕ) → List Scalar → List Logged → Type 0 where
    none : {x : ℕ} → AreShared x [] []
    shared : {x : ℕ} {s : Scalar} {more : List Scalar} {all : List Logged} → IsReused made home g x s.variable
        → AreShared (x + 1) more all → AreShared x (s ∷ more) (change_of pass s ∷ all)
    own : {x : ℕ} {s : Scalar} {more : List Scalar} {all : List Logged} → (IsReused made home g x s.variable → ⊥)
        → AreShared (x + 1) more all → AreShared x (s ∷ more) all

  -- The log goes on with the changes of these scalars, the first of which has the number 0.
  pub record AreLogged (scalars : List Scalar) (old new : List Logged) : Type 0 where
    pub all : List Logged
    pub are : AreShared 0 scalars all
    pub log : new ≡ old ++ all
