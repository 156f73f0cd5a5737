-- What is found at places.
use Rattle.std.specs.Prelude.{◌≡◌, ◌≢◌, ℕ, ◌-◌, ◌≤◌, ◌<◌, ◌⊎◌, Bool, true, false, Option, Some, None, List, [], ◌∷◌, length, slice_get, slice_set, get_or}
use Rattle.std.specs.Option.{option_map_or}
use Rattle.debug_records.specs.declared.change.Var as declared-var
use Rattle.places.specs.declared.table.PlaceRow as declared-row
use Rattle.places.specs.declared.table.PlaceTable as declared-table
use Rattle.std.specs.Global.{Vec}
use Rattle.graph_core.specs.Graphs.{End, Graph, Instruction, Marker, Recipe, Of, Name, recipe_view}
use Rattle.graph_core.specs.Validity.{markers_of_blocks}
use Rattle.graph_paths.specs.Reached.{IsReached}
use Rattle.graph_core.specs.Paths.{Among}
use Rattle.currency_notes.specs.declared.homes.Homes as declared-homes
use Rattle.currency_notes.specs.declared.state.State as declared-state
use Rattle.currency_notes.specs.Notes.{recipe_in, told_in, AreHeld}
use Rattle.currency_shown.specs.declared.numbering.Numbering as declared-numbering
use Rattle.currency_shown.specs.declared.found.LastNote as declared-last
use Rattle.currency_shown.specs.declared.found.Unshown as declared-unshown
use Rattle.currency_shown.specs.declared.found.Found as declared-found
use Rattle.currency_shown.specs.Numbering.{scalar_in}

-- the places that are told of a scalar
abbrev pub entries_of : List (Vec declared-unshown.Unshown) → (x : ℕ) → List declared-unshown.Unshown
entries_of all x = option_map_or (λ v. v.items) (slice_get all x) []

-- a place was met
abbrev pub is_met : declared-found.Found → (p : ℕ) → Bool
is_met found p = get_or found.met.items p false

-- The scalars that variables are are so many.
abbrev pub AreBelow : declared-numbering.Numbering → (count : ℕ) → Type 0
AreBelow numbering count = (variable x : ℕ) → scalar_in numbering variable ≡ Some x → x < count

-- a scalar is one of these variables
abbrev pub IsSeen : declared-numbering.Numbering → List declared-var.Var → (x : ℕ) → Type 0
IsSeen numbering visible x = (v : declared-var.Var) × Among v visible × (scalar_in numbering v.0 ≡ Some x)

-- More is told of these scalars alone.
abbrev pub AreOnlyOf : (ℕ → Type 0) → (old new : List (Vec declared-unshown.Unshown)) → Type 0
AreOnlyOf Is old new =
    (x : ℕ) (u : declared-unshown.Unshown) → Among u (entries_of new x) → Among u (entries_of old x) ⊎ Is x

-- A place of a table, of the function of this number.
pub record IsPlaceOf (table : declared-table.PlaceTable) (number p : ℕ) : Type 0 where
  pub row : declared-row.PlaceRow
  pub some : 1 ≤ p
  pub is : slice_get table.rows.items (p - 1) ≡ Some row
  pub of : row.function ≡ number

-- Each place that a block of a graph begins is one of the function of this number.
abbrev pub ArePlacesOf : declared-table.PlaceTable → (number : ℕ) → Graph → Type 0
ArePlacesOf table number g = (p : ℕ) → Among p (markers_of_blocks g.blocks) → IsPlaceOf table number p

-- A path of a graph reaches the marker of a place.
pub record IsPlaceReached (g : Graph) (p : ℕ) : Type 0 where
  pub block : ℕ
  pub rest : List Instruction
  pub end : End
  pub reached : IsReached g block (Marker p ∷ rest) end

module _ (m : declared-homes.Homes) (s : declared-state.State) where
  -- its home shows a scalar
  abbrev pub IsShownBy : (x : ℕ) → Type 0
  IsShownBy x = (recipe_in s.noted.items x ≡ Some (Of (Name x))) × AreHeld m s (Of (Name x))

  -- what is last noted shows a scalar, and is not its own value, if it is told, with the change that is told beside it;
  -- else nothing but its own value does
  abbrev pub Shows : (x : ℕ) → Option declared-last.LastNote → Type 0
  Shows x None = (r : Recipe) → recipe_in s.noted.items x ≡ Some r → AreHeld m s r → r ≡ Of (Name x)
  Shows x (Some l) =
      (recipe_in s.noted.items x ≡ Some (recipe_view l.recipe.now)) × AreHeld m s (recipe_view l.recipe.now)
      × (recipe_view l.recipe.now ≢ Of (Name x)) × (told_in s.noted.items x ≡ Some l.change)

  -- A scalar is shown at a place by its home, or the place is told of it.
  abbrev pub IsTold : (p : ℕ) → List (Vec declared-unshown.Unshown) → (x : ℕ) → Type 0
  IsTold p all x = IsShownBy x ⊎ ((u : declared-unshown.Unshown) × Among u (entries_of all x) × (u.place.0 ≡ p))

  -- More is told, of a place alone, what shows a scalar there does, and its home does not.
  pub record IsAdded (p : ℕ) (old new : List (Vec declared-unshown.Unshown)) : Type 0 where
    pub size : length new ≡ length old
    pub kept : (x : ℕ) (u : declared-unshown.Unshown) → Among u (entries_of old x) → Among u (entries_of new x)
    pub only : (x : ℕ) (u : declared-unshown.Unshown) → Among u (entries_of new x)
        → Among u (entries_of old x) ⊎ ((u.place.0 ≡ p) × Shows x u.last × (IsShownBy x → ⊥))

  module _ (numbering : declared-numbering.Numbering) where
    -- The scalars among these variables are shown at a place by their homes, or the place is told of them.
    abbrev pub AreVisibleTold : (p : ℕ) → List (Vec declared-unshown.Unshown) → List declared-var.Var → Type 0
    AreVisibleTold p all visible =
        (v : declared-var.Var) (x : ℕ) → Among v visible → scalar_in numbering v.0 ≡ Some x → IsTold p all x

    -- A place is met, which was not met before, and told of what is visible there.
    pub record IsNewPlace (table : declared-table.PlaceTable) (p : ℕ) (old new : declared-found.Found) : Type 0 where
      pub row : declared-row.PlaceRow
      pub some : 1 ≤ p
      pub is : slice_get table.rows.items (p - 1) ≡ Some row
      pub fresh : is_met old p ≡ false
      pub room : p < length old.met.items
      pub met : new.met.items ≡ slice_set old.met.items p true
      pub added : IsAdded p old.unshown.items new.unshown.items
      pub told : AreVisibleTold p new.unshown.items row.visible.items
      pub only : AreOnlyOf (IsSeen numbering row.visible.items) old.unshown.items new.unshown.items
