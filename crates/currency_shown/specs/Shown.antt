-- What is told of the scalars that their homes do not show, on all paths.
use Rattle.std.specs.Prelude.{◌≡◌, ◌≢◌, ℕ, ◌+◌, ◌-◌, ◌≤◌, ◌<◌, min, Option, Some, None, List, ◌∷◌, length, slice_get}
use Rattle.std.specs.Global.{Vec}
use Rattle.debug_records.specs.declared.change.Var as declared-var
use Rattle.places.specs.declared.table.PlaceRow as declared-row
use Rattle.places.specs.declared.table.PlaceTable as declared-table
use Rattle.graph_homes.specs.declared.home.Home.{Home}
use Rattle.graph_homes.specs.Homes.{HoldsOnAllPaths}
use Rattle.graph_core.specs.Graphs.{Instruction, Marker, End, Graph, Logged, Recipe, Of, Name, recipe_view}
use Rattle.graph_core.specs.Paths.{Among, History, Path}
use Rattle.graph_core.specs.WellMarked.{IsVariable}
use Rattle.currency_notes.specs.Homes.{home_in, number_at}
use Rattle.currency_notes.specs.Sources.{IsSource}
use Rattle.currency_shown.specs.declared.found.LastNote as declared-last
use Rattle.currency_shown.specs.declared.found.Unshown as declared-unshown
use Rattle.currency_shown.specs.Found.{entries_of, IsPlaceOf, IsPlaceReached}

-- Each place whose marker some path reaches is one of the function.
abbrev pub ArePlaced : Graph → (number : ℕ) → declared-table.PlaceTable → Type 0
ArePlaced g number table =
    (h : History) (n p : ℕ) (rest : List Instruction) (e : End) → Path g h n (Marker p ∷ rest) e
    → IsPlaceOf table number p

-- a variable is visible at a place of a table
pub record IsVisible (table : declared-table.PlaceTable) (p variable : ℕ) : Type 0 where
  pub row : declared-row.PlaceRow
  pub var : declared-var.Var
  pub some : 1 ≤ p
  pub is : slice_get table.rows.items (p - 1) ≡ Some row
  pub among : Among var row.visible.items
  pub of : var.0 ≡ variable

-- Each place that is told of is one of the function.
abbrev pub AreTheirs : List (Vec declared-unshown.Unshown) → (number : ℕ) → declared-table.PlaceTable → Type 0
AreTheirs found number table =
    (x : ℕ) (u : declared-unshown.Unshown) → Among u (entries_of found x) → IsPlaceOf table number u.place.0

-- Each place that is told of is one that a path reaches.
abbrev pub AreReached : Graph → List (Vec declared-unshown.Unshown) → Type 0
AreReached g found = (x : ℕ) (u : declared-unshown.Unshown) → Among u (entries_of found x) → IsPlaceReached g u.place.0

-- Each place that is told of is one where the scalar's variable is visible.
abbrev pub AreVisible : Graph → declared-table.PlaceTable → List (Vec declared-unshown.Unshown) → Type 0
AreVisible g table found =
    (x variable : ℕ) (u : declared-unshown.Unshown) → Among u (entries_of found x) → IsVariable g x variable
    → IsVisible table u.place.0 variable

-- No two scalars are one variable.
abbrev pub AreDifferent : Graph → Type 0
AreDifferent g = (x y variable : ℕ) → IsVariable g x variable → IsVariable g y variable → x ≡ y

-- no entry of a scalar is of this place
abbrev pub IsNoEntry : List (Vec declared-unshown.Unshown) → (x p : ℕ) → Type 0
IsNoEntry found x p = (u : declared-unshown.Unshown) → Among u (entries_of found x) → u.place.0 ≡ p → ⊥

-- Where a scalar is visible and not told of, its own value holds on all paths.
abbrev pub AreOwn : (ℕ → Home) → Graph → declared-table.PlaceTable → List (Vec declared-unshown.Unshown) → Type 0
AreOwn home g table found =
    (p x variable : ℕ) → IsVariable g x variable → IsVisible table p variable → IsNoEntry found x p
    → HoldsOnAllPaths home g p x (Of (Name x))

-- Where a scalar is told of with a recipe, that holds on all paths.
abbrev pub AreRecipes : (ℕ → Home) → Graph → List (Vec declared-unshown.Unshown) → Type 0
AreRecipes home g found =
    (x : ℕ) (u : declared-unshown.Unshown) (l : declared-last.LastNote) → Among u (entries_of found x) → u.last ≡ Some l
    → HoldsOnAllPaths home g u.place.0 x (recipe_view l.recipe.now)

-- A recipe is not a scalar's own value, at a place that a path reaches.
abbrev pub IsOther : Graph → (p x : ℕ) → Recipe → Type 0
IsOther g p x r =
    (h : History) (n : ℕ) (rest : List Instruction) (e : End) → Path g h n (Marker p ∷ rest) e → r ≢ Of (Name x)

-- Where a scalar is told of with a recipe, that is not its own value.
abbrev pub AreOther : Graph → List (Vec declared-unshown.Unshown) → Type 0
AreOther g found =
    (x : ℕ) (u : declared-unshown.Unshown) (l : declared-last.LastNote) → Among u (entries_of found x) → u.last ≡ Some l
    → IsOther g u.place.0 x (recipe_view l.recipe.now)

-- Numbers tell the homes of names apart, and each is one of so many as there are at most.
pub record AreDistinct (homes : List Home) : Type 0 where
  pub told : (y z : ℕ) → number_at (home_in homes y) ≡ number_at (home_in homes z) → home_in homes y ≡ home_in homes z
  pub within : (y : ℕ) → number_at (home_in homes y) < min (length homes + 32) 18446744073709551615

-- At a place that a path reaches no recipe of a scalar holds on all paths, its own value neither.
abbrev pub IsHiddenAt : (ℕ → Home) → Graph → (p x : ℕ) → Type 0
IsHiddenAt home g p x =
    (h : History) (n : ℕ) (rest : List Instruction) (e : End) → Path g h n (Marker p ∷ rest) e → (r : Recipe)
    → HoldsOnAllPaths home g p x r → ⊥

-- Where a scalar is told of with no recipe, it is hidden so.
abbrev pub AreHidden : (ℕ → Home) → Graph → List (Vec declared-unshown.Unshown) → Type 0
AreHidden home g found =
    (x : ℕ) (u : declared-unshown.Unshown) → Among u (entries_of found x) → u.last ≡ None → x < length g.scalars
    → IsHiddenAt home g u.place.0 x

module _ (log : List Logged) (g : Graph) where
  -- The least change that removed an assignment of a scalar where its last note stands on some path to a place.
  pub record IsLeastSource (p x change : ℕ) : Type 0 where
    pub is : (h : History) × (n : ℕ) × (rest : List Instruction) × (e : End) × Path g h n (Marker p ∷ rest) e
        × IsSource log g x h change
    pub least : (h : History) (n : ℕ) (rest : List Instruction) (e : End) → Path g h n (Marker p ∷ rest) e → (other : ℕ)
        → IsSource log g x h other → change ≤ other

  -- At a place that a path reaches this is that change, or there is none.
  abbrev pub IsLeastAt : (p x : ℕ) → Option ℕ → Type 0
  IsLeastAt p x None =
      (h : History) (n : ℕ) (rest : List Instruction) (e : End) → Path g h n (Marker p ∷ rest) e → (other : ℕ)
      → IsSource log g x h other → ⊥
  IsLeastAt p x (Some change) =
      (h : History) (n : ℕ) (rest : List Instruction) (e : End) → Path g h n (Marker p ∷ rest) e
      → IsLeastSource p x change

  -- Where a scalar is told of with a recipe, the change beside it is that one.
  abbrev pub AreLeast : List (Vec declared-unshown.Unshown) → Type 0
  AreLeast found =
      (x : ℕ) (u : declared-unshown.Unshown) (l : declared-last.LastNote) → Among u (entries_of found x)
      → u.last ≡ Some l → IsLeastAt u.place.0 x l.change
