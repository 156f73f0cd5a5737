-- What verdicts say on all paths.
use Rattle.std.specs.Prelude.{◌≡◌, ◌≢◌, ℕ, ◌<◌, ◌≤◌, ◌⊎◌, Some, List, ◌∷◌, length, slice_get}
use Rattle.places.specs.declared.table.PlaceTable as declared-table
use Rattle.graph_homes.specs.Homes.{HoldsOnAllPaths}
use Rattle.graph_core.specs.declared.recipe.Recipe as declared-recipe
use Rattle.graph_core.specs.Graphs.{Instruction, Marker, End, Graph, Recipe, Of, Name, recipe_view}
use Rattle.graph_core.specs.Paths.{Among, History, Path}
use Rattle.graph_core.specs.WellMarked.{IsVariable}
use Rattle.graph_homes.specs.Homed.{HomedForm, HaveHomes, home_of, homes_in}
use Rattle.currency_shown.specs.Found.{IsPlaceOf, IsPlaceReached}
use Rattle.currency_shown.specs.Shown.{ArePlaced, IsHiddenAt, IsLeastAt, IsVisible}
use Rattle.currency.specs.declared.telling.ToldVariable as declared-variable
use Rattle.currency.specs.declared.told.ToldPlaces as declared-places
use Rattle.currency.specs.declared.verdict.Verdict as declared-verdict
use Rattle.currency.specs.declared.verdict.Verdict.TheVariants as verdict
use Rattle.currency.specs.declared.verdict.PlaceVerdict as declared-row
use Rattle.currency.specs.Telling.{told_at, IsSomethingTold, IsToldRight}

-- a verdict says that a variable is hidden
abbrev pub IsHidden : declared-verdict.Verdict → Type 0
IsHidden verdict.Home = ⊥
IsHidden (verdict.Recovered r c) = ⊥
IsHidden (verdict.Noncurrent c start w q) = Unit {0}
IsHidden (verdict.Nonresident c start w q) = Unit {0}

module _ (u : HomedForm) where
  -- A path of some function of a unit reaches a place.
  pub record IsReached (p : ℕ) : Type 0 where
    pub function : ℕ
    pub graph : Graph
    pub is : slice_get u.unit.graphs function ≡ Some graph
    pub reached : IsPlaceReached graph p

  -- What is told of the first functions of a unit.
  pub record AreFunctionsTold (table : declared-table.PlaceTable) (count : ℕ) (told : declared-places.ToldPlaces)
      : Type 0 where
    pub placed : (f : ℕ) (g : Graph) → f < count → slice_get u.unit.graphs f ≡ Some g → ArePlaced g f table
    pub own : (f : ℕ) (g : Graph) (p x variable : ℕ) → f < count → slice_get u.unit.graphs f ≡ Some g
        → IsVariable g x variable → IsVisible table p variable
        → HoldsOnAllPaths (home_of u f) g p x (Of (Name x)) ⊎ IsSomethingTold told p variable
    pub right : (p : ℕ) (t : declared-variable.ToldVariable) (f : ℕ) (g : Graph) → Among t (told_at told p) → f < count
        → slice_get u.unit.graphs f ≡ Some g → IsToldRight u.unit.log (homes_in u f) g p t t.told
    pub of : (p : ℕ) (t : declared-variable.ToldVariable) → Among t (told_at told p)
        → (f : ℕ) × (f < count) × IsPlaceOf table f p
    pub reached : (p : ℕ) (t : declared-variable.ToldVariable) → Among t (told_at told p) → IsReached p

  -- What is told of all its functions.
  abbrev pub AreSo : declared-table.PlaceTable → declared-places.ToldPlaces → Type 0
  AreSo table told = AreFunctionsTold table (length u.unit.graphs) told

  -- Where a verdict says that the home of a variable shows it, and the variable is a scalar of a function, on each path
  -- of the function to the place its last note is its own value, its home was last written for it, and was not written
  -- behind the note. Of a variable in memory nothing is said: no home is read for it.
  abbrev pub AreHome : List declared-row.PlaceVerdict → Type 0
  AreHome rows =
      (w : declared-row.PlaceVerdict) → Among w rows → w.verdict ≡ verdict.Home → (f x : ℕ) (g : Graph)
      → slice_get u.unit.graphs f ≡ Some g → IsVariable g x w.var.0
      → HoldsOnAllPaths (home_of u f) g w.place.0 x (Of (Name x))

  -- Where a verdict gives a recipe for a variable, that holds so.
  abbrev pub AreRecovered : List declared-row.PlaceVerdict → Type 0
  AreRecovered rows =
      (w : declared-row.PlaceVerdict) (r : declared-recipe.Recipe) (change : ℕ) → Among w rows
      → w.verdict ≡ verdict.Recovered r change → (f x : ℕ) (g : Graph) → slice_get u.unit.graphs f ≡ Some g
      → IsVariable g x w.var.0
      → HoldsOnAllPaths (home_of u f) g w.place.0 x (recipe_view r)

  -- Where a verdict gives a recipe for a variable, and a path reaches the place, its home does not show it there: its
  -- own value does not hold on all paths.
  abbrev pub AreApart : List declared-row.PlaceVerdict → Type 0
  AreApart rows =
      (w : declared-row.PlaceVerdict) (r : declared-recipe.Recipe) (change : ℕ) → Among w rows
      → w.verdict ≡ verdict.Recovered r change → (f x : ℕ) (g : Graph) → slice_get u.unit.graphs f ≡ Some g
      → IsVariable g x w.var.0
      → (h : History) (n : ℕ) (rest : List Instruction) (e : End) → Path g h n (Marker w.place.0 ∷ rest) e
      → HoldsOnAllPaths (home_of u f) g w.place.0 x (Of (Name x)) → ⊥

  -- Where a verdict gives a recipe for a variable, and a path reaches the place, no other recipe holds there on all
  -- paths.
  abbrev pub AreOnly : List declared-row.PlaceVerdict → Type 0
  AreOnly rows =
      (w : declared-row.PlaceVerdict) (r : declared-recipe.Recipe) (change : ℕ) → Among w rows
      → w.verdict ≡ verdict.Recovered r change → (f x : ℕ) (g : Graph) → slice_get u.unit.graphs f ≡ Some g
      → IsVariable g x w.var.0
      → (h : History) (n : ℕ) (rest : List Instruction) (e : End) → Path g h n (Marker w.place.0 ∷ rest) e
      → (other : Recipe) → HoldsOnAllPaths (home_of u f) g w.place.0 x other → other ≡ recipe_view r

  -- Where a verdict gives a recipe for a variable, and a path reaches the place, the change that it names is the least
  -- that removed an assignment of the variable in a place where its last note stands on some path to there.
  abbrev pub AreLeast : List declared-row.PlaceVerdict → Type 0
  AreLeast rows =
      (w : declared-row.PlaceVerdict) (r : declared-recipe.Recipe) (change : ℕ) → Among w rows
      → w.verdict ≡ verdict.Recovered r change → (f x : ℕ) (g : Graph) → slice_get u.unit.graphs f ≡ Some g
      → IsVariable g x w.var.0
      → IsLeastAt u.unit.log g w.place.0 x (Some change)

  -- Where a verdict says that a variable is hidden, no recipe holds there on all paths, its own value neither, if a
  -- path reaches the place. The names have their homes, and are at least one and not more than numbers of 32 bits tell
  -- apart beside the registers.
  abbrev pub AreHidden : List declared-row.PlaceVerdict → Type 0
  AreHidden rows =
      (w : declared-row.PlaceVerdict) → Among w rows → IsHidden w.verdict → HaveHomes u → (f x : ℕ) (g : Graph)
      → slice_get u.unit.graphs f ≡ Some g → 1 ≤ g.name_count → g.name_count ≤ 4294967264 → IsVariable g x w.var.0
      → IsHiddenAt (home_of u f) g w.place.0 x

  -- Where a verdict says anything but that its home shows a variable, some path reaches the place: at a place that no
  -- path reaches each variable is said to be shown by its home.
  abbrev pub AreReached : List declared-row.PlaceVerdict → Type 0
  AreReached rows = (w : declared-row.PlaceVerdict) → Among w rows → w.verdict ≢ verdict.Home → IsReached w.place.0
