-- What is told of variables at places.
use Rattle.std.specs.Prelude.{◌≡◌, ◌≢◌, ℕ, ◌+◌, ◌<◌, ◌⊎◌, MatchOption, Option, Some, None, List, [], slice_get, get_or}
use Rattle.std.specs.Option.{option_map_or}
use Rattle.std.specs.Global.{Vec}
use Rattle.debug_records.specs.declared.change.Place.{Place}
use Rattle.debug_records.specs.declared.change.Var as declared-var
use Rattle.places.specs.declared.table.PlaceTable as declared-table
use Rattle.graph_homes.specs.declared.home.Home.{Home}
use Rattle.graph_homes.specs.Homes.{HoldsOnAllPaths}
use Rattle.graph_core.specs.declared.graph.Scalar as declared-scalar
use Rattle.graph_core.specs.Graphs.{Graph, Logged, Of, Name, recipe_view}
use Rattle.graph_core.specs.Paths.{Among}
use Rattle.graph_core.specs.WellMarked.{IsVariable}
use Rattle.currency_notes.specs.Homes.{home_in}
use Rattle.currency_shown.specs.declared.found.LastNote as declared-last
use Rattle.currency_shown.specs.declared.found.Unshown as declared-unshown
use Rattle.currency_shown.specs.Found.{entries_of, IsPlaceOf, IsPlaceReached}
use Rattle.currency_shown.specs.Shown.{AreDistinct, ArePlaced, IsHiddenAt, IsLeastAt, IsOther, IsVisible}
use Rattle.currency_hiding.specs.declared.causes.Cause as declared-cause
use Rattle.currency_hiding.specs.declared.causes.Cause.TheVariants as cause
use Rattle.currency_hiding.specs.declared.hiding.Hiding as declared-hiding
use Rattle.currency.specs.declared.telling.Told as declared-told
use Rattle.currency.specs.declared.telling.Told.TheVariants as told
use Rattle.currency.specs.declared.telling.ToldVariable as declared-variable
use Rattle.currency.specs.declared.told.ToldPlaces as declared-places
use Rattle.currency.specs.declared.verdict.Verdict as declared-verdict
use Rattle.currency.specs.declared.verdict.Verdict.TheVariants as verdict
use Rattle.currency.specs.declared.verdict.PlaceVerdict as declared-row

-- what is told at a place
abbrev pub told_at : declared-places.ToldPlaces → (p : ℕ) → List declared-variable.ToldVariable
told_at all p = option_map_or (λ v. v.items) (slice_get all.by_place.items p) []

-- A recipe that is told is that of the last note, with the change beside it, and where none is, none shows the value.
abbrev pub IsRecipeOf : declared-told.Told → Option declared-last.LastNote → Type 0
IsRecipeOf (told.Recovered r c) last =
    (l : declared-last.LastNote) × (last ≡ Some l) × (recipe_view r.now ≡ recipe_view l.recipe.now)
    × (l.change ≡ Some c)
IsRecipeOf (told.Hidden hiding) last = last ≡ None

-- a verdict tells what hides a scalar, and beside it where a quiet path begins
abbrev pub IsCauseOf : declared-cause.Cause → (quiet : Option Place) → declared-verdict.Verdict → Type 0
IsCauseOf (cause.Removed c start) q v = v ≡ verdict.Noncurrent c (record { 0 = start }) None q
IsCauseOf (cause.Moved c start w) q v = v ≡ verdict.Noncurrent c (record { 0 = start }) (Some w) q
IsCauseOf (cause.Reused c start w) q v = v ≡ verdict.Nonresident c (record { 0 = start }) w q

-- a verdict tells all that is told to hide a scalar: the cause, and the least place at which a quiet path begins, if
-- there is one
abbrev pub IsHidingOf : declared-hiding.Hiding → declared-verdict.Verdict → Type 0
IsHidingOf h v = IsCauseOf h.cause h.quiet v

-- a verdict tells what is told
abbrev pub IsVerdictOf : declared-told.Told → declared-verdict.Verdict → Type 0
IsVerdictOf t verdict.Home = ⊥
IsVerdictOf (told.Recovered r c) (verdict.Recovered s d) = (recipe_view r.now ≡ recipe_view s) × (c ≡ d)
IsVerdictOf (told.Hidden hiding) (verdict.Recovered s d) = ⊥
IsVerdictOf (told.Hidden hiding) (verdict.Noncurrent c p w q) = IsHidingOf hiding (verdict.Noncurrent c p w q)
IsVerdictOf (told.Hidden hiding) (verdict.Nonresident c p w q) = IsHidingOf hiding (verdict.Nonresident c p w q)
IsVerdictOf (told.Recovered r c) _ = ⊥

-- a verdict tells what is told, or that the home shows the variable where nothing is
abbrev pub IsVerdictOn : Option declared-variable.ToldVariable → declared-verdict.Verdict → Type 0
IsVerdictOn None v = v ≡ verdict.Home
IsVerdictOn (Some t) v = IsVerdictOf t.told v

-- This is told of a variable at a place, and nothing else new.
pub record IsToldOne (old new : declared-places.ToldPlaces) (place : ℕ) (var : declared-var.Var)
    (what : declared-told.Told) : Type 0 where
  pub kept : (p : ℕ) (t : declared-variable.ToldVariable) → Among t (told_at old p) → Among t (told_at new p)
  pub only : (p : ℕ) (t : declared-variable.ToldVariable) → Among t (told_at new p)
      → Among t (told_at old p) ⊎ ((p ≡ place) × (t.var ≡ var) × (t.told ≡ what))
  pub told : (t : declared-variable.ToldVariable) × Among t (told_at new place) × (t.var ≡ var)

-- What is told of a variable is of an entry.
pub record IsOfEntry (var : declared-var.Var) (entries : List declared-unshown.Unshown) (p : ℕ)
    (t : declared-variable.ToldVariable) : Type 0 where
  pub entry : declared-unshown.Unshown
  pub among : Among entry entries
  pub place : entry.place.0 ≡ p
  pub of : t.var ≡ var
  pub recipe : IsRecipeOf t.told entry.last

-- Something is told of a variable at the place of each entry, and nothing else is new.
pub record AreToldOf (old new : declared-places.ToldPlaces) (var : declared-var.Var)
    (entries : List declared-unshown.Unshown) : Type 0 where
  pub kept : (p : ℕ) (t : declared-variable.ToldVariable) → Among t (told_at old p) → Among t (told_at new p)
  pub only : (p : ℕ) (t : declared-variable.ToldVariable) → Among t (told_at new p)
      → Among t (told_at old p) ⊎ IsOfEntry var entries p t
  pub told : (u : declared-unshown.Unshown) → Among u entries
      → (t : declared-variable.ToldVariable) × Among t (told_at new u.place.0) × (t.var ≡ var)

-- What is told is of an entry of a scalar.
pub record IsOfScalar (scalars : List declared-scalar.Scalar) (found : List (Vec declared-unshown.Unshown)) (p : ℕ)
    (t : declared-variable.ToldVariable) : Type 0 where
  pub x : ℕ
  pub scalar : declared-scalar.Scalar
  pub is : slice_get scalars x ≡ Some scalar
  pub of : IsOfEntry scalar.var (entries_of found x) p t

-- The same of each of a function's scalars.
pub record AreToldAll (old new : declared-places.ToldPlaces) (scalars : List declared-scalar.Scalar)
    (found : List (Vec declared-unshown.Unshown)) : Type 0 where
  pub kept : (p : ℕ) (t : declared-variable.ToldVariable) → Among t (told_at old p) → Among t (told_at new p)
  pub only : (p : ℕ) (t : declared-variable.ToldVariable) → Among t (told_at new p)
      → Among t (told_at old p) ⊎ IsOfScalar scalars found p t
  pub told : (x : ℕ) (s : declared-scalar.Scalar) (u : declared-unshown.Unshown) → slice_get scalars x ≡ Some s
      → Among u (entries_of found x)
      → (t : declared-variable.ToldVariable) × Among t (told_at new u.place.0) × (t.var ≡ s.var)

-- something is told of a variable at a place
pub record IsSomethingTold (all : declared-places.ToldPlaces) (p variable : ℕ) : Type 0 where
  pub t : declared-variable.ToldVariable
  pub among : Among t (told_at all p)
  pub of : t.var.0 ≡ variable

-- A recipe that is told gives the variable's value on all paths of a function, of which it is a scalar, and is not its
-- own value, and its change is the least of those where its notes stand; where none is told, none does, if numbers tell
-- homes apart.
abbrev pub IsToldRight : List Logged → List Home → Graph → (p : ℕ) → declared-variable.ToldVariable → declared-told.Told
    → Type 0
IsToldRight log homes g p t (told.Recovered r c) =
    (x : ℕ) → IsVariable g x t.var.0
    → HoldsOnAllPaths (home_in homes) g p x (recipe_view r.now) × IsOther g p x (recipe_view r.now)
    × IsLeastAt log g p x (Some c)
IsToldRight log homes g p t (told.Hidden hiding) =
    AreDistinct homes → (x : ℕ) → IsVariable g x t.var.0 → IsHiddenAt (home_in homes) g p x

-- What is told of a function: of each scalar that is visible at a place, its own value holds on all paths, or something
-- is told of it; and what is told is right, at places that paths reach.
pub record IsFunctionTold (log : List Logged) (homes : List Home) (g : Graph) (number : ℕ)
    (table : declared-table.PlaceTable) (old new : declared-places.ToldPlaces) : Type 0 where
  pub placed : ArePlaced g number table
  pub kept : (p : ℕ) (t : declared-variable.ToldVariable) → Among t (told_at old p) → Among t (told_at new p)
  pub only : (p : ℕ) (t : declared-variable.ToldVariable) → Among t (told_at new p)
      → Among t (told_at old p) ⊎ (IsPlaceOf table number p × IsToldRight log homes g p t t.told)
  pub reached : (p : ℕ) (t : declared-variable.ToldVariable) → Among t (told_at new p)
      → Among t (told_at old p) ⊎ IsPlaceReached g p
  pub own : (p x variable : ℕ) → IsVariable g x variable → IsVisible table p variable
      → HoldsOnAllPaths (home_in homes) g p x (Of (Name x)) ⊎ IsSomethingTold new p variable

-- of a variable nothing is told
abbrev pub IsNoneTold : List declared-variable.ToldVariable → declared-var.Var → Type 0
IsNoneTold told v = (t : declared-variable.ToldVariable) → Among t told → t.var.0 ≢ v.0

-- of a variable this is told
abbrev pub IsToldOf : List declared-variable.ToldVariable → declared-var.Var → declared-variable.ToldVariable → Type 0
IsToldOf told v t = Among t told × (t.var.0 ≡ v.0)

-- For each variable of which something is told the number of such a thing, from 1 on, is in its slot.
abbrev pub AreSlotted : List declared-variable.ToldVariable → List ℕ → Type 0
AreSlotted told slots =
    (t : declared-variable.ToldVariable) → Among t told
    → (k : ℕ) × (one : declared-variable.ToldVariable) × (get_or slots t.var.0 0 ≡ k + 1)
    × (slice_get told k ≡ Some one) × (one.var.0 ≡ t.var.0)

-- A verdict on a variable tells what is told of it.
pub record IsRowTold (told : List declared-variable.ToldVariable) (w : declared-row.PlaceVerdict) : Type 0 where
  pub what : Option declared-variable.ToldVariable
  pub is : MatchOption what (IsNoneTold told w.var) (λ t. IsToldOf told w.var t)
  pub verdict : IsVerdictOn what w.verdict

-- The verdicts that are new are those on variables that are visible at a place, at which this is told.
abbrev pub AreTold : List declared-variable.ToldVariable → (p : ℕ) → List declared-var.Var
    → (old new : List declared-row.PlaceVerdict) → Type 0
AreTold told p visible old new =
    (w : declared-row.PlaceVerdict) → Among w new
    → Among w old ⊎ ((w.place.0 ≡ p) × Among w.var visible × IsRowTold told w)

-- Each verdict is on a variable that is visible at its place, and tells what is told of it there.
abbrev pub AreRowsTold : declared-table.PlaceTable → declared-places.ToldPlaces → List declared-row.PlaceVerdict
    → Type 0
AreRowsTold table told rows =
    (w : declared-row.PlaceVerdict) → Among w rows
    → IsVisible table w.place.0 w.var.0 × IsRowTold (told_at told w.place.0) w

-- What is told is of variables below a number.
abbrev pub AreBelow : (count : ℕ) → List declared-variable.ToldVariable → Type 0
AreBelow count told = (t : declared-variable.ToldVariable) → Among t told → t.var.0 < count
