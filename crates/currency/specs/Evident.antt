-- What hides variables, where that is told: evidence by a change of the log, a write and a path of the flow, and the
-- first that there is.
use Rattle.std.specs.Prelude.{◌≡◌, ◌⊎◌, ℕ, Some, option_map, List, slice_get}
use Rattle.places.specs.declared.flow.FlowTable.{FlowTable}
use Rattle.debug_records.specs.declared.change.Place.{Place}
use Rattle.debug_records.specs.declared.change.Var as declared-var
use Rattle.graph_homes.specs.declared.home.Home.{Home}
use Rattle.graph_core.specs.declared.graph.Scalar as declared-scalar
use Rattle.graph_core.specs.Graphs.{Graph, Logged}
use Rattle.graph_core.specs.Paths.{Among}
use Rattle.graph_core.specs.WellMarked.{IsVariable}
use Rattle.graph_homes.specs.Homed.{HomedForm, home_of}
use Rattle.currency_shown.specs.Found.{IsPlaceReached}
use Rattle.currency_writers.specs.declared.writers.Writers as declared-writers
use Rattle.currency_hiding.specs.declared.hiding.Hiding as declared-hiding
use Rattle.currency_hiding.specs.declared.teller.Teller as declared-teller
use Rattle.currency_hiding.specs.Evidence.{Hides}
use Rattle.currency_hiding.specs.First.{IsFirst, Tells}
use Rattle.currency_hiding.specs.Quiet.{IsLeastQuiet}
use Rattle.currency_hiding.specs.Found.{TellsBy}
use Rattle.currency.specs.declared.telling.Told as declared-told
use Rattle.currency.specs.declared.telling.Told.TheVariants as told
use Rattle.currency.specs.declared.telling.ToldVariable as declared-variable
use Rattle.currency.specs.declared.told.ToldPlaces as declared-places
use Rattle.currency.specs.declared.verdict.Verdict as declared-verdict
use Rattle.currency.specs.declared.verdict.Verdict.TheVariants as verdict
use Rattle.currency.specs.declared.verdict.PlaceVerdict as declared-row
use Rattle.currency.specs.Telling.{IsHidingOf, told_at}

-- What is told to hide a variable is evident.
abbrev pub IsHiding : (IsEvident : declared-hiding.Hiding → Type 0) → declared-told.Told → Type 0
IsHiding IsEvident (told.Recovered r c) = Unit {0}
IsHiding IsEvident (told.Hidden hiding) = IsEvident hiding

-- What is told at places that was not told before is so.
abbrev pub AreNew : (IsSo : (p : ℕ) → declared-variable.ToldVariable → Type 0) → (old new : declared-places.ToldPlaces)
    → Type 0
AreNew IsSo old new =
    (p : ℕ) (t : declared-variable.ToldVariable) → Among t (told_at new p) → Among t (told_at old p) ⊎ IsSo p t

-- What is told of a variable at a place, of which it is asked by this, is evident.
abbrev pub IsHidingOn : (IsEvident : (p : ℕ) → declared-hiding.Hiding → Type 0) → (var : declared-var.Var) → (p : ℕ)
    → declared-variable.ToldVariable → Type 0
IsHidingOn IsEvident var p t = (t.var ≡ var) × IsHiding (λ c. IsEvident p c) t.told

-- What is told is of a scalar, and evident.
pub record IsHidingScalar (t : declared-teller.Teller) (w : declared-writers.Writers)
    (scalars : List declared-scalar.Scalar) (p : ℕ) (one : declared-variable.ToldVariable) : Type 0 where
  pub x : ℕ
  pub scalar : declared-scalar.Scalar
  pub is : slice_get scalars x ≡ Some scalar
  pub hiding : IsHidingOn (λ q c. TellsBy t w x scalar.var.0 q c) scalar.var p one

-- A variable is a scalar of a function of a unit.
pub record IsScalarOf (u : HomedForm) (variable : ℕ) : Type 0 where
  pub function : ℕ
  pub index : ℕ
  pub graph : Graph
  pub is : slice_get u.unit.graphs function ≡ Some graph
  pub of : IsVariable graph index variable

-- given: the log of a unit, and the flow of its program
module _ (log : List Logged) (flow : FlowTable) where
  -- What is told is of a scalar of a function of this number, at a place that a path of it reaches, and evident.
  pub record IsHidingIn (home : ℕ → Home) (f : ℕ) (g : Graph) (p : ℕ) (t : declared-variable.ToldVariable)
      : Type 0 where
    pub x : ℕ
    pub of : IsVariable g x t.var.0
    pub reached : IsPlaceReached g p
    pub hiding : IsHiding (λ c. Tells log flow home f g x t.var.0 p c) t.told

  -- What hides a variable at a place, as a verdict tells it: it is a scalar of a function of the unit, and this is
  -- evident there, and the first that may be told. The place beside it is the least at which a quiet path to there
  -- begins, or there is no such path.
  pub record IsEvidentAt (u : HomedForm) (variable p : ℕ) (v : declared-verdict.Verdict) : Type 0 where
    pub f : ℕ
    pub graph : Graph
    pub x : ℕ
    pub hiding : declared-hiding.Hiding
    pub is : slice_get u.unit.graphs f ≡ Some graph
    pub scalar : IsVariable graph x variable
    pub told : IsHidingOf hiding v
    pub evident : Hides log flow (home_of u f) f graph x variable p hiding.cause
    pub first : IsFirst log flow (home_of u f) f graph x variable p hiding.cause
    pub quiet : IsLeastQuiet log flow (home_of u f) f graph x variable p
        (option_map (λ (place : Place). place.0) hiding.quiet)

  -- What each verdict says to hide a variable does, and one that gives a recipe gives it for a scalar.
  abbrev pub IsEvident : HomedForm → (variable p : ℕ) → declared-verdict.Verdict → Type 0
  IsEvident u v p verdict.Home = Unit {0}
  IsEvident u v p (verdict.Recovered r c) = IsScalarOf u v
  IsEvident u v p (verdict.Noncurrent c start w q) = IsEvidentAt u v p (verdict.Noncurrent c start w q)
  IsEvident u v p (verdict.Nonresident c start w q) = IsEvidentAt u v p (verdict.Nonresident c start w q)

  -- The same of all verdicts.
  abbrev pub AreEvident : HomedForm → List declared-row.PlaceVerdict → Type 0
  AreEvident u rows = (w : declared-row.PlaceVerdict) → Among w rows → IsEvident u w.var.0 w.place.0 w.verdict

  -- What is told of a variable at a place is evident by a function of the unit, of which it is a scalar.
  pub record IsEvidentOf (u : HomedForm) (p : ℕ) (t : declared-variable.ToldVariable) : Type 0 where
    pub f : ℕ
    pub graph : Graph
    pub is : slice_get u.unit.graphs f ≡ Some graph
    pub of : IsHidingIn (home_of u f) f graph p t

  -- The same of all that is told.
  abbrev pub AreToldEvident : HomedForm → declared-places.ToldPlaces → Type 0
  AreToldEvident u told = (p : ℕ) (t : declared-variable.ToldVariable) → Among t (told_at told p) → IsEvidentOf u p t
