-- The changes that verdicts name.
use Rattle.std.specs.Prelude.{◌≡◌, ℕ, ◌-◌, ◌≤◌, true, Some, None, List, slice_get}
use Rattle.debug_records.specs.declared.change.Kind as declared-kind
use Rattle.debug_records.specs.declared.change.Kind.TheVariants.{Moved, Reused}
use Rattle.debug_records.specs.Change.{is_taken}
use Rattle.graph_core.specs.Graphs.{Logged}
use Rattle.graph_core.specs.Paths.{Among}
use Rattle.currency.specs.declared.verdict.Verdict as declared-verdict
use Rattle.currency.specs.declared.verdict.Verdict.TheVariants as verdict
use Rattle.currency.specs.declared.verdict.PlaceVerdict as declared-row
pub use Rattle.currency_hiding.specs.Changes.{IsNumbered}

-- The change of a number in a log is of this kind, and concerns this variable.
pub record IsLogged (log : List Logged) (number : ℕ) (wanted : declared-kind.Kind) (variable : ℕ) : Type 0 where
  pub change : Logged
  pub is : IsNumbered log number change
  pub kind : change.kind ≡ wanted
  pub of : change.variable ≡ variable

-- By the change of a number in a log an assignment of this variable went.
pub record IsTaking (log : List Logged) (number variable : ℕ) : Type 0 where
  pub change : Logged
  pub is : IsNumbered log number change
  pub taken : is_taken change.kind ≡ true
  pub of : change.variable ≡ variable

-- By the change of a number in a log an assignment of this variable went from this place.
pub record IsRemoval (log : List Logged) (number variable place : ℕ) : Type 0 where
  pub change : Logged
  pub is : IsNumbered log number change
  pub taken : is_taken change.kind ≡ true
  pub of : change.variable ≡ variable
  pub at : change.place ≡ place

-- The change that a verdict on a variable names is in the log: one by which an assignment of the variable went, where
-- its value is recovered, or is not current with nothing that writes its home, and then in the place that is told; one
-- that moved a computation of its value, where something writes its home; and one that gave its register to other
-- names, where it is not resident. Where its home shows it, none is named.
abbrev pub IsNamed : List Logged → (variable : ℕ) → declared-verdict.Verdict → Type 0
IsNamed log v verdict.Home = Unit {0}
IsNamed log v (verdict.Recovered r c) = IsTaking log c v
IsNamed log v (verdict.Noncurrent c start None q) = IsRemoval log c v start.0
IsNamed log v (verdict.Noncurrent c start (Some w) q) = IsLogged log c Moved v
IsNamed log v (verdict.Nonresident c start w q) = IsLogged log c Reused v

-- The change that each verdict names is in the log.
abbrev pub AreNamed : List Logged → List declared-row.PlaceVerdict → Type 0
AreNamed log rows = (w : declared-row.PlaceVerdict) → Among w rows → IsNamed log w.var.0 w.verdict
