-- What verdicts are given of: a unit with homes, of which shared registers are told, the flow of its program, and its
-- places.
use Rattle.std.specs.Prelude.{◌≡◌, ◌≢◌, ℕ, ◌<◌, ◌≤◌, ◌⊎◌, true, false, Some, List, AllPairs, length, slice_get}
use Rattle.debug_records.specs.Change.{letters}
use Rattle.debug_records.specs.declared.change.Kind.TheVariants.{Reused}
use Rattle.places.specs.declared.flow.FlowTable.{FlowTable}
use Rattle.places.specs.declared.table.PlaceTable as declared-table
use Rattle.places.specs.Flow.{IsAssignmentBefore, assigns, can_go}
use Rattle.graph_homes.specs.Homes.{is_same_home}
use Rattle.graph_homes.specs.Homed.{HomedForm, home_of}
use Rattle.graph_homes.specs.Reused.{IsTemporaryOf}
use Rattle.graph_core.specs.Graphs.{Graph, Logged, UnitForm}
use Rattle.graph_core.specs.Paths.{Among}
use Rattle.graph_core.specs.Validity.{markers_of_blocks}
use Rattle.graph_core.specs.WellMarked.{IsVariable}
use Rattle.currency_writers.specs.Ways.{Comes}
use Rattle.currency_hiding.specs.Changes.{homes_name}
pub use Rattle.currency_shown.specs.Found.{IsPlaceOf}
pub use Rattle.currency_shown.specs.Shown.{IsVisible}

-- A log tells that the register of a variable was given to other names too, by the pass that assigns homes.
pub record IsSharingLogged (log : List Logged) (variable : ℕ) : Type 0 where
  pub change : Logged
  pub logged : Among change log
  pub reused : change.kind ≡ Reused
  pub of : change.variable ≡ variable
  pub named : letters change.pass ≡ homes_name

-- EACH SHARED REGISTER IS LOGGED: where another name has the home of a scalar, and is no temporary of the scalar's
-- moved computations, the log tells that the register of the scalar's variable was given to other names too.
abbrev pub AreSharesLogged : HomedForm → Type 0
AreSharesLogged h =
    (f x variable y : ℕ) (g : Graph) → slice_get h.unit.graphs f ≡ Some g → IsVariable g x variable → y < g.name_count
    → y ≢ x → is_same_home (home_of h f y) (home_of h f x) ≡ true
    → (IsTemporaryOf h.unit.log g x variable y → ⊥) → IsSharingLogged h.unit.log variable

-- A flow is a unit's: it has its steps and its assignments, and these are in order.
pub record IsFlowOf (u : UnitForm) (flow : FlowTable) : Type 0 where
  pub steps : flow.steps.items ≡ u.steps
  pub assignments : flow.assignments.items ≡ u.assignments
  pub in_order : AllPairs IsAssignmentBefore u.assignments

-- A variable may come to a place unassigned: the place is the entry of a graph, or execution may come there from the
-- entry with no place before it that assigns the variable.
abbrev pub ComesUnassigned : UnitForm → Graph → (variable p : ℕ) → Type 0
ComesUnassigned u g variable p =
    (p ≡ g.entry)
    ⊎
    ((assigns u.assignments g.entry variable ≡ false)
    × Comes u.steps (λ q. assigns u.assignments q variable) g.entry p)

-- A TABLE OF PLACES IS A UNIT'S: numbers of 32 bits tell its places apart, each marker of a function begins one of its
-- places, steps and assignments are of places, and where a variable is visible, it does not come unassigned.
pub record IsTableOf (u : UnitForm) (table : declared-table.PlaceTable) : Type 0 where
  pub few : length table.rows.items < 4294967295
  pub placed : (f p : ℕ) (g : Graph) → slice_get u.graphs f ≡ Some g → Among p (markers_of_blocks g.blocks)
      → IsPlaceOf table f p
  pub from : (p q : ℕ) → can_go u.steps p q ≡ true → p ≤ length table.rows.items
  pub to : (p q : ℕ) → can_go u.steps p q ≡ true → q ≤ length table.rows.items
  pub assigning : (p variable : ℕ) → assigns u.assignments p variable ≡ true → p ≤ length table.rows.items
  pub assigned : (f p variable : ℕ) (g : Graph) → slice_get u.graphs f ≡ Some g → IsVisible table p variable
      → ComesUnassigned u g variable p → ⊥
