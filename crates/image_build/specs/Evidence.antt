-- Evidence in the words of code that a row of an image hides a variable rightly.
use Rattle.std.specs.Prelude.{◌≡◌, ◌≢◌, ◌⊎◌, ℕ, ◌<◌, ◌≤◌, true, Some, None, List, slice_get, slice_index}
use Rattle.places.specs.declared.flow.FlowTable.{FlowTable}
use Rattle.places.specs.Flow.{assigns}
use Rattle.places.specs.Path.{IsRoute, quest_by}
use Rattle.debug_records.specs.declared.change.Kind.{Kind}
use Rattle.debug_records.specs.declared.change.Kind.TheVariants.{Moved, Reused}
use Rattle.graph_core.specs.Graphs.{Graph}
use Rattle.graph_core.specs.Paths.{Among}
use Rattle.graph_core.specs.WellMarked.{IsVariable}
use Rattle.graph_homes.specs.declared.home.Home.{Home}
use Rattle.graph_homes.specs.Homed.{HomedForm, home_of}
use Rattle.rv_emit_tables.specs.Emitted.{EmittedForm, FunctionCode}
use Rattle.rv_emit_steps.specs.Programs.{address_of}
use Rattle.rv_emit_runs.specs.Laid.{Arrangement, code_of}
use Rattle.rv_emit_runs.specs.Writing.{IsWriter, MayWrite}
use Rattle.currency.specs.Named.{IsLogged, IsRemoval}
use Rattle.currency_hiding.specs.Quiet.{GoesBy}
use Rattle.image_form.specs.declared.verdicts.Verdict.{Verdict}
use Rattle.image_form.specs.declared.verdicts.Verdict.TheVariants as verdict
use Rattle.image_form.specs.declared.verdicts.VisibleRow.{VisibleRow}

-- There is a path by the flow from a start by way of a place to a stop, on which no place between its ends assigns the
-- variable.
pub record HasPath (flow : FlowTable) (variable start via stop : ℕ) : Type 0 where
  pub path : List ℕ
  pub route : IsRoute (quest_by flow variable start via stop) path

-- given: a unit with homes, its code, and where the parts of that stand
module _ (h : HomedForm) (a : Arrangement) (e : EmittedForm) where
  -- No word of a place writes a home: none of the code of the function that belongs to the place may.
  abbrev pub IsBare : (f place : ℕ) → Home → Type 0
  IsBare f place home =
      (code : FunctionCode) → slice_get e.functions f ≡ Some code → (index : ℕ) → code.first ≤ address_of index
      → address_of index < code.end → slice_index e.owners index ≡ place
      → MayWrite (code_of h a f).storage e.code home index → ⊥

  -- The word at an address writes a home, and belongs to a place.
  pub record WritesAt (f place : ℕ) (home : Home) (address : ℕ) : Type 0 where
    pub index : ℕ
    pub is : address ≡ address_of index
    pub writes : IsWriter (code_of h a f).storage e.code home index
    pub owner : slice_index e.owners index ≡ place

  -- A variable is a scalar of a function.
  pub record IsScalar (variable : ℕ) : Type 0 where
    pub f : ℕ
    pub graph : Graph
    pub x : ℕ
    pub is : slice_get h.unit.graphs f ≡ Some graph
    pub of : IsVariable graph x variable

  -- A word of the code of a function that belongs to a place may write a home.
  pub record OwnsWriter (f place : ℕ) (home : Home) : Type 0 where
    pub some : place ≢ 0
    pub code : FunctionCode
    pub is : slice_get e.functions f ≡ Some code
    pub index : ℕ
    pub first : code.first ≤ address_of index
    pub end : address_of index < code.end
    pub owner : slice_index e.owners index ≡ place
    pub writes : MayWrite (code_of h a f).storage e.code home index

  -- given: the flow of its program
  module _ (flow : FlowTable) where
    -- EVIDENCE THAT AN ASSIGNMENT WENT: by a change it went from the place where the path begins, which assigns the
    -- variable, and no word of this place writes the variable's home.
    pub record WasRemoved (variable stop change start : ℕ) : Type 0 where
      pub scalar : IsScalar variable
      pub removed : IsRemoval h.unit.log change variable start
      pub assigned : assigns flow.assignments.items start variable ≡ true
      pub path : HasPath flow variable start start stop
      pub bare : start ≢ 0 → IsBare scalar.f start (home_of h scalar.f scalar.x)

    -- EVIDENCE THAT A HOME WAS WRITTEN FOR ANOTHER NAME: the change is of this kind and concerns the variable; the path
    -- begins where the variable is assigned; and the word at the address, which belongs to a place of the path before
    -- its last, writes the variable's home.
    pub record WasWritten (kind : Kind) (variable stop change start address : ℕ) : Type 0 where
      pub scalar : IsScalar variable
      pub logged : IsLogged h.unit.log change kind variable
      pub assigned : assigns flow.assignments.items start variable ≡ true
      pub via : ℕ
      pub path : HasPath flow variable start via stop
      pub word : WritesAt scalar.f via (home_of h scalar.f scalar.x) address

    -- What a row says to hide a variable is evident.
    abbrev pub IsEvidentIn : (variable stop : ℕ) → Verdict → Type 0
    IsEvidentIn v p verdict.Home = Unit {0}
    IsEvidentIn v p (verdict.Recovered change node) = Unit {0}
    IsEvidentIn v p (verdict.Noncurrent change start None) = WasRemoved v p change start
    IsEvidentIn v p (verdict.Noncurrent change start (Some address)) = WasWritten Moved v p change start address
    IsEvidentIn v p (verdict.Nonresident change start None) = ⊥
    IsEvidentIn v p (verdict.Nonresident change start (Some address)) = WasWritten Reused v p change start address

    -- So is what rows say.
    abbrev pub AreEvidentIn : List VisibleRow → Type 0
    AreEvidentIn rows = (r : VisibleRow) → Among r rows → IsEvidentIn r.variable r.place r.verdict

    -- EVIDENCE OF A QUIET PATH: it begins at a place that assigns the variable, no change took that assignment, and no
    -- place between its ends assigns the variable or has a word that may write its home.
    pub record IsQuietIn (variable stop start : ℕ) : Type 0 where
      pub scalar : IsScalar variable
      pub assigned : assigns flow.assignments.items start variable ≡ true
      pub stays : (number : ℕ) → IsRemoval h.unit.log number variable start → ⊥
      pub path : GoesBy flow
          (λ p. (assigns flow.assignments.items p variable ≡ true)
          ⊎ OwnsWriter scalar.f p (home_of h scalar.f scalar.x))
          start stop

    -- Where a row tells at which place a quiet path begins, there is one.
    abbrev pub AreQuietIn : List VisibleRow → Type 0
    AreQuietIn rows =
        (r : VisibleRow) (start : ℕ) → Among r rows → r.quiet ≡ Some start → IsQuietIn r.variable r.place start
