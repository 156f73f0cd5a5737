-- The law of passes: what a pass may make of a unit.
use Rattle.std.specs.Prelude.{◌≡◌, ◌↔◌, ℕ, List, ◌++◌}
use Rattle.event_runs.specs.Agreement.{Pairs}
use Rattle.event_runs.specs.Following.{Reached}
use Rattle.graph_core.specs.declared.value.Shadow.{Shadow}
use Rattle.graph_core.specs.declared.value.Shadow.TheVariants as shadow
use Rattle.graph_core.specs.Graphs.{Graph, Logged, UnitForm}
use Rattle.graph_core.specs.Memory.{Memory}
use Rattle.graph_core.specs.Paths.{Among}
use Rattle.graph_core.specs.Runs.{Frame, Event, Put, Exited, TooDeep, Stop, unit_run}
use Rattle.graph_core.specs.Validity.{markers_of_blocks}
use Rattle.graph_core.specs.WellMarked.{AreWellMarked}

-- A shadow stays what it was, or is gone.
pub data StaysOrGoes : Shadow → Shadow → Type 0 where
  stays : {s : Shadow} → StaysOrGoes s s
  goes : {s : Shadow} → StaysOrGoes s shadow.Gone

-- Two activations as stops show them: of one function, at one place, and each shadow stays or is gone.
pub record SameFrame (a b : Frame) : Type 0 where
  pub function : b.function ≡ a.function
  pub place : b.place ≡ a.place
  pub shadows : Pairs StaysOrGoes a.shadows b.shadows

-- Two events agree in kind, byte, status, memory and live activations.
pub data SameEvent : Event → Event → Type 0 where
  byte : {n : ℕ} → SameEvent (Put n) (Put n)
  exited : {status : ℕ} → SameEvent (Exited status) (Exited status)
  deep : SameEvent TooDeep TooDeep
  stop : {frames others : List Frame} {memory : Memory} → Pairs SameFrame frames others
      → SameEvent (Stop frames memory) (Stop others memory)

-- Two graphs are of one function: its entry, parameters, scalars and objects, and markers of the same places.
pub record SameFunction (g h : Graph) : Type 0 where
  pub entry : h.entry ≡ g.entry
  pub parameters : h.parameters ≡ g.parameters
  pub scalars : h.scalars ≡ g.scalars
  pub objects : h.objects ≡ g.objects
  pub markers : (p : ℕ) → Among p (markers_of_blocks g.blocks) ↔ Among p (markers_of_blocks h.blocks)

-- What the units share stays the same, and the log only grows.
pub record SameProgram (u v : UnitForm) : Type 0 where
  pub main : v.main ≡ u.main
  pub statics : v.statics ≡ u.statics
  pub array_bytes : v.array_bytes ≡ u.array_bytes
  pub steps : v.steps ≡ u.steps
  pub assignments : v.assignments ≡ u.assignments
  pub room : v.room ≡ u.room
  pub added : List Logged
  pub log : v.log ≡ u.log ++ added
  pub functions : Pairs SameFunction u.graphs v.graphs

-- The second unit keeps what the first one does. Both are well marked units of one program, and on every input whatever
-- can be seen of the first, before a step of it is wild, can be seen of the second. The second may show more behind
-- that.
pub record Keeps (u v : UnitForm) : Type 0 where
  pub marked : AreWellMarked u
  pub still_marked : AreWellMarked v
  pub program : SameProgram u v
  pub follows : (input : List ℕ) (n : ℕ) → Reached SameEvent (unit_run u input n) (unit_run v input)
