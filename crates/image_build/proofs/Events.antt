-- Where a unit does what its program does, each event of the program's run is as is said of events.
use Rattle.std.proofs.Common.{ℕ, List, [], ◌∷◌}
use Rattle.std.specs.List.{AllByRecursion}
use Rattle.event_runs.specs.Agreement.{Pairs}
use Rattle.word_base.specs.Owners.{Owner, Static, Literal, Variable}
use Rattle.c_tree.specs.Programs.{ProgramTree}
use Rattle.c_meaning_values.specs.Memory.{Object, Memory}
use Rattle.c_meaning_steps.specs.States.{Event, Shown}
use Rattle.c_meaning.specs.Runs.{source_run}
use Rattle.graph_core.specs.Graphs.{UnitForm}
use Rattle.graph_core.specs.Runs as unit-event
use Rattle.graph_build_runs.specs.Stops as built
use Rattle.graph_build_runs.specs.Correspondence.{SameEvent, AreBytes, DoesProgram, put, exited, deep, stop}
use Rattle.image_truth_units.specs.Standing.{IsDeclared}
use Rattle.image_build.specs.Sources.{Lives, IsStopOf, IsEventOf}

module _ (p : ProgramTree) where
  declared_is : (owner : Owner) (o : Object) → built.IsDeclared p owner o → IsDeclared p owner o
  declared_is (Static n) o h = h
  declared_is (Literal n) o h = h
  declared_is (Variable x depth) o h = h

  lives_is : (owner : Owner) (memory : Memory) → built.Lives owner memory → Lives owner memory
  lives_is owner memory h = record { number = h.number; object = h.object; is = h.is; owned = h.owned; phase = h.phase }

  stop_is : (place depth : ℕ) (shown : List Shown) (memory : Memory) → built.IsStopOf p place depth shown memory → IsStopOf p place depth shown memory
  stop_is place depth shown memory h = record {
    some = h.some;
    at = h.at;
    is = h.is;
    stops = h.stops;
    shows = h.shows;
    declared = λ n o is. declared_is o.owner o (h.declared n o is);
    statics = λ n v is. lives_is (Static n) memory (h.statics n v is);
  }

  module _ (u : UnitForm) where
    event_is : (e : Event) (f : unit-event.Event) → SameEvent p u e f → IsEventOf p e
    event_is e f put = tt
    event_is e f (exited status) = status
    event_is e f deep = tt
    event_is e f (stop {place = place} {depth = depth} {shown = shown} {memory = memory} of at many same typed differ held) = stop_is place depth shown memory of

    events_are : (es : List Event) (fs : List unit-event.Event) → Pairs (SameEvent p u) es fs → AllByRecursion (IsEventOf p) es
    events_are [] fs h = tt
    events_are (e ∷ es) [] h = absurd h
    events_are (e ∷ es) (f ∷ fs) h = (event_is e f h.0, events_are es fs h.1)

    -- Each event of the program's run is so, on each input of bytes, for each number of turns.
    pub events_by_unit : DoesProgram p u → (input : List ℕ) → AreBytes input → (turns : ℕ) → AllByRecursion (IsEventOf p) (source_run p input turns).events
    events_by_unit does input bytes turns = let r = does input bytes turns in events_are (source_run p input turns).events r.shown r.same
