-- A run of an image and an engine, as their callers see them.
use Rattle.std.specs.Prelude.{◌≡◌, ℕ, ◌≤◌, ◌⊎◌, Bool, false, if◌then◌else◌, List, length, [], ◌∷◌, ◌++◌}
use Rattle.image_form.specs.Form.{Form}
use Rattle.rv_machine.specs.State.{MachineState}
use Rattle.rv_machine.specs.Run.{MachineEvent, machine_run as run}
use Rattle.rv_machine.specs.Table.{started}
use Rattle.stop_engine.specs.declared.course.TheConstants.{ROOM}
use Rattle.stop_engine.specs.declared.halt.Standing.{Standing}
use Rattle.stop_engine.specs.Halting.{byte_events}
use Rattle.stop_engine.specs.Breaks.{break_places}
use Rattle.stop_engine.specs.Executing.{Executes}
use Rattle.stop_engine.specs.Passing.{PassesBy}
use Rattle.stop_engine.specs.Standing.{position_of, unanswered}
use Rattle.script_form.specs.Script.{Mark, Order}
use Rattle.stop_engine_view.specs.Run.{image_run, stop_addresses}
use Rattle.stop_engine.specs.Transcript.{Aim, Position, Fresh, Session, is_among_places, lines_from, ran}

-- An image and the run of it that is under way.
pub record RunState : Type 0 where
  pub form : Form
  -- how many instructions the run may have
  pub limit : ℕ
  -- how many of these it has not executed yet
  pub left : ℕ
  -- its machine, in the state behind those that it has executed
  pub machine : MachineState
  -- where it stands
  pub position : Position
  -- the events that no call has answered yet
  pub events : List MachineEvent
  -- the output that the last call took
  pub output : List ℕ

-- The run of this image with this limit, where so many instructions are left.
abbrev pub run_state : Form → (limit left : ℕ) → Standing → MachineState → (output : List ℕ) → RunState
run_state m limit left standing s output = record {
  form = m;
  limit = limit;
  left = left;
  machine = s;
  position = position_of standing s;
  events = unanswered standing output (run (stop_addresses m) left s);
  output = output;
}

-- The run of an image before its first instruction, on this input, of at most so many instructions.
abbrev pub fresh_run : Form → (input : List ℕ) → (limit : ℕ) → RunState
fresh_run m input limit = record {
  form = m;
  limit = limit;
  left = limit;
  machine = started m.version.map m.code m.initial input;
  position = Fresh;
  events = image_run m input limit;
  output = [];
}

-- One run went on to the next stop of the aim or to the ending, and is then the other.
pub record HasRun (aim : Aim) (old new : RunState) : Type 0 where
  pub image : new.form ≡ old.form
  pub limit : new.limit ≡ old.limit
  pub reach : ran old.form aim old.position old.events ≡ record {
    output = new.output;
    position = new.position;
    rest = new.events;
  }

-- One run executed some of the instructions that it had left, or none, and is then the other: its machine stands as
-- many instructions further on as are now fewer left. So no more were executed than were left.
abbrev pub HasExecuted : (old new : RunState) → Type 0
HasExecuted old new = Executes old.left old.machine new.left new.machine

-- A call has not moved the run.
pub record IsUnmoved (old new : RunState) : Type 0 where
  pub position : new.position ≡ old.position
  pub events : new.events ≡ old.events

-- The run wanted memory for its output. It has not moved, or it stands at no stop, behind as much output as it took
-- room for. Stops that are none of the aim were passed by; the output so far comes first of the events that are still
-- unanswered.
pub record Wants (aim : Aim) (old new : RunState) : Type 0 where
  pub image : new.form ≡ old.form
  pub limit : new.limit ≡ old.limit
  pub rest : List MachineEvent
  pub passed : PassesBy old.form aim old.events new.output rest
  pub events : new.events ≡ byte_events new.output ++ rest
  pub stands : IsUnmoved old new ⊎ ((new.position ≡ Fresh) × (ROOM ≤ length new.output))

-- A run, and what a script has made of it so far.
pub record EngineState : Type 0 where
  pub run : RunState
  -- the places that are marked
  pub marks : List ℕ
  -- a `quit` was answered
  pub has_quit : Bool

-- the engine of an image before the first command
abbrev pub fresh_engine : Form → (input : List ℕ) → (limit : ℕ) → EngineState
fresh_engine m input limit = record { run = fresh_run m input limit; marks = []; has_quit = false }

-- the session in which an engine stands
abbrev pub session_of : EngineState → Session
session_of e = record { marks = e.marks; position = e.run.position; events = e.run.events }

-- the lines of orders from where an engine stands; behind a `quit` there are none
abbrev pub lines_of : EngineState → List Order → List (List ℕ)
lines_of e orders = if e.has_quit then [] else lines_from e.run.form e.run.limit (session_of e) orders

-- These are the lines of an order: whatever is ordered after it, its lines come first, and the rest is said from where
-- the engine then stands.
abbrev pub Answers : (old new : EngineState) → Order → List (List ℕ) → Type 0
Answers old new order lines = (more : List Order) → lines_of old (order ∷ more) ≡ lines ++ lines_of new more

-- What `break` names was marked too, and nothing else changed.
pub record HasMarked (mark : Mark) (old new : EngineState) : Type 0 where
  pub run : new.run ≡ old.run
  pub quit : new.has_quit ≡ old.has_quit
  pub marks : (place : ℕ)
      → is_among_places new.marks place ≡ is_among_places (old.marks ++ break_places old.run.form mark) place

-- the run of an engine came to be another, and the rest stayed
abbrev pub with_run : EngineState → RunState → EngineState
with_run e run = record { run = run; marks = e.marks; has_quit = e.has_quit }

-- What a command leaves that was not answered for want of memory: the engine as it was, or one whose run wanted memory,
-- or one that ran to the next stop or ending, of which no lines were said.
pub data LeavesOff (old new : EngineState) : Type 0 where
  Unmoved : new ≡ old → LeavesOff old new
  Wanting : (aim : Aim) (run : RunState) → new ≡ with_run old run → Wants aim old.run run → LeavesOff old new
  Unsaid : (aim : Aim) (run : RunState) → new ≡ with_run old run → HasRun aim old.run run → LeavesOff old new
