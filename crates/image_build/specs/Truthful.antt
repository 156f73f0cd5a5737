-- What it means that an image is truthful to a program.
use Rattle.std.specs.Prelude.{◌≡◌, ℕ, ◌*◌, ◌<◌, ◌≤◌, Some, List, length, map, slice_get}
use Rattle.std.specs.List.{AllByRecursion}
use Rattle.image_form.specs.Form.{Form}
use Rattle.image_form.specs.declared.verdicts.VisibleRow.{VisibleRow}
use Rattle.rv_machine.specs.State.{MachineState}
use Rattle.rv_machine.specs.Run as machine
use Rattle.rv_machine.specs.Run.{MachineEvent}
use Rattle.stop_engine_view.specs.Run.{image_run}
use Rattle.stop_engine_view.specs.Reading.{place_at, depth, frames}
use Rattle.stop_engine_view.specs.Rows.{rows_at}
use Rattle.stop_engine_view.specs.Values.{held_text}
use Rattle.event_runs.specs.Agreement.{Agree, Pairs}
use Rattle.word_base.specs.Owners.{Static}
use Rattle.c_tree.specs.Programs.{StaticTree, AutomaticTree, ProgramTree}
use Rattle.c_meaning_values.specs.Memory.{Memory, contents}
use Rattle.c_meaning_steps.specs.declared.event.Frame.{Frame}
use Rattle.c_meaning_steps.specs.States as source
use Rattle.c_meaning_steps.specs.States.{Event, Shown}
use Rattle.c_meaning.specs.Runs.{source_run}
use Rattle.image_truth_units.specs.Rows.{IsShown}
use Rattle.image_truth_units.specs.Texts.{IsObjectText}
use Rattle.image_truth_units.specs.Variables.{automatic_number}

-- A row of an image is that of a variable that is visible in the program's run, and what is shown by its verdict is the
-- text of what the variable holds.
pub record SameVisible (p : ProgramTree) (m : Form) (s : MachineState) (memory : Memory) (shown : Shown)
    (r : VisibleRow) : Type 0 where
  pub variable : r.variable ≡ automatic_number p shown.variable
  pub tree : AutomaticTree
  pub is : slice_get p.automatics shown.variable ≡ Some tree
  pub text : IsShown p m s memory tree.of shown.values r.place r.variable r.verdict

-- The machine stands at the program's stop: at the place, at the depth, with the activations. Its rows are those of the
-- variables that are visible there, in their order, and what is shown of them, and of static variables too, is the text
-- of what they hold.
pub record SameStop (p : ProgramTree) (m : Form) (place deep : ℕ) (activations : List Frame) (visible : List Shown)
    (memory : Memory) (s : MachineState) : Type 0 where
  pub at_place : place_at m s.pc ≡ Some place
  pub at_depth : depth s ≡ deep
  pub frames_are : frames m s place ≡ map (λ (f : Frame). f.place) activations
  pub visible_are : Pairs (SameVisible p m s memory) visible (rows_at place m.rows)
  pub statics_are : (n : ℕ) (v : StaticTree) → slice_get p.statics n ≡ Some v
      → IsObjectText p memory v.of (contents (Static n) memory) (held_text m s place n)

-- An event of the machine says what the program's does: the same byte, the same status, a call too many in both, or a
-- stop of the program at which the machine stands.
pub data SameEvent (p : ProgramTree) (m : Form) : Event → MachineEvent → Type 0 where
  byte : {b : ℕ} → SameEvent p m (source.Put b) (machine.Byte b)
  stop : {place deep : ℕ} {activations : List Frame} {visible : List Shown} {memory : Memory} {s : MachineState}
      → SameStop p m place deep activations visible memory s
      → SameEvent p m (source.Stop place deep activations visible memory) (machine.Arrival s)
  exited : {status : _} → SameEvent p m (source.Exited status) (machine.Exit status)
  deep : SameEvent p m source.TooDeep machine.TooDeep

-- what is seen of a program's run of so many turns
abbrev pub events_of : ProgramTree → (input : List ℕ) → (turns : ℕ) → List Event
events_of p input turns = (source_run p input turns).events

-- The runs of a program and of an image on an input agree as far as both go, for each number of turns and each limit on
-- instructions; and with 1,025 instructions for each code word and each of the program's first events the machine has
-- come to these. What C leaves undefined ends the program's run, so nothing is said from there on.
pub record AgreesOn (p : ProgramTree) (m : Form) (input : List ℕ) : Type 0 where
  pub agree : (turns limit : ℕ) → Agree (SameEvent p m) (events_of p input turns) (image_run m input limit)
  pub reach : (turns i limit : ℕ) → i ≤ length (events_of p input turns) → i * (1025 * length m.code) ≤ limit
      → i ≤ length (image_run m input limit)

-- AN IMAGE RUNS TRUE TO A PROGRAM: on each input of bytes, and for each limit on instructions, its run agrees with the
-- program's as far as both go: the same bytes are put out, it stops at the same places, where what is shown of a
-- variable is the text of what the variable holds by C, and it ends as the program does. It comes to each event of the
-- program's run within 1,025 instructions for each word of the code and each event. What C leaves undefined ends the
-- program's run, so nothing is said from there on.
abbrev pub RunsTrue : ProgramTree → Form → Type 0
RunsTrue p m = (input : List ℕ) → AllByRecursion (λ b. b < 256) input → AgreesOn p m input
