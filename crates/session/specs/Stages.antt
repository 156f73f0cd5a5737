-- What each stage of a session answers.
use Rattle.std.specs.Prelude.{◌≡◌, ℕ, List, [], map, Vec, Result, Ok, Err, string_bytes}
use Rattle.std.specs.Global.{Global}
use Rattle.outside.specs.Counts.{RoseOrStands}
use Rattle.image_form.specs.Form.{Form}
use Rattle.debug_records.specs.declared.mode.Mode.TheVariants.{Registers}
use Rattle.session_lines.specs.Summary.{IsSummed}
use Rattle.session_lines.specs.declared.summary.Summary.{Summary}
use Rattle.work_gen.specs.Generated.{text as generated}
use Rattle.image_form.specs.Rules.{IsImage}
use Rattle.image_form.specs.Spelling.{spelling}
use Rattle.image_form.specs.Views.{viewed}
use Rattle.image_form.specs.declared.lent.View.{View}
use Rattle.line_form.specs.declared.status.Status.{Status}
use Rattle.line_form.specs.declared.status.Status.TheVariants.{Usage, SourceRefused, ScriptRefused, ReadFault, WriteFault, NoMemory, ImageRefused, TooLong}
use Rattle.script_form.specs.Script.{IsScript, orders}
use Rattle.script_form.specs.Refusal.{IsRefused}
use Rattle.script_form.specs.declared.command.Command.{Command}
use Rattle.command_line.specs.Words.{Text}
use Rattle.debug_records.specs.declared.mode.Mode.{Mode}
use Rattle.debug_records.specs.declared.change.PassName.{PassName}
use Rattle.graph_core.specs.Graphs.{UnitForm}
use Rattle.pass_law.specs.HandedIn.{AreHandedIn}
use Rattle.session.specs.Causes.{AreNoImage}
use Rattle.c_source.specs.Sources.{HasProgram, program_of_source}
use Rattle.session.specs.Front.{IsRefusedSource}
use Rattle.session.specs.Listed.{AreLinesFor}
use Rattle.session.specs.Prepared.{IsImageFor, IsMade}
use Rattle.session.specs.Served.{AreNotServed, AreServed, default_names, needed}
use Rattle.session.specs.Summing.{sweep_limit}
use Rattle.command_line.specs.declared.job.Job.{Job}
use Rattle.command_line.specs.Job.{SweepGiven, job_given}
use Rattle.session.specs.declared.preparing.Made.{Made}

-- a load ends well, or with a fault that the count of loads shows, or wants memory, or finds a text of this kind too
-- long
abbrev pub LoadEnds : {A : Type 0} → Result A Status → (old new : ℕ) → (List ℕ → Type 0) → Type 0
LoadEnds (Ok x) old new Long = new ≡ old
LoadEnds (Err ReadFault) old new Long = RoseOrStands old new
LoadEnds (Err NoMemory) old new Long = new ≡ old
LoadEnds (Err (TooLong name)) old new Long = (new ≡ old) × Long (string_bytes name)
LoadEnds (Err _) old new Long = ⊥

-- the job, where each pass that it needs is handed in, or memory was wanting
abbrev pub CheckEnds : {P : Type 0} → (P → PassName) → List P → Result Job Status → Job → Type 0
CheckEnds named handed_in (Ok found) job = (found ≡ job) × AreHandedIn named handed_in (needed (job_given job))
CheckEnds named handed_in (Err Usage) job = ¬ AreHandedIn named handed_in (needed (job_given job))
CheckEnds named handed_in (Err NoMemory) job = Unit {0}
CheckEnds named handed_in (Err _) job = ⊥

-- the words ask for a job that the program serves, or for none, or memory was wanting
abbrev pub AskEnds : {P : Type 0} → (P → PassName) → List P → Result Job Status → (words : List Text) → Type 0
AskEnds named handed_in (Ok job) words = AreServed named handed_in words (job_given job)
AskEnds named handed_in (Err Usage) words = AreNotServed named handed_in words
AskEnds named handed_in (Err NoMemory) words = Unit {0}
AskEnds named handed_in (Err _) words = ⊥

-- a status that says of a name that its text is too long, or that memory was wanting
abbrev pub SaysTooLong : Status → List ℕ → Type 0
SaysTooLong (TooLong said) name = string_bytes said ≡ name
SaysTooLong NoMemory name = Unit {0}
SaysTooLong _ name = ⊥

-- a save or a line ends well, or with a fault that its count shows, or wants memory
abbrev pub WriteEnds : {A : Type 0} → Result A Status → (old new : ℕ) → Type 0
WriteEnds (Ok x) old new = new ≡ old
WriteEnds (Err WriteFault) old new = RoseOrStands old new
WriteEnds (Err NoMemory) old new = new ≡ old
WriteEnds (Err _) old new = ⊥

-- the source is of a program, or breaks this rule first, or memory was wanting
abbrev pub FrontEnds : {A : Type 0} → Result A Status → (source : List ℕ) → Type 0
FrontEnds (Ok program) source = HasProgram source
FrontEnds (Err (SourceRefused code line)) source = program_of_source source ≡ Err (code, line)
FrontEnds (Err NoMemory) source = Unit {0}
FrontEnds (Err _) source = ⊥

-- a source is refused for the first rule of C that it breaks, or memory was wanting
abbrev pub SourceFails : Status → (source : List ℕ) → Type 0
SourceFails (SourceRefused code line) source = IsRefusedSource source code line
SourceFails NoMemory source = Unit {0}
SourceFails _ source = ⊥

-- the script asks for the commands, or is refused for its first line that breaks a rule, or memory was wanting
abbrev pub ScriptEnds : Result (Vec Command Global) Status → (script : List ℕ) → Type 0
ScriptEnds (Ok commands) script = IsScript script (orders commands.items)
ScriptEnds (Err (ScriptRefused code line)) script = IsRefused script code line
ScriptEnds (Err NoMemory) script = Unit {0}
ScriptEnds (Err _) script = ⊥

-- the bytes spell the image, or are refused for the first rule that they break, or memory was wanting
abbrev pub ImageEnds : Result View Status → (bytes : List ℕ) → Type 0
ImageEnds (Ok image) bytes = IsImage (viewed image) × (bytes ≡ spelling (viewed image))
ImageEnds (Err (ImageRefused code offset)) bytes = AreNoImage code offset bytes
ImageEnds (Err NoMemory) bytes = Unit {0}
ImageEnds (Err _) bytes = ⊥

module _ {P : Type 0} (named : P → PassName) (steps : P → UnitForm → UnitForm → Type 0) (handed_in : List P) where
  -- the source is of a program and its image is made, or that fails
  abbrev pub MakeEnds : Result Made Status → (source : List ℕ) → (names : List Text) → Mode → Type 0
  MakeEnds (Ok made) source names mode = IsMade named steps handed_in source names mode made
  MakeEnds (Err status) source names mode = SourceFails status source

  -- The summary is that of the run, on no input, of an image that is truthful to the generated source after the default
  -- passes, with homes in registers.
  abbrev pub IsSummaryOf : (seed size : ℕ) → Summary → Type 0
  IsSummaryOf seed size summary =
      (m : Form) × IsImageFor named steps handed_in (generated seed size) default_names Registers m
      × IsSummed m [] sweep_limit summary

  -- the summary of the run of an image of the generated source, or that source is refused, or memory was wanting
  abbrev pub SweepEnds : Result Summary Status → SweepGiven → Type 0
  SweepEnds (Ok summary) given = IsSummaryOf given.seed given.size summary
  SweepEnds (Err (SourceRefused code line)) given = IsRefusedSource (generated given.seed given.size) code line
  SweepEnds (Err NoMemory) given = Unit {0}
  SweepEnds (Err _) given = ⊥

  -- the lines of the changes that passes of these names make in the source, or the list fails
  abbrev pub ListEnds : Result (Vec (Vec ℕ Global) Global) Status → (source : List ℕ) → (names : List Text) → Type 0
  ListEnds (Ok lines) source names =
      AreLinesFor named steps handed_in source names (map (λ (l : Vec ℕ Global). l.items) lines.items)
  ListEnds (Err status) source names = SourceFails status source
