-- What a session leaves.
use Rattle.std.specs.Prelude.{◌≡◌, ◌<◌, ℕ, ◌⊎◌, List, [], ◌++◌, Option, Some}
use Rattle.std.specs.List.{AllByRecursion, flat_map}
use Rattle.outside.specs.Held.{IsKeptOrCut}
use Rattle.outside.specs.Taken.{TakesPart}
use Rattle.image_form.specs.Form.{Form}
use Rattle.image_form.specs.Spelling.{spelling}
use Rattle.script_form.specs.Script.{Order, IsScript}
use Rattle.stop_engine.specs.Transcript.{transcript_bytes}
use Rattle.c_source.specs.Sources.{HasProgram}
use Rattle.command_line.specs.Job.{AttachGiven, DebugGiven, JobGiven, PassesGiven, SweepGiven, attach, compile, debug, passes, sweep}
use Rattle.debug_records.specs.declared.change.PassName.{PassName}
use Rattle.debug_records.specs.declared.mode.Mode.TheVariants.{Registers}
use Rattle.graph_core.specs.Graphs.{UnitForm}
use Rattle.line_form.specs.Lines.{line}
use Rattle.session_lines.specs.Summary.{IsSummed}
use Rattle.session_lines.specs.declared.summary.Summary.{Summary}
use Rattle.work_gen.specs.Generated.{text as generated}
use Rattle.session.specs.Served.{IfGiven, Saving, default_names, saving_of}
use Rattle.session.specs.Listed.{AreLinesFor}
use Rattle.session.specs.Prepared.{IsImageFor}
use Rattle.session.specs.Summing.{summary_lines, sweep_limit}
use Rattle.session.specs.Limits.{Held}
use Rattle.session.specs.Images.{IsReadBack}
use Rattle.session.specs.Truth.{IsTruthfulTo}

-- What is printed is the transcript of an image, a script and an input of bytes that stand under their names, with the
-- job's limit on instructions: just what the debugger prints of these four, and nothing else enters it.
pub record IsPlayed (image script input : Option (List ℕ)) (limit : ℕ) (printed : List ℕ) : Type 0 where
  pub form : Form
  pub form_is : IsReadBack form
  pub image_is : image ≡ Some (spelling form)
  pub text : List ℕ
  pub orders : List Order
  pub script_is : script ≡ Some text
  pub orders_are : IsScript text orders
  pub bytes : List ℕ
  pub are_bytes : AllByRecursion (λ b. b < 256) bytes
  pub input_is : input ≡ Some bytes
  pub printed_is : printed ≡ transcript_bytes form orders bytes limit

-- what is printed is the transcript of the image that the shelf held, whoever made it
abbrev pub IsAttached : Held → AttachGiven → List ℕ → Type 0
IsAttached held given printed = IsPlayed (held given.image) (held given.script) (held given.input) given.limit printed

module _ {P : Type 0} (named : P → PassName) (steps : P → UnitForm → UnitForm → Type 0) (handed_in : List P) where
  -- From the source, the script and the input that the shelf held before, the session saved an image that is truthful
  -- to the source, and what is printed is the transcript of that image.
  pub record IsDebugged (held held' : Held) (given : DebugGiven) (printed : List ℕ) : Type 0 where
    pub source : List ℕ
    pub source_held : held given.source ≡ Some source
    pub understood : HasProgram source
    pub played : IsPlayed (held' given.image) (held given.script) (held given.input) given.limit printed
    pub truthful : IsTruthfulTo named steps handed_in source given.passes given.mode played.form

  -- The bytes are an image of the source that the shelf held before: they spell one that is truthful to the source.
  pub record IsImageOfSource (held : Held) (saving : Saving) (bytes : List ℕ) : Type 0 where
    pub source : List ℕ
    pub source_held : held saving.source ≡ Some source
    pub understood : HasProgram source
    pub form : Form
    pub form_is : IsReadBack form
    pub bytes_are : bytes ≡ spelling form
    pub truthful : IsTruthfulTo named steps handed_in source saving.passes saving.mode form

  -- under the name of the image stands one that is truthful to the source
  pub record HoldsImage (held held' : Held) (saving : Saving) : Type 0 where
    pub bytes : List ℕ
    pub made : IsImageOfSource held saving bytes
    pub saved : held' saving.image ≡ Some bytes

  -- under the name of the image stands what stood there before, or the first part of an image of the source, which may
  -- be empty or whole
  pub record HoldsPart (held held' : Held) (saving : Saving) : Type 0 where
    pub bytes : List ℕ
    pub made : IsImageOfSource held saving bytes
    pub part : IsKeptOrCut bytes (held saving.image) (held' saving.image)

  -- what a job that is done leaves under the name of its image, where it saves one: an image of its source
  abbrev pub HasSaved : (held held' : Held) → JobGiven → Type 0
  HasSaved held held' job = IfGiven (saving_of job) (HoldsImage held held')

  -- what a job that is cut off leaves there: what stood there, or the first part of an image of the source, which may
  -- be empty or whole
  abbrev pub HasLeft : (held held' : Held) → JobGiven → Type 0
  HasLeft held held' job =
      IfGiven (saving_of job) (λ (s : Saving). (held' s.image ≡ held s.image) ⊎ HoldsPart held held' s)

  -- What the job `passes` prints: the lines of the changes that the passes make in the source that the shelf held.
  pub record ListsChanges (held : Held) (given : PassesGiven) (printed : List ℕ) : Type 0 where
    pub source : List ℕ
    pub source_held : held given.source ≡ Some source
    pub lines : List (List ℕ)
    pub lines_are : AreLinesFor named steps handed_in source given.passes lines
    pub printed_is : printed ≡ flat_map line lines

  -- What the job `sweep` prints: the summary of the run, on no input, of an image that is truthful to the generated
  -- source after the default passes, with homes in registers.
  pub record IsSwept (given : SweepGiven) (printed : List ℕ) : Type 0 where
    pub form : Form
    pub image : IsImageFor named steps handed_in (generated given.seed given.size) default_names Registers form
    pub summary : Summary
    pub summed : IsSummed form [] sweep_limit summary
    pub printed_is : printed ≡ flat_map line (summary_lines given.seed given.size summary)

  -- what a job prints; a `compile` prints nothing
  abbrev pub Prints : (held held' : Held) → JobGiven → List ℕ → Type 0
  Prints held held' (debug given) printed = IsDebugged held held' given printed
  Prints held held' (compile given) printed = printed ≡ []
  Prints held held' (attach given) printed = IsAttached held given printed
  Prints held held' (passes given) printed = ListsChanges held given printed
  Prints held held' (sweep given) printed = IsSwept given printed

  -- the sink took all that the job prints
  pub record IsDone (held held' : Held) (job : JobGiven) (taken taken' : List ℕ) : Type 0 where
    pub printed : List ℕ
    pub prints : Prints held held' job printed
    pub whole : taken' ≡ taken ++ printed

  -- the sink took the first part of what the job prints, up to any byte
  pub record IsCutOff (held held' : Held) (job : JobGiven) (taken taken' : List ℕ) : Type 0 where
    pub printed : List ℕ
    pub prints : Prints held held' job printed
    pub part : TakesPart printed taken taken'

  -- the sink took nothing, or the first part of what the job prints, up to any byte
  abbrev pub TookPart : (held held' : Held) → JobGiven → (taken taken' : List ℕ) → Type 0
  TookPart held held' job taken taken' = (taken' ≡ taken) ⊎ IsCutOff held held' job taken taken'
