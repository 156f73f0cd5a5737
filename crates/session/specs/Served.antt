-- The jobs that the program serves: all of the command line, where the passes that they need are handed in.
use Rattle.std.specs.Prelude.{◌≡◌, ◌≤◌, Option, Some, None, List, [], ◌∷◌, codes, length}
use Rattle.std.specs.List.{AllByRecursion}
use Rattle.command_line.specs.Words.{Text}
use Rattle.command_line.specs.Grammar.{IsJob}
use Rattle.command_line.specs.Job.{JobGiven, attach, compile, debug, passes, sweep}
use Rattle.debug_records.specs.Change.{IsPassName}
use Rattle.debug_records.specs.declared.change.PassName.{PassName}
use Rattle.debug_records.specs.declared.mode.Mode.{Mode}
use Rattle.pass_law.specs.HandedIn.{AreHandedIn}

-- the names of the passes that a `sweep` needs and runs, which are those of the default list
abbrev pub default_names : List Text
default_names = codes "copy" ∷ codes "motion" ∷ codes "dead" ∷ []

-- the names of the passes that a job needs
abbrev pub needed : JobGiven → List Text
needed (debug given) = given.passes
needed (compile given) = given.passes
needed (attach given) = []
needed (passes given) = given.passes
needed (sweep given) = default_names

-- The passes of these names can be run one after the other: there are at most 32 names, each of 1 to 16 lower-case
-- letters and of a pass that is handed in.
pub record CanRun {P : Type 0} (named : P → PassName) (handed_in : List P) (names : List Text) : Type 0 where
  pub few : length names ≤ 32
  pub spelled : AllByRecursion IsPassName names
  pub are_handed_in : AreHandedIn named handed_in names

-- The words are a job, and each pass that it needs is handed in.
pub record AreServed {P : Type 0} (named : P → PassName) (handed_in : List P) (words : List Text) (job : JobGiven)
    : Type 0 where
  pub words_are : IsJob words job
  pub passes_are : AreHandedIn named handed_in (needed job)

-- the words are no job, or one that needs a pass that is not handed in
abbrev pub AreNotServed : {P : Type 0} → (P → PassName) → List P → List Text → Type 0
AreNotServed named handed_in words = (job : JobGiven) → ¬ AreServed named handed_in words job

-- the name of the script, where the job has one
abbrev pub script_of : JobGiven → Option Text
script_of (debug given) = Some given.script
script_of (compile given) = None
script_of (attach given) = Some given.script
script_of (passes given) = None
script_of (sweep given) = None

-- the name of the input, where the job has one
abbrev pub input_of : JobGiven → Option Text
input_of (debug given) = Some given.input
input_of (compile given) = None
input_of (attach given) = Some given.input
input_of (passes given) = None
input_of (sweep given) = None

-- Of a job that saves an image of a source: the names of both, the passes that the source goes through, and where
-- variables are kept.
pub record Saving : Type 0 where
  pub source : Text
  pub passes : List Text
  pub mode : Mode
  pub image : Text

-- which image of which source a job saves, where it saves one
abbrev pub saving_of : JobGiven → Option Saving
saving_of (debug given) =
    Some (record { source = given.source; passes = given.passes; mode = given.mode; image = given.image })
saving_of (compile given) =
    Some (record { source = given.source; passes = given.passes; mode = given.mode; image = given.image })
saving_of (attach given) = None
saving_of (passes given) = None
saving_of (sweep given) = None

-- the job has such a thing, and of it this is true
abbrev pub With : {A : Type 0} → Option A → (A → Type 0) → Type 0
With None P = ⊥
With (Some x) P = P x

-- if the job has such a thing, then of it this is true
abbrev pub IfGiven : {A : Type 0} → Option A → (A → Type 0) → Type 0
IfGiven None P = Unit {0}
IfGiven (Some x) P = P x

-- the job saves to this name: a `debug` and a `compile` save, and there the image
abbrev pub SavesTo : JobGiven → Text → Type 0
SavesTo job name = With (saving_of job) (λ (s : Saving). name ≡ s.image)
