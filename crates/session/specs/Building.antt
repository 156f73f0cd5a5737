-- What `compile` gives of a source, and why it does not.
use Rattle.std.specs.Prelude.{◌≡◌, ℕ, List, Err, ⊤}
use Rattle.c_source.specs.Sources.{HasProgram, program_of_source}
use Rattle.debug_records.specs.declared.change.PassName.{PassName}
use Rattle.pass_law.specs.Trails.{IsFirstUnknown}
use Rattle.session.specs.declared.building.BuildErr.{BuildErr}
use Rattle.session.specs.declared.building.BuildErr.TheVariants.{NoMemory, Source, UnknownPass}

-- Why a source has no program: this rule is the first that it breaks, or memory was refused.
abbrev pub IsSourceReason : (text : List ℕ) → BuildErr → Type 0
IsSourceReason text (Source code line) = program_of_source text ≡ Err (code, line)
IsSourceReason text (UnknownPass index) = ⊥
IsSourceReason text NoMemory = ⊤

-- Why a list of passes is not run: this name is the first that is no pass's, or memory was refused.
abbrev pub IsListReason : {P : Type 0} → (P → PassName) → List P → (names : List PassName) → BuildErr → Type 0
IsListReason named passes names (Source code line) = ⊥
IsListReason named passes names (UnknownPass index) = IsFirstUnknown named passes names index
IsListReason named passes names NoMemory = ⊤

-- Why a source is not compiled: it is refused for the first rule that it breaks; else a name of the list is no pass's,
-- of which this is the first; or memory was refused.
abbrev pub IsBuildReason : {P : Type 0} → (P → PassName) → List P → (text : List ℕ) → (names : List PassName) → BuildErr
    → Type 0
IsBuildReason named passes text names (Source code line) = program_of_source text ≡ Err (code, line)
IsBuildReason named passes text names (UnknownPass index) = HasProgram text × IsFirstUnknown named passes names index
IsBuildReason named passes text names NoMemory = ⊤
