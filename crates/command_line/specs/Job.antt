-- The job that the words are, with its names and texts as lists of bytes.
use Rattle.std.specs.Prelude.{nat_le, ℕ, List, map, Option, Some, None, codes, if◌then◌else◌, unwrap_or, option_map, option_and_then, find, string_bytes}
use Rattle.std.specs.Str.{bytes_eq}
use Rattle.debug_records.specs.Change.{letters}
use Rattle.command_line.specs.Words.{Text, Use}
use Rattle.command_line.specs.Forms.{reading}
use Rattle.command_line.specs.Values.{mode_named, names_in, number_in}
use Rattle.debug_records.specs.declared.mode.Mode.{Mode}
use Rattle.command_line.specs.declared.job.Debug.{Debug}
use Rattle.command_line.specs.declared.job.Compile.{Compile}
use Rattle.command_line.specs.declared.job.Attach.{Attach}
use Rattle.command_line.specs.declared.job.Passes.{Passes}
use Rattle.command_line.specs.declared.job.Sweep.{Sweep}
use Rattle.command_line.specs.declared.job.Job.{Job}
use Rattle.command_line.specs.declared.job.Job.TheVariants as job

-- the word that a name was given
abbrev pub word_of_option : List Use → Text → Option Text
word_of_option uses name = option_map (λ u. u.1) (find (λ u. bytes_eq u.0 name) uses)

-- the names of the list, or the default ones
abbrev pub names_given : Option Text → Option (List Text)
names_given value = names_in (unwrap_or value (codes "copy,motion,dead"))

-- the mode of this name, or the default one
abbrev pub mode_given : Option Text → Option Mode
mode_given value = mode_named (unwrap_or value (codes "registers"))

-- the limit, 0 to 1000000000, or the default one
abbrev pub limit_given : Option Text → Option ℕ
limit_given value = number_in 1000000000 (unwrap_or value (codes "10000000"))

-- a job `debug`: its passes by their names, its mode and limit, and the names of its texts
pub record DebugGiven : Type 0 where
  pub passes : List Text
  pub mode : Mode
  pub limit : ℕ
  pub source : Text
  pub script : Text
  pub input : Text
  pub image : Text

-- what a job `debug` of the program is as one of these
abbrev pub debug_given : Debug → DebugGiven
debug_given j = record {
  passes = map letters j.passes.items;
  mode = j.mode;
  limit = j.limit;
  source = string_bytes j.source;
  script = string_bytes j.script;
  input = string_bytes j.input;
  image = string_bytes j.image;
}

-- a job `debug` of its parts, where none is missing
abbrev pub debug_from : Option (List Text) → Option Mode → Option ℕ → Option Text → Option Text → Option Text
    → Option Text → Option DebugGiven
debug_from (Some passes) (Some mode) (Some limit) (Some source) (Some script) (Some input) (Some image) = Some (record {
  passes = passes;
  mode = mode;
  limit = limit;
  source = source;
  script = script;
  input = input;
  image = image;
})
debug_from _ _ _ _ _ _ _ = None

-- the job `debug` of what each name's word is
abbrev pub debug_of : (Text → Option Text) → Option DebugGiven
debug_of word =
    debug_from (names_given (word (codes "passes"))) (mode_given (word (codes "homes")))
    (limit_given (word (codes "limit")))
    (word (codes "src")) (word (codes "script")) (word (codes "input")) (word (codes "image"))

-- a job `compile`
pub record CompileGiven : Type 0 where
  pub passes : List Text
  pub mode : Mode
  pub source : Text
  pub image : Text

-- what a job `compile` of the program is as one of these
abbrev pub compile_given : Compile → CompileGiven
compile_given j = record {
  passes = map letters j.passes.items;
  mode = j.mode;
  source = string_bytes j.source;
  image = string_bytes j.image;
}

-- a job `compile` of its parts, where none is missing
abbrev pub compile_from : Option (List Text) → Option Mode → Option Text → Option Text → Option CompileGiven
compile_from (Some passes) (Some mode) (Some source) (Some image) =
    Some (record { passes = passes; mode = mode; source = source; image = image })
compile_from _ _ _ _ = None

-- the job `compile` of what each name's word is
abbrev pub compile_of : (Text → Option Text) → Option CompileGiven
compile_of word =
    compile_from (names_given (word (codes "passes"))) (mode_given (word (codes "homes"))) (word (codes "src"))
    (word (codes "image"))

-- a job `attach`
pub record AttachGiven : Type 0 where
  pub limit : ℕ
  pub image : Text
  pub script : Text
  pub input : Text

-- what a job `attach` of the program is as one of these
abbrev pub attach_given : Attach → AttachGiven
attach_given j =
    record {
      limit = j.limit;
      image = string_bytes j.image;
      script = string_bytes j.script;
      input = string_bytes j.input;
    }

-- a job `attach` of its parts, where none is missing
abbrev pub attach_from : Option ℕ → Option Text → Option Text → Option Text → Option AttachGiven
attach_from (Some limit) (Some image) (Some script) (Some input) =
    Some (record { limit = limit; image = image; script = script; input = input })
attach_from _ _ _ _ = None

-- the job `attach` of what each name's word is
abbrev pub attach_of : (Text → Option Text) → Option AttachGiven
attach_of word =
    attach_from (limit_given (word (codes "limit"))) (word (codes "image")) (word (codes "script"))
    (word (codes "input"))

-- a job `passes`
pub record PassesGiven : Type 0 where
  pub passes : List Text
  pub source : Text

-- what a job `passes` of the program is as one of these
abbrev pub passes_given : Passes → PassesGiven
passes_given j = record { passes = map letters j.passes.items; source = string_bytes j.source }

-- a job `passes` of its parts, where none is missing
abbrev pub passes_from : Option (List Text) → Option Text → Option PassesGiven
passes_from (Some passes) (Some source) = Some (record { passes = passes; source = source })
passes_from _ _ = None

-- the job `passes` of what each name's word is
abbrev pub passes_of : (Text → Option Text) → Option PassesGiven
passes_of word = passes_from (names_given (word (codes "passes"))) (word (codes "src"))

-- a job `sweep`
pub record SweepGiven : Type 0 where
  pub seed : ℕ
  pub size : ℕ

-- what a job `sweep` of the program is as one of these
abbrev pub sweep_given : Sweep → SweepGiven
sweep_given j = record { seed = j.seed; size = j.size }

-- a size, 1 or more
abbrev pub size_in : Option ℕ → Option ℕ
size_in None = None
size_in (Some n) = if nat_le 1 n then Some n else None

-- a job `sweep` of its parts, where none is missing
abbrev pub sweep_from : Option ℕ → Option ℕ → Option SweepGiven
sweep_from (Some seed) (Some size) = Some (record { seed = seed; size = size })
sweep_from _ _ = None

-- the job `sweep` of what each name's word is: a seed up to 4294967295 and a size of 1 to 400
abbrev pub sweep_of : (Text → Option Text) → Option SweepGiven
sweep_of word = sweep_from (option_and_then (number_in 4294967295) (word (codes "seed")))
    (size_in (option_and_then (number_in 400) (word (codes "size"))))

-- any job
pub data JobGiven : Type 0 where
  debug : DebugGiven → JobGiven
  compile : CompileGiven → JobGiven
  attach : AttachGiven → JobGiven
  passes : PassesGiven → JobGiven
  sweep : SweepGiven → JobGiven

-- what a job of the program is as one of these
abbrev pub job_given : Job → JobGiven
job_given (job.Debug j) = debug (debug_given j)
job_given (job.Compile j) = compile (compile_given j)
job_given (job.Attach j) = attach (attach_given j)
job_given (job.Passes j) = passes (passes_given j)
job_given (job.Sweep j) = sweep (sweep_given j)

-- the job of this name, of what each name's word is
abbrev pub job_by : Text → (Text → Option Text) → Option JobGiven
job_by name word =
    if bytes_eq name (codes "debug") then option_map debug (debug_of word)
    else (if bytes_eq name (codes "compile") then option_map compile (compile_of word)
    else (if bytes_eq name (codes "attach") then option_map attach (attach_of word)
    else (if bytes_eq name (codes "passes") then option_map passes (passes_of word)
    else (if bytes_eq name (codes "sweep") then option_map sweep (sweep_of word) else None))))

-- the job of its name and of what the words give to its names
abbrev pub read_job : Text × List Use → Option JobGiven
read_job p = job_by p.0 (word_of_option p.1)

-- the job that all the words are
abbrev pub job_in : List Text → Option JobGiven
job_in words = option_and_then read_job (reading words)
