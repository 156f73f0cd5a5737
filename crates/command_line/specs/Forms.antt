-- The jobs of the command line.
use Rattle.std.specs.Prelude.{List, [], ◌∷◌, Option, Some, None, codes, option_map}
use Rattle.command_line.specs.Words.{JobForm, Jobs, Text, Use, job_named, uses_of}

-- debug [--passes LIST] [--homes MODE] [--limit N] SRC SCRIPT INPUT IMAGE
abbrev pub debug_form : JobForm
debug_form = record {
  options = codes "passes" ∷ codes "homes" ∷ codes "limit" ∷ [];
  places = codes "src" ∷ codes "script" ∷ codes "input" ∷ codes "image" ∷ [];
}

-- compile [--passes LIST] [--homes MODE] SRC IMAGE
abbrev pub compile_form : JobForm
compile_form = record {
  options = codes "passes" ∷ codes "homes" ∷ [];
  places = codes "src" ∷ codes "image" ∷ [];
}

-- attach [--limit N] IMAGE SCRIPT INPUT
abbrev pub attach_form : JobForm
attach_form = record {
  options = codes "limit" ∷ [];
  places = codes "image" ∷ codes "script" ∷ codes "input" ∷ [];
}

-- passes [--passes LIST] SRC
abbrev pub passes_form : JobForm
passes_form = record { options = codes "passes" ∷ []; places = codes "src" ∷ [] }

-- sweep SEED SIZE
abbrev pub sweep_form : JobForm
sweep_form = record { options = []; places = codes "seed" ∷ codes "size" ∷ [] }

-- all jobs
abbrev pub jobs : Jobs
jobs = (codes "debug", debug_form) ∷ (codes "compile", compile_form) ∷ (codes "attach", attach_form)
    ∷ (codes "passes", passes_form) ∷ (codes "sweep", sweep_form) ∷ []

-- what the words behind the job's name give to its names
abbrev pub of_job : Option (Text × JobForm) → List Text → Option (Text × List Use)
of_job None rest = None
of_job (Some j) rest = option_map (λ uses. (j.0, uses)) (uses_of j.1 rest)

-- the job's name, and what the words give to its names, of all the words, the program's own name first
abbrev pub reading : List Text → Option (Text × List Use)
reading [] = None
reading (program ∷ []) = None
reading (program ∷ name ∷ rest) = of_job (job_named jobs name) rest
