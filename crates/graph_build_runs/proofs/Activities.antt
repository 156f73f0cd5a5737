-- An activation of a function in both runs, and the settings of its places.
use Rattle.std.proofs.Common.{ℕ, List, [], Option}
use Rattle.std.proofs.lemmas.Option.{slice_get_within}
use Rattle.c_tree.specs.Programs.{ProgramTree}
use Rattle.c_places.specs.Places.{place_number_at, places_of_program}
use Rattle.c_meaning_values.specs.Memory.{Memory as SourceMemory}
use Rattle.c_meaning_steps.specs.declared.event.Frame.{Frame}
use Rattle.c_meaning_steps.specs.States.{State}
use Rattle.c_meaning.specs.Activations.{Activation}
use Rattle.c_meaning.specs.Expressions.{Calls}
use Rattle.graph_core.specs.Graphs.{Instruction, End}
use Rattle.graph_core.specs.Runs.{Configuration}
use Rattle.graph_build_statements.specs.Coding.{Coding}
use Rattle.graph_build_runs.proofs.Leads.{Setting, names_in, size_in, Local, World, at}
use Rattle.graph_build_runs.proofs.Later.{later_refl}
use Rattle.graph_build_runs.proofs.Kept.{Sound, Fits}

-- An activation in both runs: its setting, the activations of the program's run that wait, and what a call at a place comes to.
pub record Activity : Type 0 where
  pub setting : Setting
  pub frames : List Frame
  pub calls : (place : ℕ) → Calls

-- the activation in the program's run
abbrev pub here_in : Activity → Activation
here_in k = record { program = k.setting.program; places = places_of_program k.setting.program; function = k.setting.function; waiting = k.frames }

-- what its function's code stands on
abbrev pub coding_in : Activity → Coding
coding_in k = record {
  names = names_in k.setting;
  program = k.setting.program;
  places = places_of_program k.setting.program;
  entry = k.setting.graph.entry;
  scalars = size_in k.setting;
  top = k.setting.top;
}

-- the place at a position
abbrev pub place_at : Activity → ℕ → ℕ
place_at k at = place_number_at (places_of_program k.setting.program) at

-- the same at a place, where the place's code begins with a memory of the program's run
abbrev pub placed : Activity → (place : ℕ) → SourceMemory → Setting
placed k place began = record k.setting { place = place; begun = began }

-- the unit's configuration at a place, before some instructions
abbrev pub before_in : Activity → (place : ℕ) → List Instruction → End → Local → World → Configuration
before_in k place ops end l w = at (placed k place []) ops end l w

-- what is kept hangs on no place
pub fits_placed : (k : Activity) (place : ℕ) (began : SourceMemory) (want : Option ℕ) (s : State) (l : Local) (w : World) → Fits k.setting want s l w → Fits (placed k place began) want s l w
fits_placed k place began want s l w f = record { own = f.own; outer = f.outer; placed = f.placed; differ = f.differ; above = f.above; later = f.later; statics = f.statics; input = f.input; events = f.events }

pub fits_anywhere : (k : Activity) (place : ℕ) (began : SourceMemory) (want : Option ℕ) (s : State) (l : Local) (w : World) → Fits (placed k place began) want s l w → Fits k.setting want s l w
fits_anywhere k place began want s l w f = record { own = f.own; outer = f.outer; placed = f.placed; differ = f.differ; above = f.above; later = f.later; statics = f.statics; input = f.input; events = f.events }

-- what was kept since there was a memory is kept from now on
pub sound_now : (p : ProgramTree) (began : SourceMemory) (s : State) → Sound p began s → Sound p s.memory s
sound_now p began s h =
    record { typed = h.typed; differ = h.differ; declared = h.declared; single = h.single; bytes = h.bytes; since = record { later = later_refl s.memory; ends = λ n o is alive. slice_get_within s.memory n o is } }
