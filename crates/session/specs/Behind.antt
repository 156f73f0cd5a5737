-- What an image comes of: the source after the passes that the words name, of those that were handed in.
use Rattle.std.specs.Prelude.{◌≡◌, ℕ, List, Ok}
use Rattle.command_line.specs.Words.{Text}
use Rattle.debug_records.specs.declared.change.PassName.{PassName}
use Rattle.debug_records.specs.declared.mode.Mode.{Mode}
use Rattle.c_source.specs.Sources.{program_of_source}
use Rattle.c_tree.specs.Programs.{ProgramTree}
use Rattle.graph_core.specs.Graphs.{UnitForm}
use Rattle.graph_homes.specs.Homed.{HomedForm}
use Rattle.image_form.specs.Form.{Form}
use Rattle.image_build.specs.Behind.{ComesHomed}
use Rattle.image_build.specs.Explained.{ExplainsAll}
use Rattle.image_build.specs.Made.{IsHomed, IsMadeOf}

module _ {P : Type 0} (named : P → PassName) (steps : P → UnitForm → UnitForm → Type 0) (handed_in : List P) where
  -- AN IMAGE COMES OF A PROGRAM after passes of these names, with homes of the mode: it is made of a unit with such
  -- homes, and to that unit the passes lead, each in its turn by one step, on a trail on which each change that copy
  -- propagation, code motion or the removal of dead assignments logs is earned, which means that what it says was done,
  -- and what code motion makes is computationally optimal. Where a row hides a variable, the image's own tables explain
  -- why.
  pub record ComesOfProgram (p : ProgramTree) (names : List Text) (mode : Mode) (form : Form) : Type 0 where
    pub homed : HomedForm
    pub homes : IsHomed mode homed
    pub made : IsMadeOf p homed form
    pub comes : ComesHomed named steps handed_in names p homed
    pub explains : ExplainsAll form

  -- it comes of the program of a source
  abbrev pub ComesOfSource : (source : List ℕ) → (names : List Text) → Mode → Form → Type 0
  ComesOfSource source names mode form =
      (p : ProgramTree) → program_of_source source ≡ Ok p → ComesOfProgram p names mode form
