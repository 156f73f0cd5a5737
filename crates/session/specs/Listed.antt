-- The changes that passes make in a source, as lines.
use Rattle.std.specs.Prelude.{◌≡◌, ℕ, List, [], Ok}
use Rattle.command_line.specs.Words.{Text}
use Rattle.c_source.specs.Sources.{HasProgram, program_of_source}
use Rattle.c_tree.specs.Programs.{ProgramTree}
use Rattle.debug_records.specs.declared.change.PassName.{PassName}
use Rattle.graph_core.specs.Graphs.{UnitForm}
use Rattle.graph_core.specs.Validity.{IsValid}
use Rattle.image_build.specs.Behind.{ComesOf}
use Rattle.image_build.specs.Tables.{HasShapeOf}
use Rattle.session_lines.specs.ChangeLinesLines.{lines_of}

module _ {P : Type 0} (named : P → PassName) (steps : P → UnitForm → UnitForm → Type 0) (handed_in : List P) where
  -- The lines are those of all changes that the passes of these names log of a program, in order and numbered from 1:
  -- of a valid unit that comes of the program after them, with the program's functions, flow and assignments, and of
  -- one without changes where no pass is named.
  pub record AreLinesOf (p : ProgramTree) (names : List Text) (lines : List (List ℕ)) : Type 0 where
    pub unit : UnitForm
    pub comes : ComesOf named steps handed_in names p unit
    pub valid : IsValid unit
    pub shape : HasShapeOf p unit
    pub unchanged : names ≡ [] → unit.log ≡ []
    pub lines_are : lines ≡ lines_of p 1 unit.log

  -- The source is of a program, and the lines are those of the changes in it.
  pub record AreLinesFor (source : List ℕ) (names : List Text) (lines : List (List ℕ)) : Type 0 where
    pub understood : HasProgram source
    pub program : ProgramTree
    pub program_is : program_of_source source ≡ Ok program
    pub lines_are : AreLinesOf program names lines
