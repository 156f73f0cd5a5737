-- Units that come of a program.
use Rattle.std.specs.Prelude.{List}
use Rattle.command_line.specs.Words.{Text}
use Rattle.c_tree.specs.Programs.{ProgramTree}
use Rattle.debug_records.specs.declared.change.PassName.{PassName}
use Rattle.graph_core.specs.Graphs.{UnitForm}
use Rattle.graph_homes.specs.Homed.{HomedForm}
use Rattle.image_build.specs.Kept.{IsKeptOf}
use Rattle.image_build.specs.Behind.{ComesHomedForms}

-- A unit with homes that comes of a program is kept of it.
pub kept_behind : {P : Type 0} (named : P → PassName) (steps : P → UnitForm → UnitForm → Type 0) (passes : List P) (names : List Text) (p : ProgramTree) (h : HomedForm) → ComesHomedForms named steps passes names p h → IsKeptOf p h.unit
kept_behind named steps passes names p h comes = record {
  first = comes.comes.first;
  last = comes.unit;
  built = comes.comes.built;
  keeps = comes.comes.keeps;
  same = comes.same;
}
