-- What is promised of an image and its source.
use Rattle.std.specs.Prelude.{◌≡◌, ℕ, List, [], Ok}
use Rattle.command_line.specs.Words.{Text}
use Rattle.debug_records.specs.declared.change.PassName.{PassName}
use Rattle.debug_records.specs.declared.mode.Mode.{Mode}
use Rattle.debug_records.specs.declared.mode.Mode.TheVariants.{Slots}
use Rattle.c_tree.specs.Programs.{ProgramTree}
use Rattle.c_source.specs.Sources.{program_of_source}
use Rattle.graph_core.specs.Graphs.{UnitForm}
use Rattle.image_form.specs.Form.{Form}
use Rattle.image_build.specs.Truthful.{RunsTrue}
use Rattle.image_build.specs.ProgramImageShown.{ShowsAll}
use Rattle.image_build.specs.Tables.{HasTablesOf}
use Rattle.session.specs.Behind.{ComesOfSource}

-- The image runs true to the program of its source: on each input the output, the ending and the stops are those of the
-- C program, and at each stop the text that is shown of a variable is that of the value which it has there by C.
abbrev pub RunsAsItsSource : (source : List ℕ) → Form → Type 0
RunsAsItsSource source form = (p : ProgramTree) → program_of_source source ≡ Ok p → RunsTrue p form

-- The tables of the image are those of the source's program: its places, its flow, its assignments, and the variables
-- that are visible at each place.
abbrev pub HasTablesOfSource : (source : List ℕ) → Form → Type 0
HasTablesOfSource source form = (p : ProgramTree) → program_of_source source ≡ Ok p → HasTablesOf p form

module _ {P : Type 0} (named : P → PassName) (steps : P → UnitForm → UnitForm → Type 0) (handed_in : List P) where
  -- WHAT IS PROMISED OF AN IMAGE AND ITS SOURCE, for every list of passes and both modes: it runs true to the source,
  -- its tables are the source's, and it comes of it after just these passes, each by one step; and where no pass is
  -- run, with slots, it shows every variable.
  pub record IsTruthfulTo (source : List ℕ) (passes : List Text) (mode : Mode) (form : Form) : Type 0 where
    pub runs : RunsAsItsSource source form
    pub shows : passes ≡ [] → mode ≡ Slots → ShowsAll form
    pub tables : HasTablesOfSource source form
    pub comes : ComesOfSource named steps handed_in source passes mode form
