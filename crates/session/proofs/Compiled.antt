-- What is so of the image of a source.
use Rattle.std.proofs.Common.{◌≡◌, ℕ, List, [], ◌∷◌, map, refl, subst}
use Rattle.std.specs.Prelude.{Ok}
use Rattle.command_line.specs.Words.{Text}
use Rattle.c_source.specs.Sources.{HasProgram, program_of_source}
use Rattle.debug_records.specs.declared.mode.Mode.TheVariants.{Slots}
use Rattle.image_build.specs.Truthful.{RunsTrue}
use Rattle.image_build.specs.ProgramImageShown.{ShowsAll}
use Rattle.image_build.specs.Tables.{HasTablesOf}
use Rattle.session.specs.Behind.{ComesOfProgram}
use Rattle.session.specs.Prepared.{IsMade}
use Rattle.session.specs.Truth.{IsTruthfulTo}
use Rattle.session.specs.declared.preparing.Made.{Made}
use Rattle.debug_records.specs.Change.{letters}
use Rattle.debug_records.specs.declared.change.PassName.{PassName}
use Rattle.debug_records.specs.declared.mode.Mode.{Mode}
use Rattle.c_tree.specs.Programs.{ProgramTree}
use Rattle.graph_core.specs.Graphs.{UnitForm}
use Rattle.image_form.specs.Form.{Form, form}
use Rattle.image_form.specs.Rules.{IsImage}
use Rattle.image_form.specs.Spelling.{spelling}
use Rattle.session.proofs.ReadBack.{read_back}

-- passes of no names are none
pub none_named : (names : List PassName) → map letters names ≡ [] → names ≡ []
none_named [] none = refl
none_named (name ∷ names) none = cc

-- a source has one program
one_program : (source : List ℕ) (p q : ProgramTree) → program_of_source source ≡ Ok p → program_of_source source ≡ Ok q → p ≡ q
one_program source p q one other = cc

module _ {P : Type 0} {named : P → PassName} {steps : P → UnitForm → UnitForm → Type 0} {handed_in : List P} where
  -- WHAT IS SO OF THE IMAGE OF A SOURCE'S PROGRAM IS SO OF THE SOURCE
  pub truthful_by : (source : List ℕ) (names : List Text) (mode : Mode) (p : ProgramTree) (m : Form) → program_of_source source ≡ Ok p → RunsTrue p m → (names ≡ [] → mode ≡ Slots → ShowsAll m) → HasTablesOf p m → ComesOfProgram named steps handed_in p names mode m
      → IsTruthfulTo named steps handed_in source names mode m
  truthful_by source names mode p m is runs shows tables comes = record {
    runs = λ q other. subst (λ (r : ProgramTree). RunsTrue r m) (one_program source p q is other) runs;
    shows = shows;
    tables = λ q other. subst (λ (r : ProgramTree). HasTablesOf r m) (one_program source p q is other) tables;
    comes = λ q other. subst (λ (r : ProgramTree). ComesOfProgram named steps handed_in r names mode m) (one_program source p q is other) comes;
  }

  -- An image that is made of the program of a source is one of the source.
  pub made_of : (source : List ℕ) (names : List Text) (mode : Mode) (p : ProgramTree) (made : Made) → HasProgram source → program_of_source source ≡ Ok p → IsImage (form made.image) → made.bytes.items ≡ spelling (form made.image) → RunsTrue p (form made.image)
      → (names ≡ [] → mode ≡ Slots → ShowsAll (form made.image)) → HasTablesOf p (form made.image) → ComesOfProgram named steps handed_in p names mode (form made.image) → IsMade named steps handed_in source names mode made
  made_of source names mode p made understood program image bytes runs shows tables comes = record {
    image = record { understood = understood; image = read_back (form made.image) image; truthful = truthful_by source names mode p (form made.image) program runs shows tables comes };
    rules = image;
    bytes = bytes;
  }
