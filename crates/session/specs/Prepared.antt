-- What stands between the texts of a session and its run.
use Rattle.std.specs.Prelude.{◌≡◌, ℕ, List}
use Rattle.command_line.specs.Words.{Text}
use Rattle.debug_records.specs.declared.change.PassName.{PassName}
use Rattle.debug_records.specs.declared.mode.Mode.{Mode}
use Rattle.graph_core.specs.Graphs.{UnitForm}
use Rattle.image_form.specs.Form.{Form, form}
use Rattle.image_form.specs.Rules.{IsImage}
use Rattle.image_form.specs.Spelling.{spelling}
use Rattle.c_source.specs.Sources.{HasProgram}
use Rattle.session.specs.Images.{IsReadBack}
use Rattle.session.specs.Truth.{IsTruthfulTo}
use Rattle.session.specs.declared.preparing.Made.{Made}

module _ {P : Type 0} (named : P → PassName) (steps : P → UnitForm → UnitForm → Type 0) (handed_in : List P) where
  -- The text is of a program, and this is an image that is truthful to it after the passes of these names.
  pub record IsImageFor (text : List ℕ) (names : List Text) (mode : Mode) (form : Form) : Type 0 where
    pub understood : HasProgram text
    pub image : IsReadBack form
    pub truthful : IsTruthfulTo named steps handed_in text names mode form

  -- the image of the source, with its bytes
  pub record IsMade (text : List ℕ) (names : List Text) (mode : Mode) (made : Made) : Type 0 where
    pub image : IsImageFor text names mode (form made.image)
    pub rules : IsImage (form made.image)
    pub bytes : made.bytes.items ≡ spelling (form made.image)
