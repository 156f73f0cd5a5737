-- An image has one spelling, and no two images share it.
use Rattle.std.specs.Prelude.{◌≡◌}
use Rattle.image_form.specs.Form.{Form}
use Rattle.image_form.specs.Rules.{IsImage}
use Rattle.image_form.specs.Spelling.{spelling}

-- Images that are spelled alike are alike.
abbrev pub SpellsOneImage : Type 0
SpellsOneImage = (f g : Form) → IsImage f → IsImage g → spelling f ≡ spelling g → f ≡ g
