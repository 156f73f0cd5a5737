-- What an image is, by how bytes are read as one.
use Rattle.std.specs.Prelude.{◌≡◌, ◌<◌, Ok}
use Rattle.std.specs.List.{AllByRecursion}
use Rattle.image_form.specs.Form.{Form}
use Rattle.image_form.specs.Spelling.{spelling}
use Rattle.image_form.specs.Reading.{read_of}

-- A FORM IS AN IMAGE: from the bytes that spell it this form is read, no rule of the format broken, and its initial
-- bytes are bytes.
pub record IsReadBack (f : Form) : Type 0 where
  pub reads : read_of (spelling f) ≡ Ok f
  pub bytes : AllByRecursion (λ b. b < 256) f.initial
