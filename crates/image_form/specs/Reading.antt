-- How bytes are read: the image that they spell, or the first rule that they break.
use Rattle.std.specs.Prelude.{ℕ, List, Result, Ok}
use Rattle.image_form.specs.Decoding.{form_of_sections}
use Rattle.image_form.specs.Form.{Form}
use Rattle.image_form_sections.specs.Breaches.{Fault, ◌>>=◌}
use Rattle.image_form_sections.specs.Checking.{checked_of}

-- The image that bytes spell, or their first breach in the order of the file.
unfoldable pub read_of : List ℕ → Result Form Fault
read_of bytes = checked_of bytes >>= λ sections. Ok (form_of_sections sections)
