-- The lines of the activations that are live at a stop.
use Rattle.std.specs.Prelude.{ℕ, ◌+◌, List, [], ◌∷◌}
use Rattle.std.specs.Option.{option_map_or}
use Rattle.image_form.specs.Form.{Form, numbered}
use Rattle.image_form.specs.Names.{function_name}
use Rattle.image_form.specs.declared.tables.Place.{Place}
use Rattle.line_form.specs.Lines.{frame_line}

-- The line of the activation of a number that stands at a place.
abbrev pub frame_line_at : Form → (number place : ℕ) → List ℕ
frame_line_at m number place =
    option_map_or (λ (p : Place). frame_line number (function_name m p.function) p.line place) (numbered m.places place)
    []

-- The lines of the activations that stand at these places, the first with this number.
abbrev pub frame_lines : Form → (number : ℕ) → List ℕ → List (List ℕ)
frame_lines m number [] = []
frame_lines m number (place ∷ places) = frame_line_at m number place ∷ frame_lines m (number + 1) places
