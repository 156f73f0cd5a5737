-- The activations that are live at a stop, as a session shows them.
use Rattle.std.specs.Prelude.{ℕ, ◌+◌, List, [], ◌∷◌, map}
use Rattle.std.specs.Option.{option_map_or}
use Rattle.image_form.specs.Form.{Form, numbered}
use Rattle.image_form.specs.Names.{function_name}
use Rattle.image_form.specs.declared.tables.Place.{Place}
use Rattle.line_form.specs.Lines.{frame_line}
use Rattle.rv_machine.specs.State.{MachineState}
use Rattle.stop_engine.specs.declared.activations.Frame.{Frame}
use Rattle.stop_engine_view.specs.Reading.{frames}

-- An activation: the name of its function, and the line and the place at which it stands.
pub record Activation : Type 0 where
  pub function : List ℕ
  pub line : ℕ
  pub place : ℕ

-- the activation that stands at a place; at a number of no place it has no name
abbrev pub activation_at : Form → (place : ℕ) → Activation
activation_at m place =
    option_map_or (λ (p : Place). record {
      function = function_name m p.function;
      line = p.line;
      place = place;
    }) (numbered m.places place) (record { function = []; line = 0; place = place })

-- the activations that are live at a stop, the innermost first
abbrev pub activations : Form → MachineState → (place : ℕ) → List Activation
activations m s place = map (activation_at m) (frames m s place)

-- the lines of activations, the first of which has this number
abbrev pub activation_lines : (number : ℕ) → List Activation → List (List ℕ)
activation_lines number [] = []
activation_lines number (a ∷ more) = frame_line number a.function a.line a.place ∷ activation_lines (number + 1) more

-- what an answer says of an activation
abbrev pub activation_of : Frame → Activation
activation_of f = record { function = f.function.items; line = f.line; place = f.place }
