-- What is seen of activations and variables where a run stands.
use Rattle.std.specs.Prelude.{List, []}
use Rattle.std.specs.Option.{option_map_or}
use Rattle.image_form.specs.Form.{Form}
use Rattle.stop_engine.specs.Activations.{Activation, activations}
use Rattle.stop_engine_view.specs.Reading.{place_at}
use Rattle.stop_engine.specs.Transcript.{Position, Fresh, Standing, Over}
use Rattle.stop_engine.specs.Visible.{Visible, visible_at}

-- the activations that are live where a run stands, the innermost first; at no stop there is none
abbrev pub frames_at : Form → Position → List Activation
frames_at m Fresh = []
frames_at m (Standing s) = option_map_or (activations m s) (place_at m s.pc) []
frames_at m (Over e) = []

-- the variables that are visible where a run stands, in the order of their rows; at no stop there is none
abbrev pub locals_at : Form → Position → List Visible
locals_at m Fresh = []
locals_at m (Standing s) = option_map_or (visible_at m s) (place_at m s.pc) []
locals_at m (Over e) = []
