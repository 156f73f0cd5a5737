-- The quiet path by which the home of a variable that is not shown may still hold its value, as an image has it.
use Rattle.std.specs.Prelude.{ℕ, unwrap_or, List, [], map}
use Rattle.image_form.specs.Form.{Form}
use Rattle.places.specs.Path.{Quest}
use Rattle.places.specs.Route.{route_of}
use Rattle.stop_engine_view.specs.Evidence.{step_of}
use Rattle.stop_engine_view.specs.HomeWrites.{disturbs}

-- the path that is looked for: from a start to a place, past all places that disturb the variable
abbrev pub quiet_quest : Form → (variable start place : ℕ) → Quest
quiet_quest m variable start place = record {
  steps = map step_of m.flow;
  blocked = λ p. disturbs m variable p;
  start = start;
  via = start;
  stop = place;
}

-- the path on which nothing disturbs the variable; no place where there is none
abbrev pub quiet_path : Form → (variable start place : ℕ) → List ℕ
quiet_path m variable start place = unwrap_or (route_of (quiet_quest m variable start place)) []
