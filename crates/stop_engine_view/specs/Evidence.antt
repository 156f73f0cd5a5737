-- The path that shows why a variable is not shown, as an image has it.
use Rattle.std.specs.Prelude.{ℕ, Option, Some, None, unwrap_or, List, [], map}
use Rattle.std.specs.Option.{option_map_or}
use Rattle.image_form.specs.Form.{Form, numbered}
use Rattle.image_form.specs.declared.tables.AssignedPair.{AssignedPair}
use Rattle.image_form.specs.declared.tables.Change.{Change}
use Rattle.image_form.specs.declared.tables.FlowPair.{FlowPair}
use Rattle.places.specs.declared.flow.FlowStep.{FlowStep}
use Rattle.places.specs.declared.flow.Assignment.{Assignment}
use Rattle.places.specs.Flow.{assigns}
use Rattle.places.specs.Path.{Quest}
use Rattle.places.specs.Route.{route_of}
use Rattle.stop_engine_view.specs.Reading.{place_of_word}

-- where execution may go, by a table of an image
abbrev pub step_of : FlowPair → FlowStep
step_of pair = record { from = record { 0 = pair.from }; to = record { 0 = pair.to } }

-- what is assigned, by a table of an image
abbrev pub assignment_of : AssignedPair → Assignment
assignment_of pair = record { place = record { 0 = pair.place }; var = record { 0 = pair.variable } }

-- the place by which a path goes: that of the change, or that of the code word that wrote
abbrev pub via_of : Form → (change : ℕ) → (writer : Option ℕ) → ℕ
via_of m change None = option_map_or (λ (c : Change). c.place) (numbered m.changes change) 0
via_of m change (Some address) = place_of_word m address

-- the path that is looked for
abbrev pub row_quest : Form → (variable change start : ℕ) → (writer : Option ℕ) → (place : ℕ) → Quest
row_quest m variable change start writer place = record {
  steps = map step_of m.flow;
  blocked = λ p. assigns (map assignment_of m.assigned) p variable;
  start = start;
  via = via_of m change writer;
  stop = place;
}

-- the path that shows why a variable is not shown; no place where there is none
abbrev pub row_path : Form → (variable change start : ℕ) → (writer : Option ℕ) → (place : ℕ) → List ℕ
row_path m variable change start writer place = unwrap_or (route_of (row_quest m variable change start writer place)) []
