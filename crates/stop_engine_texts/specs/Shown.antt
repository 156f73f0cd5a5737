-- What is shown of a name where the session stands at a place.
use Rattle.std.specs.Prelude.{ℕ, ◌+◌, ◌==◌, ◌&&◌, nat_lt, Bool, not, if◌then◌else◌, bytes_eq, Option, Some, None, List, [], ◌∷◌}
use Rattle.std.specs.Option.{option_map_or, is_some}
use Rattle.image_form.specs.Form.{Form, numbered}
use Rattle.image_form.specs.Names.{variable_name}
use Rattle.image_form.specs.declared.tables.Place.{Place}
use Rattle.image_form.specs.declared.variables.Variable.{Variable}
use Rattle.image_form.specs.declared.verdicts.VisibleRow.{VisibleRow}
use Rattle.rv_machine.specs.State.{MachineState}
use Rattle.stop_engine_texts.specs.Rows.{row_sight}
use Rattle.stop_engine_texts.specs.Sight.{Sight, NoName, Value}
use Rattle.stop_engine_view.specs.Values.{held_text}

-- the row of a place for a variable of a name
abbrev pub is_row_of : Form → (place : ℕ) → (name : List ℕ) → VisibleRow → Bool
is_row_of m place name r = r.place == place && bytes_eq (variable_name m r.variable) name

-- the first such row
abbrev pub first_row_of : Form → (place : ℕ) → (name : List ℕ) → List VisibleRow → Option VisibleRow
first_row_of m place name [] = None
first_row_of m place name (r ∷ rows) = if is_row_of m place name r then Some r else first_row_of m place name rows

-- the byte of the text at which a place begins
abbrev pub position_of_place : Form → ℕ → ℕ
position_of_place m place = option_map_or (λ (p : Place). p.position) (numbered m.places place) 0

-- a static variable that is declared before a position
abbrev pub is_static_before : (position : ℕ) → Variable → Bool
is_static_before position v = not (is_some v.function) && nat_lt v.position position

-- the first static variable of a name that is declared before a position, of variables that are counted on from a
-- number
abbrev pub static_of : Form → (position : ℕ) → (name : List ℕ) → (number : ℕ) → List Variable → Option ℕ
static_of m position name number [] = None
static_of m position name number (v ∷ variables) =
    if is_static_before position v && bytes_eq (variable_name m number) name then Some number
    else static_of m position name (number + 1) variables

-- what is seen of a name: of the first visible variable that has it, else of the first static one that is declared
-- before the place
abbrev pub name_sight : Form → MachineState → (place : ℕ) → (name : List ℕ) → Sight
name_sight m s place name =
    option_map_or (λ (r : VisibleRow). row_sight m s r) (first_row_of m place name m.rows)
    (option_map_or (λ variable. Value (held_text m s place variable))
    (static_of m (position_of_place m place) name 0 m.variables) NoName)
