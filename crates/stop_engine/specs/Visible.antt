-- The variables that are visible at a place.
use Rattle.std.specs.Prelude.{ℕ, List, map}
use Rattle.image_form.specs.Form.{Form}
use Rattle.image_form.specs.Names.{variable_name}
use Rattle.image_form.specs.declared.verdicts.VisibleRow.{VisibleRow}
use Rattle.rv_machine.specs.State.{MachineState}
use Rattle.stop_engine.specs.declared.locals.Local.{Local}
use Rattle.stop_engine_texts.specs.Rows.{row_sight}
use Rattle.stop_engine_texts.specs.Sight.{Sight, sight_line, sight_of}
use Rattle.stop_engine_view.specs.Rows.{rows_at}

-- A visible variable as a session sees it: its name, and what is seen of it.
pub record Visible : Type 0 where
  pub name : List ℕ
  pub sight : Sight

-- the variable of a row
abbrev pub visible_of_row : Form → MachineState → VisibleRow → Visible
visible_of_row m s r = record { name = variable_name m r.variable; sight = row_sight m s r }

-- the variables that are visible at a place, each by its own row
abbrev pub visible_at : Form → MachineState → (place : ℕ) → List Visible
visible_at m s place = map (visible_of_row m s) (rows_at place m.rows)

-- the line of a visible variable
abbrev pub visible_line : Visible → List ℕ
visible_line v = sight_line v.name v.sight

-- what an answer says of a variable
abbrev pub visible_of : Local → Visible
visible_of l = record { name = l.name.items; sight = sight_of l.shown }
