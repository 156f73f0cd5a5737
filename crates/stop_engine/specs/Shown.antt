-- The lines that are shown of variables and activations where the session stands at a place.
use Rattle.std.specs.Prelude.{ℕ, ◌==◌, if◌then◌else◌, List, [], ◌∷◌}
use Rattle.image_form.specs.Form.{Form}
use Rattle.image_form.specs.Names.{variable_name}
use Rattle.image_form.specs.declared.verdicts.VisibleRow.{VisibleRow}
use Rattle.line_form.specs.Lines.{no_locals_line}
use Rattle.rv_machine.specs.State.{MachineState}
use Rattle.stop_engine.specs.Frames.{frame_lines}
use Rattle.stop_engine_texts.specs.Rows.{row_sight}
use Rattle.stop_engine_texts.specs.Sight.{sight_line}
use Rattle.stop_engine_view.specs.Reading.{frames}

-- the line of a row, under its variable's name
abbrev pub row_line : Form → MachineState → VisibleRow → List ℕ
row_line m s r = sight_line (variable_name m r.variable) (row_sight m s r)

-- the lines of the rows of a place
abbrev pub lines_of_rows : Form → MachineState → (place : ℕ) → List VisibleRow → List (List ℕ)
lines_of_rows m s place [] = []
lines_of_rows m s place (r ∷ rows) =
    if r.place == place then row_line m s r ∷ lines_of_rows m s place rows else lines_of_rows m s place rows

-- the one line where there is none
abbrev pub or_no_locals : List (List ℕ) → List (List ℕ)
or_no_locals [] = no_locals_line ∷ []
or_no_locals (line ∷ lines) = line ∷ lines

-- the lines of all visible variables
abbrev pub locals_lines : Form → MachineState → (place : ℕ) → List (List ℕ)
locals_lines m s place = or_no_locals (lines_of_rows m s place m.rows)

-- the lines of the activations that are live
abbrev pub where_lines : Form → MachineState → (place : ℕ) → List (List ℕ)
where_lines m s place = frame_lines m 0 (frames m s place)
