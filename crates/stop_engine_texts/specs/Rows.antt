-- What is seen of the variables that are visible at a place.
use Rattle.std.specs.Prelude.{ℕ, ◌-◌, ◌<◌, ◌≤◌, Option, List, [], length}
use Rattle.std.specs.Option.{option_map_or}
use Rattle.image_form.specs.Form.{Form, numbered}
use Rattle.image_form.specs.RulesOfFunctions.{IsPlaceNumber}
use Rattle.image_form.specs.Names.{pass_name}
use Rattle.image_form.specs.declared.tables.Change.{Change}
use Rattle.image_form.specs.declared.verdicts.Verdict.{Verdict}
use Rattle.image_form.specs.declared.verdicts.Verdict.TheVariants.{Home, Recovered, Noncurrent, Nonresident}
use Rattle.image_form.specs.declared.verdicts.VisibleRow.{VisibleRow}
use Rattle.line_form.specs.Changes.{change_text}
use Rattle.rv_machine.specs.State.{MachineState}
use Rattle.stop_engine_texts.specs.Sight.{Sight}
use Rattle.stop_engine_texts.specs.Sight as sight
use Rattle.stop_engine_view.specs.Evidence.{row_path}
use Rattle.stop_engine_view.specs.QuietPaths.{quiet_path}
use Rattle.stop_engine_view.specs.Values.{held_text, recovered_text}

-- the text of a change, by its number
abbrev pub change_words : Form → ℕ → List ℕ
change_words m number =
    option_map_or (λ (c : Change). change_text number (pass_name m (number - 1)) c.kind c.place)
    (numbered m.changes number) []

-- what is seen of a variable that is not shown at a place: where a quiet path begins at a start, both paths; else what
-- its verdict makes of the change and the path that shows it
abbrev pub hidden_sight : Form → (place variable : ℕ) → (quiet : Option ℕ) → (make : (change path : List ℕ) → Sight)
    → (change start : ℕ) → (writer : Option ℕ) → Sight
hidden_sight m place variable quiet make change start writer =
    option_map_or
    (λ begin. sight.Suspect (change_words m change) (row_path m variable change start writer place)
    (quiet_path m variable begin place))
    quiet
    (make (change_words m change) (row_path m variable change start writer place))

-- what is seen of a variable at a place, by the verdict on it and by where a quiet path begins
abbrev pub verdict_sight : Form → MachineState → (place variable : ℕ) → (quiet : Option ℕ) → Verdict → Sight
verdict_sight m s place variable quiet Home = sight.Value (held_text m s place variable)
verdict_sight m s place variable quiet (Recovered change node) =
    sight.Recovered (recovered_text m s place variable node) (change_words m change)
verdict_sight m s place variable quiet (Noncurrent change start writer) =
    hidden_sight m place variable quiet (λ c p. sight.Noncurrent c p) change start writer
verdict_sight m s place variable quiet (Nonresident change start writer) =
    hidden_sight m place variable quiet (λ c p. sight.Nonresident c p) change start writer

-- what is seen of the variable of a row
abbrev pub row_sight : Form → MachineState → VisibleRow → Sight
row_sight m s r = verdict_sight m s r.place r.variable r.quiet r.verdict

-- a verdict names a change of the image, or none
abbrev pub IsChangeNumber : Form → ℕ → Type 0
IsChangeNumber m number = (1 ≤ number) × (number ≤ length m.changes)

abbrev pub NamesChange : Form → Verdict → Type 0
NamesChange m Home = Unit {0}
NamesChange m (Recovered change node) = IsChangeNumber m change
NamesChange m (Noncurrent change start writer) = IsChangeNumber m change
NamesChange m (Nonresident change start writer) = IsChangeNumber m change

-- A row is of a place and a variable of the image, and names a change of it or none.
pub record IsRow (m : Form) (r : VisibleRow) : Type 0 where
  pub place : IsPlaceNumber m r.place
  pub variable : r.variable < length m.variables
  pub change : NamesChange m r.verdict
