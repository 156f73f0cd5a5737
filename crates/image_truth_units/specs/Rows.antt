-- When what is shown of a variable is the text of what it holds.
use Rattle.std.specs.Prelude.{◌≡◌, ℕ, Some, List, slice_get}
use Rattle.c_tree.specs.declared.object_type.ObjectType.{ObjectType}
use Rattle.c_tree.specs.Programs.{ProgramTree}
use Rattle.c_meaning_values.specs.declared.value.Value.{Value}
use Rattle.c_meaning_values.specs.Memory.{Memory}
use Rattle.image_form.specs.Form.{Form}
use Rattle.image_form.specs.declared.variables.Variable.{Variable}
use Rattle.image_form.specs.declared.verdicts.Verdict.{Verdict}
use Rattle.image_form.specs.declared.verdicts.Verdict.TheVariants.{Home, Recovered, Noncurrent, Nonresident}
use Rattle.rv_machine.specs.State.{MachineState}
use Rattle.stop_engine_view.specs.Recipes.{recipe_value}
use Rattle.stop_engine_view.specs.Values.{held_text, recovered_text, recipe_levels}
use Rattle.stop_engine_view.specs.Words.{home_word}
use Rattle.image_truth_units.specs.Texts.{IsObjectText}
use Rattle.image_truth_units.specs.Standing.{Standing, IsWordOf, IsHome}

-- What is shown by a verdict is the text of what a variable of a type holds. Of one that is not shown nothing is said.
abbrev pub IsShown : ProgramTree → Form → MachineState → Memory → ObjectType → List Value → (place variable : ℕ)
    → Verdict → Type 0
IsShown p m s memory of values place x Home = IsObjectText p memory of values (held_text m s place x)
IsShown p m s memory of values place x (Recovered change node) =
    IsObjectText p memory of values (recovered_text m s place x node)
IsShown p m s memory of values place x (Noncurrent change start writer) = Unit {0}
IsShown p m s memory of values place x (Nonresident change start writer) = Unit {0}

-- What a verdict says of a scalar whose value this is: its home holds the word of the value, or its recipe comes to it.
-- Of one that is not shown nothing is said.
abbrev pub IsKeptBy : ProgramTree → Form → List Standing → Memory → MachineState → (variable : ℕ) → Value → Verdict
    → Type 0
IsKeptBy p m stack memory s x value Home =
    (v : Variable) → slice_get m.variables x ≡ Some v
    → IsHome v.storage × IsWordOf p m stack memory value (home_word s v.storage)
IsKeptBy p m stack memory s x value (Recovered change node) =
    IsWordOf p m stack memory value (recipe_value m s recipe_levels node)
IsKeptBy p m stack memory s x value (Noncurrent change start writer) = Unit {0}
IsKeptBy p m stack memory s x value (Nonresident change start writer) = Unit {0}
