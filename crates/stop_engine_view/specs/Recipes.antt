-- The values of the recipes of an image.
use Rattle.std.specs.Prelude.{ℕ, zero, suc, ◌-◌, nat_lt, if◌then◌else◌, slice_get}
use Rattle.std.specs.Option.{option_map_or}
use Rattle.image_form.specs.Form.{Form}
use Rattle.image_form.specs.declared.recipes.Node.{Node}
use Rattle.image_form.specs.declared.recipes.Node.TheVariants as node
use Rattle.image_form.specs.declared.variables.Variable.{Variable}
use Rattle.rv_machine.specs.State.{MachineState, reg}
use Rattle.word_base.specs.WordOperations.{word_operation, truncated}
use Rattle.stop_engine_view.specs.Reading.{slot_word}
use Rattle.stop_engine_view.specs.Words.{home_word}

-- what is held by the home of a variable
abbrev pub variable_word : Form → MachineState → ℕ → ℕ
variable_word m s variable = option_map_or (λ (v : Variable). home_word s v.storage) (slice_get m.variables variable) 0

-- what a register holds, or a slot by 32 plus its offset
abbrev pub numbered_home : MachineState → ℕ → ℕ
numbered_home s home = if nat_lt home 32 then reg s home else slot_word s (home - 32)

-- the value of a node, by the values of its operands
abbrev pub node_value : Form → MachineState → (ℕ → ℕ) → Node → ℕ
node_value m s operand (node.Constant value) = value
node_value m s operand (node.Variable variable) = variable_word m s variable
node_value m s operand (node.Home home) = numbered_home s home
node_value m s operand (node.Truncated truncation inner) = truncated truncation (operand inner)
node_value m s operand (node.Operated operation left right) = word_operation operation (operand left) (operand right)

-- the value of the recipe whose root has this number, of so many levels
abbrev pub recipe_value : Form → MachineState → (levels : ℕ) → ℕ → ℕ
recipe_value m s zero root = 0
recipe_value m s (suc levels) root = option_map_or (node_value m s (recipe_value m s levels)) (slice_get m.nodes root) 0
