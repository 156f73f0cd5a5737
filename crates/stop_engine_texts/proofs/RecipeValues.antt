-- The values of recipes, level by level.
use Rattle.std.proofs.Common.{◌≡◌, ◌≢◌, ℕ, suc, ◌-◌, Some, sym, ap, ◌∙◌, arith}
use Rattle.std.specs.Option.{option_map_or}
use Rattle.std.specs.List.{slice_get}
use Rattle.image_form.specs.Form.{Form}
use Rattle.image_form.specs.declared.recipes.Node.{Node}
use Rattle.image_form.specs.declared.recipes.Node.TheVariants as node
use Rattle.rv_machine.specs.State.{MachineState}
use Rattle.word_base.specs.WordOperations.{word_operation, truncated}
use Rattle.word_base.specs.declared.operation.Operation.{Operation}
use Rattle.word_base.specs.declared.operation.Truncation.{Truncation}
use Rattle.stop_engine_view.specs.Recipes.{node_value, recipe_value}

-- The value of a node that stands at a number, of some levels.
value-at : (m : Form) (s : MachineState) (levels root : ℕ) (n : Node) → levels ≢ 0 → slice_get m.nodes root ≡ Some n
    → node_value m s (recipe_value m s (levels - 1)) n ≡ recipe_value m s levels root
value-at m s levels root n some at =
    let below : levels ≡ suc (levels - 1) = omega (arith, some) in
    sym (ap (λ (l : ℕ). recipe_value m s l root) below
    ∙ ap (λ o. option_map_or (node_value m s (recipe_value m s (levels - 1))) o 0) at)

-- What a truncation leaves of the value of its operand.
pub truncated-at : (m : Form) (s : MachineState) (levels root : ℕ) (truncation : Truncation) (operand value result : ℕ)
    → levels ≢ 0 → slice_get m.nodes root ≡ Some (node.Truncated truncation operand)
    → value ≡ recipe_value m s (levels - 1) operand → result ≡ truncated truncation value
    → result ≡ recipe_value m s levels root
truncated-at m s levels root truncation operand value result some at inner is =
    is ∙ (ap (truncated truncation) inner ∙ value-at m s levels root (node.Truncated truncation operand) some at)

-- What an operation computes of the values of its operands.
pub operated-at : (m : Form) (s : MachineState) (levels root : ℕ) (operation : Operation) (left right first second result : ℕ)
    → levels ≢ 0 → slice_get m.nodes root ≡ Some (node.Operated operation left right)
    → first ≡ recipe_value m s (levels - 1) left → second ≡ recipe_value m s (levels - 1) right
    → result ≡ word_operation operation first second → result ≡ recipe_value m s levels root
operated-at m s levels root operation left right first second result some at by_left by_right is =
    is ∙ (ap (λ (a : ℕ). word_operation operation a second) by_left
    ∙ (ap (word_operation operation (recipe_value m s (levels - 1) left)) by_right
    ∙ value-at m s levels root (node.Operated operation left right) some at))
