-- What an expression gives once its operands have their values (ISO/IEC 9899:2011, 6.5).
use Rattle.std.specs.Prelude.{pos}
use Rattle.c_tree.specs.declared.typed_expression.Direction.TheVariants.{Up}
use Rattle.c_tree.specs.TypedExpressions.{RvalueTree, Load, Decay, Convert, Signed, Not, Arithmetic, Compare, ComparePointers, Move, MoveFrom, Difference, Update, UpdatePointer, Step, StepPointer}
use Rattle.c_meaning_values.specs.declared.value.Value.{Value}
use Rattle.c_meaning_values.specs.Operations.{arithmetic, value_with_sign, convert, comparison, pointer_comparison, pointer_difference, moved_by_elements, operator_of}
use Rattle.c_meaning_steps.specs.States.{Evaluated, Leaves, value_or_undefined, with, afterwards, mapped, Both, on_both, condition_tested, on_test}
use Rattle.c_meaning_steps.specs.Steps.{load, store, decayed, truth_value, updated_value, store_if, replace_if, one}

-- An object was found: it is loaded, an array is used, or its address is taken.
abbrev pub on_object : RvalueTree → Evaluated → Evaluated
on_object (Load scalar from) found = with found load
on_object (Decay from) found = with found decayed
on_object _ found = found

-- one operand: it is converted, gets a sign, is negated, or is not used
abbrev pub on_operand : RvalueTree → Evaluated → Evaluated
on_operand (Convert type e) operand = mapped operand (convert type)
on_operand (Signed sign type e) operand = with operand (λ v t. value_or_undefined (value_with_sign sign type v) t)
on_operand (Not e) operand = on_test (condition_tested operand) (truth_value (pos 0)) (truth_value (pos 1))
on_operand _ operand = afterwards operand Leaves

-- two operands, of which a step's are an object and what it holds, and an assignment's an object and the right side
abbrev pub on_operands : RvalueTree → Both → Evaluated
on_operands (Arithmetic o type a b) operands = on_both operands (λ v w t. value_or_undefined (arithmetic o type v w) t)
on_operands (Compare o type a b) operands = on_both operands (λ v w t. value_or_undefined (comparison o v w) t)
on_operands (ComparePointers o a b) operands =
    on_both operands (λ v w t. value_or_undefined (pointer_comparison t.memory o v w) t)
on_operands (Move direction element p by) operands =
    on_both operands (λ v w t. value_or_undefined (moved_by_elements t.memory direction element v w) t)
on_operands (MoveFrom by element p) operands =
    on_both operands (λ w v t. value_or_undefined (moved_by_elements t.memory Up element v w) t)
on_operands (Difference element a b) operands =
    on_both operands (λ v w t. value_or_undefined (pointer_difference t.memory element v w) t)
on_operands (Step direction which type calculated_in target) operands =
    on_both operands
    (λ p old t. replace_if (updated_value (operator_of direction) type calculated_in old one) which p old t)
on_operands (StepPointer direction which element target) operands =
    on_both operands (λ p old t. replace_if (moved_by_elements t.memory direction element old one) which p old t)
on_operands _ operands = on_both operands store

-- An object was found by a pointer and read, and behind it the right side was evaluated: the object is updated.
abbrev pub on_right_side : RvalueTree → (pointer old : Value) → Evaluated → Evaluated
on_right_side (Update o type calculated_in target e) p old right =
    with right (λ v u. store_if (updated_value o type calculated_in old v) p u)
on_right_side (UpdatePointer direction element target by) p old right =
    with right (λ v u. store_if (moved_by_elements u.memory direction element old v) p u)
on_right_side _ p old right = right
