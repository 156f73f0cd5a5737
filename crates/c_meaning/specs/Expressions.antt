-- What an expression comes to: from left to right, each side effect at once (ISO/IEC 9899:2011, 6.5).
use Rattle.std.specs.Prelude.{ℕ, pos, List, [], ◌∷◌}
use Rattle.c_tree.specs.declared.typed_expression.Direction.TheVariants.{Up}
use Rattle.c_tree.specs.declared.typed_expression.Callee.{Callee}
use Rattle.c_tree.specs.declared.typed_expression.Callee.TheVariants.{Function, Getchar, Putchar, Exit}
use Rattle.c_tree.specs.TypedExpressions.{RvalueTree, LvalueTree, ArgumentTrees, Constant, Null, Load, Decay, AddressOf, Convert, Discard, Signed, Not, Arithmetic, Compare, ComparePointers, Move, MoveFrom, Difference, And, Or, Conditional, Comma, Assign, Update, UpdatePointer, Step, StepPointer, Call, Named, Target, Element, ElementFrom, none, first}
use Rattle.c_meaning_values.specs.declared.value.Value.{Value}
use Rattle.c_meaning_values.specs.declared.value.Value.TheVariants as value
use Rattle.c_meaning_steps.specs.declared.event.Ending.TheVariants as ending
use Rattle.c_meaning_values.specs.Operations.{arithmetic, value_with_sign, convert, comparison, pointer_comparison, pointer_difference, moved_by_elements, operator_of}
use Rattle.c_meaning_steps.specs.States.{State, Evaluated, Gives, Leaves, Ends, value_or_undefined, with, afterwards, mapped, usable, both_operands, on_both, condition_tested, on_test, Listed, Lists, argument_listed, fronted, on_list}
use Rattle.c_meaning_steps.specs.Steps.{load, store, pointer_to_named, decayed, next_byte, byte_put, leave, truth_value, left_side_read, updated_value, store_if, replace_if, one}

-- what a called function comes to, given its number and the values of its arguments (6.5.2.2)
abbrev pub Calls : Type 0
Calls = ℕ → List Value → State → Evaluated

-- a library function of one argument
abbrev pub call_with_one : (Value → State → Evaluated) → List Value → State → Evaluated
call_with_one go [] s = Ends ending.Undefined s
call_with_one go (v ∷ []) s = go v s
call_with_one go (v ∷ w ∷ vs) s = Ends ending.Undefined s

-- a call of a function of the program, or of the library
abbrev pub call : Calls → Callee → List Value → State → Evaluated
call calls (Function f) vs s = calls f vs s
call calls Getchar vs s = next_byte s.input s
call calls Putchar vs s = call_with_one byte_put vs s
call calls Exit vs s = call_with_one leave vs s

module _ (calls : Calls) (depth : ℕ) where
  abbrev mutual
    -- what the evaluation of an expression comes to (C11 6.5)
    pub evaluate : RvalueTree → State → Evaluated
    evaluate (Constant z type) s = Gives (value.Number z) s
    evaluate Null s = Gives value.Null s
    evaluate (Load scalar from) s = with (designate from s) load
    evaluate (Decay from) s = with (designate from s) decayed
    evaluate (AddressOf from) s = designate from s
    evaluate (Convert type e) s = mapped (evaluate e s) (convert type)
    evaluate (Discard e) s = afterwards (evaluate e s) Leaves
    evaluate (Signed sign type e) s = with (evaluate e s) (λ v t. value_or_undefined (value_with_sign sign type v) t)
    evaluate (Not e) s = on_test (condition_tested (evaluate e s)) (truth_value (pos 0)) (truth_value (pos 1))
    evaluate (Arithmetic o type a b) s =
        on_both (both_operands (evaluate a s) (evaluate b)) (λ v w t. value_or_undefined (arithmetic o type v w) t)
    evaluate (Compare o type a b) s =
        on_both (both_operands (evaluate a s) (evaluate b)) (λ v w t. value_or_undefined (comparison o v w) t)
    evaluate (ComparePointers o a b) s =
        on_both (both_operands (evaluate a s) (evaluate b))
        (λ v w t. value_or_undefined (pointer_comparison t.memory o v w) t)
    evaluate (Move direction element p by) s =
        on_both (both_operands (evaluate p s) (evaluate by))
        (λ v w t. value_or_undefined (moved_by_elements t.memory direction element v w) t)
    evaluate (MoveFrom by element p) s =
        on_both (both_operands (evaluate by s) (evaluate p))
        (λ w v t. value_or_undefined (moved_by_elements t.memory Up element v w) t)
    evaluate (Difference element a b) s =
        on_both (both_operands (evaluate a s) (evaluate b))
        (λ v w t. value_or_undefined (pointer_difference t.memory element v w) t)
    -- the right operand only where the left one does not decide (6.5.13p4, 6.5.14p4)
    evaluate (And a b) s =
        on_test (condition_tested (evaluate a s))
        (λ t. on_test (condition_tested (evaluate b t)) (truth_value (pos 1)) (truth_value (pos 0)))
        (truth_value (pos 0))
    evaluate (Or a b) s =
        on_test (condition_tested (evaluate a s)) (truth_value (pos 1))
        (λ t. on_test (condition_tested (evaluate b t)) (truth_value (pos 1)) (truth_value (pos 0)))
    evaluate (Conditional c a b) s = on_test (condition_tested (evaluate c s)) (evaluate a) (evaluate b)
    evaluate (Comma a b) s = afterwards (evaluate a s) (evaluate b)
    -- the object is found before the right side comes
    evaluate (Assign scalar target e) s = on_both (both_operands (designate target s) (evaluate e)) store
    -- the object is found once, and read before the right side comes
    evaluate (Update o type calculated_in target e) s =
        on_both (left_side_read (designate target s))
        (λ p old t. with (evaluate e t) (λ v u. store_if (updated_value o type calculated_in old v) p u))
    evaluate (UpdatePointer direction element target by) s =
        on_both (left_side_read (designate target s))
        (λ p old t. with (evaluate by t) (λ v u. store_if (moved_by_elements u.memory direction element old v) p u))
    evaluate (Step direction which type calculated_in target) s =
        on_both (left_side_read (designate target s))
        (λ p old t. replace_if (updated_value (operator_of direction) type calculated_in old one) which p old t)
    evaluate (StepPointer direction which element target) s =
        on_both (left_side_read (designate target s))
        (λ p old t. replace_if (moved_by_elements t.memory direction element old one) which p old t)
    evaluate (Call callee all) s = on_list (evaluate_all all s) (call calls callee)

    -- a pointer to the object that an lvalue designates (6.3.2.1p1, 6.5.2.1p2, 6.5.3.2p4)
    pub designate : LvalueTree → State → Evaluated
    designate (Named object of) s = value_or_undefined (pointer_to_named depth object s.memory) s
    designate (Target of p) s = with (evaluate p s) usable
    designate (Element of p i) s =
        on_both (both_operands (evaluate p s) (evaluate i))
        (λ v w t. value_or_undefined (moved_by_elements t.memory Up of v w) t)
    designate (ElementFrom of i p) s =
        on_both (both_operands (evaluate i s) (evaluate p))
        (λ w v t. value_or_undefined (moved_by_elements t.memory Up of v w) t)

    -- arguments, from left to right
    pub evaluate_all : ArgumentTrees → State → Listed
    evaluate_all none s = Lists [] s
    evaluate_all (first e rest) s = argument_listed (evaluate e s) (λ v t. fronted v (evaluate_all rest t))
