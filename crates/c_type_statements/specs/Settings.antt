-- What a statement stands in, and the rules that its expressions may break.
use Rattle.std.specs.Prelude.{Bool, true, false, Option, Some, None, if◌then◌else◌}
use Rattle.c_tree.specs.declared.extent.Extent.{Extent}
use Rattle.debug_records.specs.declared.code.Code.{Code}
use Rattle.debug_records.specs.declared.code.TheConstants.Code.{OPERAND_TYPES, RETURN_MISMATCH}
use Rattle.c_tree.specs.declared.object_type.ValueType.{ValueType}
use Rattle.c_tree.specs.declared.object_type.ValueType.TheVariants.{Void}
use Rattle.c_tree.specs.Ends.{first_spot}
use Rattle.c_tree.specs.Expressions.{ExpressionTree}
use Rattle.c_tree.specs.TypedExpressions.{RvalueTree}
use Rattle.c_tree.specs.Statements.{StartTree}
use Rattle.c_tree.specs.Statements as tree
use Rattle.c_tree.specs.TypedStatements.{TypedStartTree, StepTree}
use Rattle.c_tree.specs.TypedStatements as typed-tree
use Rattle.c_type_values.specs.Values.{ValueTree, converted_value}
use Rattle.c_type_values.specs.Operations.{is_scalar}
use Rattle.c_type_expressions.specs.Expressions.{is_zero}
use Rattle.c_type_declarations.specs.Progress.{ProgressTree, Met, means, next_met, value_met, breaks}
use Rattle.c_type_declarations.specs.Initials.{computed_tree}
use Rattle.c_type_declarations.specs.Declarations.{declaration_met}
use Rattle.c_type_statements.specs.declared.setting.Setting.{Setting}

-- within the body of a loop
abbrev pub in_loop : Setting → Setting
in_loop g = record g { may_break = true; may_continue = true }

-- within the block of a `switch`
abbrev pub in_switch : Setting → Setting
in_switch g = record g { may_break = true }

-- a rule, which holds where the flag says so
abbrev pub rule_unless : Bool → Code → Extent → ProgressTree → ProgressTree
rule_unless fine code extent p = if fine then p else breaks code extent p

-- the value of an expression that is a statement or a part of a `for`
abbrev pub run_met : ExpressionTree → ProgressTree → Met RvalueTree
run_met e p = next_met (value_met e p) (λ v. means (computed_tree v))

-- a condition: its value has to be a scalar's (E22, of the whole statement)
abbrev pub checked_condition : Extent → Option ValueTree → ProgressTree → Met RvalueTree
checked_condition extent (Some v) p = means v.tree (rule_unless (is_scalar v.of) OPERAND_TYPES extent p)
checked_condition extent None p = means (computed_tree None) p

-- a controlling expression, and a fault where it has no scalar value
abbrev pub condition_met : Extent → ExpressionTree → ProgressTree → Met RvalueTree
condition_met extent e p = next_met (value_met e p) (checked_condition extent)

-- the condition of a `for`, if it has one
abbrev pub condition_if_any : Extent → Option ExpressionTree → ProgressTree → Met (Option RvalueTree)
condition_if_any extent (Some e) p = next_met (condition_met extent e p) (λ r. means (Some r))
condition_if_any extent None p = means None p

-- the first part of a `for`
abbrev pub start_met : StartTree → ProgressTree → Met TypedStartTree
start_met tree.Nothing p = means typed-tree.Nothing p
start_met (tree.Value e) p = next_met (run_met e p) (λ r. means (typed-tree.Value (first_spot e) r))
start_met (tree.Declares d) p = next_met (declaration_met d p) (λ all. means (typed-tree.Declares all))

-- the third part of a `for`, if it has one
abbrev pub step_met : Option ExpressionTree → ProgressTree → Met (Option StepTree)
step_met (Some e) p = next_met (run_met e p) (λ r. means (Some (record { spot = first_spot e; value = r })))
step_met None p = means None p

-- what a function gives that returns a value as if assigned to its result (E25)
abbrev pub returnable : ValueType → ValueTree → Bool → Option ValueTree
returnable Void v zero = None
returnable of v zero = converted_value v of zero

-- the value that a return statement gives, and a fault where there is none that the function can return
abbrev pub returned_value : Option ValueTree → Extent → ProgressTree → Met (Option RvalueTree)
returned_value (Some v) extent p = means (Some v.tree) p
returned_value None extent p = means None (breaks RETURN_MISMATCH extent p)

-- a value that is at fault breaks no other rule, but that a function without a result returns none
abbrev pub is_void : ValueType → Bool
is_void Void = true
is_void _ = false

-- a return statement of a function with this result (C11 6.8.6.4)
abbrev pub returns : ValueType → Extent → Bool → Option ValueTree → ProgressTree → Met (Option RvalueTree)
returns of extent zero (Some v) p = returned_value (returnable of v zero) extent p
returns of extent zero None p = means None (if is_void of then breaks RETURN_MISMATCH extent p else p)

-- what a `return` gives: a value where its function has a result, else none (E25)
abbrev pub return_met : ValueType → Extent → Option ExpressionTree → ProgressTree → Met (Option RvalueTree)
return_met of extent (Some e) p = next_met (value_met e p) (returns of extent (is_zero e))
return_met of extent None p = means None (rule_unless (is_void of) RETURN_MISMATCH extent p)
