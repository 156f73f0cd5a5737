-- What the loop and the statements behind it mean.
use Rattle.std.proofs.Common.{◌≡◌, ℕ, pos, List, [], ◌∷◌, slice_get, Bool, Some, refl, ap, ◌∙◌}
use Rattle.std.specs.Prelude.{codes}
use Rattle.c_token.specs.Lexemes.{Lexeme}
use Rattle.c_tree.specs.declared.types.IntegerType.TheVariants.{Int, UnsignedInt}
use Rattle.c_tree.specs.declared.object_type.Object.TheVariants.{Automatic}
use Rattle.c_tree.specs.declared.object_type.ObjectType.TheVariants as object
use Rattle.c_tree.specs.declared.object_type.ValueType.TheVariants.{Integer}
use Rattle.c_tree.specs.declared.typed_expression.Arithmetic.TheVariants as arithmetic
use Rattle.c_tree.specs.declared.typed_expression.Comparison.TheVariants as comparison
use Rattle.c_tree.specs.declared.typed_expression.Callee.TheVariants as callee
use Rattle.c_tree.specs.TypedExpressions.{RvalueTree, LvalueTree, Constant, Convert, Load, Named, Arithmetic, Compare, Assign, Call}
use Rattle.c_tree.specs.TypedExpressions as expression
use Rattle.c_tree.specs.TypedStatements.{TypedStatementTree, TypedStatementTrees, Block, Run, While, Return, none, first}
use Rattle.c_tree.specs.Statements.{StatementTree, StatementTrees}
use Rattle.c_tree.specs.Statements as tree
use Rattle.c_type_values.specs.Values.{to_integer}
use Rattle.c_type_values.specs.Operations.{arithmetic_value}
use Rattle.c_type_expressions.specs.declared.names.Meaning.TheVariants.{Function}
use Rattle.c_type_expressions.specs.Names.{Names, meaning_of}
use Rattle.c_type_declarations.specs.Progress.{ProgressTree, means, next_met, value_met, opened, scope_left}
use Rattle.c_type_statements.specs.declared.setting.Setting.{Setting}
use Rattle.c_type_statements.specs.Settings.{in_loop}
use Rattle.c_type_statements.specs.Switches.{without_label, bare}
use Rattle.c_type_statements.specs.Statements.{statement_met, statements_met}
use Rattle.c_type.specs.Headers.{library}
use Rattle.work_gen_laws.specs.Drawn.{A, B, C, D, byte, Drawn}
use Rattle.work_gen_laws.specs.Trees.{spot, loop_tree, step_tree, output_tree, return_tree, lines_before}
use Rattle.work_gen_laws.proofs.Typing.{int_scalar, held, Declared, typed_before, lines_met}
use Rattle.work_gen_laws.proofs.Scoping.{meaning_entered, closed_opened}

abbrev pub counter : LvalueTree
counter = Named (Automatic 4) (object.Scalar int_scalar)

abbrev pub typed_step : List Lexeme → TypedStatementTree
typed_step ts = Run (spot ts 0) (Assign int_scalar counter (Arithmetic arithmetic.Add Int (Load int_scalar counter) (Constant (pos 1) Int)))

abbrev pub typed_loop : List Lexeme → TypedStatementTrees → TypedStatementTree
typed_loop ts body = While (spot ts 2) (Compare comparison.Less Int (Load int_scalar counter) (Constant (pos 2) Int)) (Block body)

-- the sum of the variables
abbrev pub total : RvalueTree
total = Arithmetic arithmetic.Add UnsignedInt (Arithmetic arithmetic.Add UnsignedInt (Arithmetic arithmetic.Add UnsignedInt (held A) (held B)) (held C)) (held D)

abbrev pub typed_output : List Lexeme → TypedStatementTree
typed_output ts =
    Run (spot ts 0) (Call callee.Putchar (expression.first (Arithmetic arithmetic.Add Int (Constant (pos 65) Int) (Convert Int (Arithmetic arithmetic.Remainder UnsignedInt total (Constant (pos 26) UnsignedInt)))) expression.none))

abbrev pub typed_return : List Lexeme → TypedStatementTree
typed_return ts = Return (spot ts 0) (Some (Constant (pos 0) Int))

pub entered_declared : (p : ProgressTree) → Declared p.names → Declared (opened p).names
entered_declared p h = record { letters = λ l. meaning_entered p.names (byte l ∷ []) ∙ h.letters l; counter = meaning_entered p.names (105 ∷ []) ∙ h.counter }

step_met : (g : Setting) (ts : List Lexeme) (p : ProgressTree) → Declared p.names → statements_met g (tree.first (step_tree ts) tree.none) p ≡ means (first (typed_step ts) none) p
unfolding without_label bare next_met value_met to_integer arithmetic_value
step_met g ts p h = let counter = h.counter in rw counter refl

loop_of : (g : Setting) (ts ends : List Lexeme) (body : StatementTrees) (typed : TypedStatementTrees) (p : ProgressTree) → Declared p.names
    → statements_met (in_loop g) body (opened p) ≡ means typed (opened p) → statement_met g (loop_tree ts body ends) p ≡ means (typed_loop ts typed) (scope_left (opened p))
unfolding without_label bare next_met value_met to_integer arithmetic_value
loop_of g ts ends body typed p h inner = let counter = h.counter in rw (counter, inner) refl

pub loop_met : (g : Setting) (text : List ℕ) (ds : List Drawn) (at : ℕ) (ts ends steps : List Lexeme) (p : ProgressTree) → Declared p.names
    → statement_met g (loop_tree ts (lines_before text at ds (tree.first (step_tree steps) tree.none)) ends) p ≡ means (typed_loop ts (typed_before text at ds (first (typed_step steps) none))) p
loop_met g text ds at ts ends steps p h =
    let inside = entered_declared p h in
    let last = step_met (in_loop g) steps (opened p) inside in
    let all = lines_met (in_loop g) text ds at (tree.first (step_tree steps) tree.none) (first (typed_step steps) none) (opened p) (opened p) inside last in
    loop_of g ts ends (lines_before text at ds (tree.first (step_tree steps) tree.none)) (typed_before text at ds (first (typed_step steps) none)) p h all
    ∙ ap (λ (q : ProgressTree). means (typed_loop ts (typed_before text at ds (first (typed_step steps) none))) q) (closed_opened p)

-- a name means `putchar`
pub record HasOutput (names : Names) : Type 0 where
  pub name : meaning_of names (codes "putchar") ≡ Some (Function 1)
  pub function : slice_get names.signatures 1 ≡ Some (library callee.Putchar)

pub output_met : (g : Setting) (ts : List Lexeme) (p : ProgressTree) → Declared p.names → HasOutput p.names → statement_met g (output_tree ts) p ≡ means (typed_output ts) p
unfolding without_label bare next_met value_met to_integer arithmetic_value
output_met g ts p h o =
    let name = o.name in
    let function = o.function in
    let a = h.letters A in
    let b = h.letters B in
    let c = h.letters C in
    let d = h.letters D in
    rw (name, function, a, b, c, d) refl

pub return_met : (may_break may_continue : Bool) (ts : List Lexeme) (p : ProgressTree)
    → statement_met (record { result = Integer Int; may_break = may_break; may_continue = may_continue }) (return_tree ts) p ≡ means (typed_return ts) p
unfolding without_label bare next_met value_met to_integer
return_met may_break may_continue ts p = refl
