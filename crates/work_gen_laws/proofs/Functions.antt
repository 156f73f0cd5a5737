-- What the one function of a generated program means.
use Rattle.std.proofs.Common.{◌≡◌, ℕ, pos, List, [], ◌∷◌, false, Some, refl, ap, ◌∙◌}
use Rattle.std.specs.Prelude.{codes}
use Rattle.debug_records.specs.declared.source.Spot.{Spot}
use Rattle.c_token.specs.Lexemes.{Lexeme}
use Rattle.c_tree.specs.declared.declaration.Header.TheVariants.{Stdio}
use Rattle.c_tree.specs.declared.types.IntegerType.TheVariants.{Int, UnsignedInt}
use Rattle.c_tree.specs.declared.object_type.Scalar.{Scalar}
use Rattle.c_tree.specs.declared.object_type.Object.TheVariants.{Automatic}
use Rattle.c_tree.specs.declared.object_type.ObjectType.TheVariants as object
use Rattle.c_tree.specs.declared.object_type.ValueType.TheVariants.{Integer}
use Rattle.c_tree.specs.declared.typed_expression.Callee.TheVariants as callee
use Rattle.c_tree.specs.TypedExpressions.{RvalueTree, Constant}
use Rattle.c_tree.specs.TypedStatements.{DeclaredTree, TypedStatementTree, TypedStatementTrees, Declaration, none, first}
use Rattle.c_tree.specs.TypedStatements as typed
use Rattle.c_tree.specs.Statements.{StatementTree, StatementTrees, BlockTree, Declare, chain_of_statements}
use Rattle.c_tree.specs.Statements as tree
use Rattle.c_tree.specs.Trees.{FunctionTree, ItemTree, Include, Defines}
use Rattle.c_tree.specs.Programs.{AutomaticTree, TypedFunctionTree}
use Rattle.c_type_values.specs.Values.{to_integer}
use Rattle.c_type_bounds.specs.Counts.{capped}
use Rattle.c_type_bounds.specs.Weights.{definition_weight}
use Rattle.c_type_expressions.specs.declared.names.Meaning.TheVariants.{Variable}
use Rattle.c_type_expressions.specs.Names.{SignatureTree, meaning_of}
use Rattle.c_type_expressions.specs.Findings.{FoundTree}
use Rattle.c_type_declarations.specs.Progress.{ProgressTree, Met, means, next_met, value_met, opened, scope_left}
use Rattle.c_type_statements.specs.declared.setting.Setting.{Setting}
use Rattle.c_type_statements.specs.Switches.{without_label, bare}
use Rattle.c_type_statements.specs.Statements.{statement_met, statements_met}
use Rattle.c_type.specs.Headers.{included, with_function}
use Rattle.c_type.specs.Functions.{function_made}
use Rattle.c_type.specs.Items.{beginning, items_met, source_met}
use Rattle.work_gen_laws.specs.Drawn.{Letter, A, B, C, D, byte, Drawn}
use Rattle.work_gen_laws.specs.Trees.{spot, variables_tree, counter_tree, loop_tree, step_tree, output_tree, return_tree, main_tree, lines_before}
use Rattle.work_gen_laws.proofs.Typing.{int_scalar, unsigned_scalar, number, Declared, typed_before, first_met}
use Rattle.work_gen_laws.proofs.Blocks.{typed_step, typed_loop, typed_output, typed_return, HasOutput, loop_met, output_met, return_met}

-- `main`, as its name is known, and where its statements stand
abbrev pub main_signature : SignatureTree
main_signature = record { result = Integer Int; parameters = []; callee = Some (callee.Function 0) }

abbrev pub in_main : Setting
in_main = record { result = Integer Int; may_break = false; may_continue = false }

-- the beginning of its block, behind the include that stands at a spot
abbrev pub start_of : Spot → ProgressTree
start_of include = opened (with_function (codes "main") main_signature (included include Stdio beginning))

-- how far a check comes
come : {A : Type 0} → Met A → ProgressTree
come (means a p) = p

-- the tokens of the lines of a program, but for its statements
pub record Tokens : Type 0 where
  pub include : Spot
  pub main : List Lexeme
  pub variables : List Lexeme
  pub counter : List Lexeme
  pub loop : List Lexeme
  pub step : List Lexeme
  pub loop_end : List Lexeme
  pub output : List Lexeme
  pub return : List Lexeme
  pub main_end : List Lexeme

-- behind the first declaration, and behind both
pub after_variables : Spot → List Lexeme → ProgressTree
after_variables include ts = come (statement_met in_main (Declare (variables_tree ts)) (start_of include))

pub after_counter : Spot → (ts us : List Lexeme) → ProgressTree
after_counter include ts us = come (statement_met in_main (Declare (counter_tree us)) (after_variables include ts))

-- a variable that is declared with a value
abbrev pub with_value : ℕ → Spot → RvalueTree → DeclaredTree
with_value k s v = record { variable = k; spot = s; initial = typed.Scalar v }

abbrev pub typed_variables : List Lexeme → TypedStatementTree
typed_variables ts =
    Declaration (with_value 0 (spot ts 1) (Constant (pos 1) UnsignedInt) ∷ with_value 1 (spot ts 5) (Constant (pos 2) UnsignedInt) ∷ with_value 2 (spot ts 9) (Constant (pos 3) UnsignedInt) ∷ with_value 3 (spot ts 13) (Constant (pos 4) UnsignedInt) ∷ [])

abbrev pub typed_counter : List Lexeme → TypedStatementTree
typed_counter ts = Declaration (with_value 4 (spot ts 1) (Constant (pos 0) Int) ∷ [])

-- the five variables
abbrev pub variable : ℕ → Spot → Scalar → AutomaticTree
variable b s of = record { name = b ∷ []; spot = s; of = object.Scalar of; in_memory = false }

abbrev pub five : (ts us : List Lexeme) → List AutomaticTree
five ts us =
    variable 97 (spot ts 1) unsigned_scalar ∷ variable 98 (spot ts 5) unsigned_scalar ∷ variable 99 (spot ts 9) unsigned_scalar ∷ variable 100 (spot ts 13) unsigned_scalar ∷ variable 105 (spot us 1) int_scalar ∷ []

variables_met : (include : Spot) (ts : List Lexeme) → statement_met in_main (Declare (variables_tree ts)) (start_of include) ≡ means (typed_variables ts) (after_variables include ts)
unfolding without_label bare next_met value_met to_integer come after_variables
variables_met include ts = refl

counter_met : (include : Spot) (ts us : List Lexeme) → statement_met in_main (Declare (counter_tree us)) (after_variables include ts) ≡ means (typed_counter us) (after_counter include ts us)
unfolding without_label bare next_met value_met to_integer come after_variables after_counter
counter_met include ts us = refl

declared : (include : Spot) (ts us : List Lexeme) → Declared (after_counter include ts us).names
unfolding without_label bare next_met value_met to_integer come after_variables after_counter
declared include ts us = record { letters = letters; counter = refl }
  where
    letters : (l : Letter) → meaning_of (after_counter include ts us).names (byte l ∷ []) ≡ Some (Variable (Automatic (number l)) (object.Scalar unsigned_scalar))
    letters A = refl
    letters B = refl
    letters C = refl
    letters D = refl

has_output : (include : Spot) (ts us : List Lexeme) → HasOutput (after_counter include ts us).names
unfolding without_label bare next_met value_met to_integer come after_variables after_counter
has_output include ts us = record { name = refl; function = refl }

pub found_nothing : (include : Spot) (ts us : List Lexeme) → ◌≡◌ {A = FoundTree} (after_counter include ts us).found (record { faults = []; undefined = []; literals = [] })
unfolding without_label bare next_met value_met to_integer come after_variables after_counter
found_nothing include ts us = refl

pub five_declared : (include : Spot) (ts us : List Lexeme) → (after_counter include ts us).automatics ≡ five ts us
unfolding without_label bare next_met value_met to_integer come after_variables after_counter
five_declared include ts us = refl

pub no_statics : (include : Spot) (ts us : List Lexeme) → (after_counter include ts us).statics ≡ []
unfolding without_label bare next_met value_met to_integer come after_variables after_counter
no_statics include ts us = refl

pub no_array_literals : (include : Spot) (ts us : List Lexeme) → (after_counter include ts us).array_literals ≡ []
unfolding without_label bare next_met value_met to_integer come after_variables after_counter
no_array_literals include ts us = refl

module _ (text : List ℕ) (t : Tokens) (ds : List Drawn) where
  -- the block of `main`, and what it means
  abbrev pub loop_body : StatementTrees
  loop_body = lines_before text 86 ds (tree.first (step_tree t.step) tree.none)

  abbrev pub block_trees : List StatementTree
  block_trees = Declare (variables_tree t.variables) ∷ Declare (counter_tree t.counter) ∷ loop_tree t.loop loop_body t.loop_end ∷ output_tree t.output ∷ return_tree t.return ∷ []

  abbrev pub typed_block : TypedStatementTrees
  typed_block =
      first (typed_variables t.variables) (first (typed_counter t.counter) (first (typed_loop t.loop (typed_before text 86 ds (first (typed_step t.step) none)))
      (first (typed_output t.output) (first (typed_return t.return) none))))

  abbrev pub main_function : FunctionTree
  main_function = main_tree t.main block_trees t.main_end

  abbrev pub main_block : BlockTree
  main_block = record { opening = spot t.main 5; statements = block_trees; closing = spot t.main_end 0 }

  abbrev pub items_tree : List ItemTree
  items_tree = Include t.include Stdio ∷ Defines main_function ∷ []

  abbrev pub typed_main : TypedFunctionTree
  typed_main =
      record { name = codes "main"; spot = spot t.main 1; result = Integer Int; first_variable = 0; parameters = 0; variables = 5; body = typed_block; close = spot t.main_end 0; weight = capped (definition_weight [] main_block) }

  block_met : statements_met in_main (chain_of_statements block_trees) (start_of t.include) ≡ means typed_block (after_counter t.include t.variables t.counter)
  block_met =
      let p = after_counter t.include t.variables t.counter in
      let return = first_met in_main (return_tree t.return) tree.none p p p (typed_return t.return) none (return_met false false t.return p) refl in
      let output = first_met in_main (output_tree t.output) (tree.first (return_tree t.return) tree.none) p p p (typed_output t.output) (first (typed_return t.return) none)
      (output_met in_main t.output p (declared t.include t.variables t.counter) (has_output t.include t.variables t.counter)) return in
      let loop = first_met in_main (loop_tree t.loop loop_body t.loop_end) (tree.first (output_tree t.output) (tree.first (return_tree t.return) tree.none)) p p p
      (typed_loop t.loop (typed_before text 86 ds (first (typed_step t.step) none))) (first (typed_output t.output) (first (typed_return t.return) none))
      (loop_met in_main text ds 86 t.loop t.loop_end t.step p (declared t.include t.variables t.counter)) output in
      let counter = first_met in_main (Declare (counter_tree t.counter)) (tree.first (loop_tree t.loop loop_body t.loop_end) (tree.first (output_tree t.output) (tree.first (return_tree t.return) tree.none)))
      (after_variables t.include t.variables) p p (typed_counter t.counter) (first (typed_loop t.loop (typed_before text 86 ds (first (typed_step t.step) none))) (first (typed_output t.output) (first (typed_return t.return) none)))
      (counter_met t.include t.variables t.counter) loop in
      first_met in_main (Declare (variables_tree t.variables)) (chain_of_statements (Declare (counter_tree t.counter) ∷ loop_tree t.loop loop_body t.loop_end ∷ output_tree t.output ∷ return_tree t.return ∷ []))
      (start_of t.include) (after_variables t.include t.variables) p (typed_variables t.variables)
      (first (typed_counter t.counter) (first (typed_loop t.loop (typed_before text 86 ds (first (typed_step t.step) none))) (first (typed_output t.output) (first (typed_return t.return) none))))
      (variables_met t.include t.variables) counter

  -- what is made of a block that was met
  made : Met TypedStatementTrees → Met (List TypedFunctionTree)
  made m = next_met (next_met (next_met m (function_made main_function main_signature main_block 0)) (λ more. means more)) (λ gs. items_met (codes "main" ∷ []) gs [])

  made_of : source_met items_tree ≡ made (statements_met in_main (chain_of_statements block_trees) (start_of t.include))
  unfolding next_met made
  made_of = refl

  made_is : made (means typed_block (after_counter t.include t.variables t.counter)) ≡ means (typed_main ∷ []) (scope_left (after_counter t.include t.variables t.counter))
  unfolding next_met made
  made_is = rw (five_declared t.include t.variables t.counter) refl

  pub source_is : source_met items_tree ≡ means (typed_main ∷ []) (scope_left (after_counter t.include t.variables t.counter))
  source_is = made_of ∙ ap made block_met ∙ made_is
