-- What sources weigh: each node of an expression, each statement, block and label, each list in braces, each parameter
-- and each function 1, a declarator and `++` and `--` 2. Parentheses weigh nothing, nor do the name in a call and what
-- is under `sizeof`.
use Rattle.std.specs.Prelude.{ℕ, ◌+◌, List, sum_by, Bool, true, false, Option, Some, None, if◌then◌else◌}
use Rattle.c_tree.specs.declared.operator.BinaryOperator.{BinaryOperator}
use Rattle.c_tree.specs.declared.expression.Expression.{Expression}
use Rattle.c_tree.specs.declared.operator.PrefixOperator.{PrefixOperator}
use Rattle.c_tree.specs.declared.operator.PrefixOperator.TheVariants as prefix
use Rattle.c_tree.specs.Cores.{CoreTree, Named, core_of}
use Rattle.c_tree.specs.Expressions.{ExpressionTree, expression_view, Name, Constant, Literal, Parenthesized, Index, Call, PostIncrement, PostDecrement, Prefix, Cast, SizeofExpression, SizeofType, SizeofArray, Binary, Conditional, Assignment, Comma, ExpressionTrees}
use Rattle.c_tree.specs.Expressions as expression
use Rattle.c_tree.specs.Declarations.{BracketsTree, Absent, Empty, Sized, InitializerTree, Value, Braces, InitializerTrees, DeclaratorTree, DeclarationTree, ParameterTree}
use Rattle.c_tree.specs.Declarations as declaration
use Rattle.c_tree.specs.Statements.{StartTree, StatementTree, StatementTrees, BlockTree, BranchTree, LabelTree, CaseLabel, DefaultLabel, chain_of_statements}
use Rattle.c_tree.specs.Statements as statement
use Rattle.c_tree.specs.Trees.{ItemTree, Include, Declares, Defines}

-- the weight of an operator before its operand
abbrev pub prefix_weight : PrefixOperator → ℕ
prefix_weight prefix.Increment = 2
prefix_weight prefix.Decrement = 2
prefix_weight o = 1

-- an operator with its right operand, as the tree has them
abbrev pub operation_view : BinaryOperator × Expression → BinaryOperator × ExpressionTree
operation_view o = (o.0, expression_view o.1)

-- an expression of one token is a name
abbrev pub is_named : CoreTree → Bool
is_named (Named n) = true
is_named _ = false

-- an expression is a name, perhaps in parentheses
abbrev pub is_name_expression : ExpressionTree → Bool
is_name_expression e = is_named (core_of e)

-- the weight of what is called: a name is no node
abbrev pub called_weight : ExpressionTree → ℕ → ℕ
called_weight e weight = if is_name_expression e then 0 else weight

abbrev mutual
  -- the weight of an expression: one for each of its parts
  pub weight_of : ExpressionTree → ℕ
  weight_of (Name n) = 1
  weight_of (Constant spot value type) = 1
  weight_of (Literal extent bytes) = 1
  weight_of (Parenthesized extent e) = weight_of e
  weight_of (Index e i last) = 1 + weight_of e + weight_of i
  weight_of (Call e all last) = 1 + called_weight e (weight_of e) + weight_of_all all
  weight_of (PostIncrement e last) = 2 + weight_of e
  weight_of (PostDecrement e last) = 2 + weight_of e
  weight_of (Prefix spot o e) = prefix_weight o + weight_of e
  weight_of (Cast spot to e) = 1 + weight_of e
  weight_of (SizeofExpression spot e) = 1
  weight_of (SizeofType extent type stars) = 1
  weight_of (SizeofArray extent type stars e) = 1
  weight_of (Binary o a b) = 1 + weight_of a + weight_of b
  weight_of (Conditional c a b) = 1 + weight_of c + weight_of a + weight_of b
  weight_of (Assignment o a b) = 1 + weight_of a + weight_of b
  weight_of (Comma a b) = 1 + weight_of a + weight_of b

  -- the weight of expressions
  pub weight_of_all : ExpressionTrees → ℕ
  weight_of_all expression.none = 0
  weight_of_all (expression.first e rest) = weight_of e + weight_of_all rest

-- the weight of an expression, if there is one
abbrev pub weight_if_any : Option ExpressionTree → ℕ
weight_if_any (Some e) = weight_of e
weight_if_any None = 0

-- a size in brackets
abbrev pub size_weight : BracketsTree → ℕ
size_weight (Sized e) = weight_of e
size_weight b = 0

abbrev mutual
  -- the weight of an initializer: that of its expression, or one and that of its list
  pub initializer_weight : InitializerTree → ℕ
  initializer_weight (Value e) = weight_of e
  initializer_weight (Braces all) = 1 + initializers_weight all

  -- the weight of initializers
  pub initializers_weight : InitializerTrees → ℕ
  initializers_weight declaration.none = 0
  initializers_weight (declaration.first i rest) = initializer_weight i + initializers_weight rest

-- the weight of an initializer, if there is one
abbrev pub initial_weight : Option InitializerTree → ℕ
initial_weight (Some i) = initializer_weight i
initial_weight None = 0

-- the weight of a variable that is declared: two, that of its size and that of its initializer
abbrev pub declarator_weight : DeclaratorTree → ℕ
declarator_weight d = 2 + size_weight d.brackets + initial_weight d.initializer

-- the weight of variables that are declared
abbrev pub declarators_weight : List DeclaratorTree → ℕ
declarators_weight = sum_by declarator_weight

-- the weight of what a for loop begins with
abbrev pub start_weight : StartTree → ℕ
start_weight statement.Nothing = 0
start_weight (statement.Value e) = weight_of e
start_weight (statement.Declares d) = declarators_weight d.declarators

abbrev mutual
  -- the weight of a statement: one, and that of its parts
  pub statement_weight : StatementTree → ℕ
  statement_weight (statement.Compound opening all closing) = 1 + statements_weight all
  statement_weight (statement.Declare d) = declarators_weight d.declarators
  statement_weight (statement.Empty spot) = 1
  statement_weight (statement.Run e last) = 1 + weight_of e
  statement_weight (statement.If spot c s) = 1 + weight_of c + statement_weight s
  statement_weight (statement.IfElse spot c s t) = 1 + weight_of c + statement_weight s + statement_weight t
  statement_weight (statement.While spot c s) = 1 + weight_of c + statement_weight s
  statement_weight (statement.DoWhile extent s c) = 1 + weight_of c + statement_weight s
  statement_weight (statement.For spot start c step s) =
      1 + start_weight start + weight_if_any c + weight_if_any step + statement_weight s
  statement_weight (statement.Switch spot e opening all closing) = 2 + weight_of e + statements_weight all
  statement_weight (statement.Case extent e s) = 1 + weight_of e + statement_weight s
  statement_weight (statement.Default extent s) = 1 + statement_weight s
  statement_weight (statement.Break extent) = 1
  statement_weight (statement.Continue extent) = 1
  statement_weight (statement.Return extent e) = 1 + weight_if_any e

  -- the weight of statements
  pub statements_weight : StatementTrees → ℕ
  statements_weight statement.none = 0
  statements_weight (statement.first s rest) = statement_weight s + statements_weight rest

-- a condition and what it decides on
abbrev pub branch_weight : BranchTree → ℕ
branch_weight b = 1 + weight_of b.condition + statement_weight b.then

abbrev pub label_weight : LabelTree → ℕ
label_weight (CaseLabel extent e) = 1 + weight_of e
label_weight (DefaultLabel extent) = 1

-- the weight of a parameter: one, and that of its size
abbrev pub parameter_weight : ParameterTree → ℕ
parameter_weight p = 1 + size_weight p.brackets

-- the weight of parameters
abbrev pub parameters_weight : List ParameterTree → ℕ
parameters_weight = sum_by parameter_weight

-- a function's definition: it, its parameters and its block
abbrev pub definition_weight : List ParameterTree → BlockTree → ℕ
definition_weight ps b = 2 + parameters_weight ps + statements_weight (chain_of_statements b.statements)

-- a function that is only declared weighs nothing
abbrev pub function_weight : List ParameterTree → Option BlockTree → ℕ
function_weight ps (Some b) = definition_weight ps b
function_weight ps None = 0

-- the weight of what stands at the outermost level: an include has none
abbrev pub item_weight : ItemTree → ℕ
item_weight (Include spot header) = 0
item_weight (Declares d) = declarators_weight d.declarators
item_weight (Defines f) = function_weight f.parameters f.body

-- the weight of a program
abbrev pub items_weight : List ItemTree → ℕ
items_weight = sum_by item_weight
