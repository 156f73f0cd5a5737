-- How deep constructs nest in a tree (ISO/IEC 9899:2011, 5.2.4.1).
use Rattle.std.specs.Prelude.{ℕ, suc, max, Bool, true, false, List, [], ◌∷◌, Option, Some, None}
use Rattle.c_tree.specs.Expressions.{ExpressionTree, ExpressionTrees, none, first, Name, Constant, Literal, Parenthesized, Index, Call, PostIncrement, PostDecrement, Prefix, Cast, SizeofExpression, SizeofType, SizeofArray, Binary, Conditional, Assignment, Comma}
use Rattle.c_tree.specs.Declarations.{BracketsTree, Absent, Empty, Sized, InitializerTree, InitializerTrees, Value, Braces, DeclaratorTree, DeclarationTree, ParameterTree}
use Rattle.c_tree.specs.Declarations as initializer
use Rattle.c_tree.specs.Statements.{StartTree, StatementTree, StatementTrees, BlockTree, Compound, Declare, Run, If, IfElse, While, DoWhile, For, Switch, Case, Default, Break, Continue, Return, chain_of_statements}
use Rattle.c_tree.specs.Statements as statement
use Rattle.c_tree.specs.Trees.{ItemTree, Include, Declares, Defines}

abbrev mutual
  -- how deep constructs nest in an expression: parentheses, an index, arguments, the operand of an operator before it,
  -- of a cast and of `sizeof`, what stands behind `?`, behind `:` and behind an operator that assigns; in `sizeof (
  -- type )` both the parentheses and the type nest, and a size within them
  pub expression_depth : ExpressionTree → ℕ
  expression_depth (Name n) = 0
  expression_depth (Constant spot value type) = 0
  expression_depth (Literal extent bytes) = 0
  expression_depth (Parenthesized extent e) = suc (expression_depth e)
  expression_depth (Index e i last) = max (expression_depth e) (suc (expression_depth i))
  expression_depth (Call e es last) = max (expression_depth e) (arguments_depth es)
  expression_depth (PostIncrement e last) = expression_depth e
  expression_depth (PostDecrement e last) = expression_depth e
  expression_depth (Prefix spot o e) = suc (expression_depth e)
  expression_depth (Cast spot type e) = suc (expression_depth e)
  expression_depth (SizeofExpression spot e) = suc (expression_depth e)
  expression_depth (SizeofType extent type count) = suc (suc 0)
  expression_depth (SizeofArray extent type count e) = suc (suc (suc (expression_depth e)))
  expression_depth (Binary o left_side right_side) = max (expression_depth left_side) (expression_depth right_side)
  expression_depth (Conditional c a b) =
      max (expression_depth c) (max (suc (expression_depth a)) (suc (expression_depth b)))
  expression_depth (Assignment o target value) = max (expression_depth target) (suc (expression_depth value))
  expression_depth (Comma left_side right_side) = max (expression_depth left_side) (expression_depth right_side)

  -- each of several expressions, within brackets
  pub arguments_depth : ExpressionTrees → ℕ
  arguments_depth none = 0
  arguments_depth (first e es) = max (suc (expression_depth e)) (arguments_depth es)

-- a size in brackets, within them
abbrev pub brackets_depth : BracketsTree → ℕ
brackets_depth Absent = 0
brackets_depth Empty = 0
brackets_depth (Sized e) = suc (expression_depth e)

-- an expression, if there is one
abbrev pub optional_depth : Option ExpressionTree → ℕ
optional_depth None = 0
optional_depth (Some e) = expression_depth e

abbrev mutual
  -- an initializer; what stands within braces nests
  pub initializer_depth : InitializerTree → ℕ
  initializer_depth (Value e) = expression_depth e
  initializer_depth (Braces all) = suc (initializers_depth all)

  -- each of several initializers
  pub initializers_depth : InitializerTrees → ℕ
  initializers_depth initializer.none = 0
  initializers_depth (initializer.first i all) = max (initializer_depth i) (initializers_depth all)

-- an initializer, if there is one
abbrev pub initial_depth : Option InitializerTree → ℕ
initial_depth None = 0
initial_depth (Some i) = initializer_depth i

-- the declarator of an object
abbrev pub declarator_depth : DeclaratorTree → ℕ
declarator_depth d = max (brackets_depth d.brackets) (initial_depth d.initializer)

-- each of several declarators
abbrev pub declarators_depth : List DeclaratorTree → ℕ
declarators_depth [] = 0
declarators_depth (d ∷ all) = max (declarator_depth d) (declarators_depth all)

-- a declaration of objects
abbrev pub declaration_depth : DeclarationTree → ℕ
declaration_depth d = declarators_depth d.declarators

-- the first part of a `for`
abbrev pub start_depth : StartTree → ℕ
start_depth statement.Nothing = 0
start_depth (statement.Value e) = expression_depth e
start_depth (statement.Declares d) = declaration_depth d

-- an `if`, with or without an `else`
abbrev pub is_if : StatementTree → Bool
is_if (If spot c s) = true
is_if (IfElse spot c s r) = true
is_if s = false

-- what stands behind `else` nests, but for an `if`
abbrev pub else_depth : (is_an_if : Bool) → ℕ → ℕ
else_depth true depth = depth
else_depth false depth = suc depth

abbrev mutual
  -- how deep constructs nest in a statement: statements within others, conditions, the parentheses of a `for`; the
  -- block of a `switch` is a statement within it; labels do not nest, nor does an `if` behind `else`
  pub statement_depth : StatementTree → ℕ
  statement_depth (Compound opening all closing) = statements_depth all
  statement_depth (Declare d) = declaration_depth d
  statement_depth (statement.Empty spot) = 0
  statement_depth (Run e last) = expression_depth e
  statement_depth (If spot c s) = max (suc (expression_depth c)) (suc (statement_depth s))
  statement_depth (IfElse spot c s r) =
      max (suc (expression_depth c)) (max (suc (statement_depth s)) (else_depth (is_if r) (statement_depth r)))
  statement_depth (While spot c s) = max (suc (expression_depth c)) (suc (statement_depth s))
  statement_depth (DoWhile extent s c) = max (suc (statement_depth s)) (suc (expression_depth c))
  statement_depth (For spot start c step s) =
      max (suc (max (start_depth start) (max (optional_depth c) (optional_depth step)))) (suc (statement_depth s))
  statement_depth (Switch spot e opening all closing) = max (suc (expression_depth e)) (suc (statements_depth all))
  statement_depth (Case extent e s) = max (expression_depth e) (statement_depth s)
  statement_depth (Default extent s) = statement_depth s
  statement_depth (Break extent) = 0
  statement_depth (Continue extent) = 0
  statement_depth (Return extent e) = optional_depth e

  -- each of the statements in braces, within these
  pub statements_depth : StatementTrees → ℕ
  statements_depth statement.none = 0
  statements_depth (statement.first s all) = max (suc (statement_depth s)) (statements_depth all)

-- each of several parameters
abbrev pub parameters_depth : List ParameterTree → ℕ
parameters_depth [] = 0
parameters_depth (p ∷ all) = max (brackets_depth p.brackets) (parameters_depth all)

-- the body of a function, if it has one
abbrev pub body_depth : Option BlockTree → ℕ
body_depth None = 0
body_depth (Some b) = statements_depth (chain_of_statements b.statements)

-- what stands at file scope; the parameters of a function nest
abbrev pub item_depth : ItemTree → ℕ
item_depth (Include spot header) = 0
item_depth (Declares d) = declaration_depth d
item_depth (Defines f) = max (suc (parameters_depth f.parameters)) (body_depth f.body)

-- each item of a file
abbrev pub file_depth : List ItemTree → ℕ
file_depth [] = 0
file_depth (i ∷ all) = max (item_depth i) (file_depth all)
