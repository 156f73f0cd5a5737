-- How many nodes a typed tree has: one for each construct of the text that it comes from. Implicit conversions are
-- none.
use Rattle.std.specs.Prelude.{ℕ, ◌+◌, Option, Some, None, List, [], ◌∷◌}
use Rattle.c_tree.specs.TypedExpressions.{RvalueTree, LvalueTree, ArgumentTrees, Constant, Null, Load, Decay, AddressOf, Convert, Discard, Signed, Not, Arithmetic, Compare, ComparePointers, Move, MoveFrom, Difference, And, Or, Conditional, Comma, Assign, Update, UpdatePointer, Step, StepPointer, Call, Named, Target, Element, ElementFrom}
use Rattle.c_tree.specs.TypedExpressions as expression
use Rattle.c_tree.specs.TypedStatements as statement
use Rattle.c_tree.specs.TypedStatements.{InitialTree, Zero, Scalar, Elements, Literal, DeclaredTree, TypedStartTree, Nothing, Value, Declares, StepTree, TypedStatementTree, Block, Declaration, Empty, Run, If, IfElse, While, DoWhile, For, Switch, Break, Continue, Return, TypedStatementTrees, case, default}

abbrev mutual
  -- those of an expression
  pub nodes : RvalueTree → ℕ
  nodes (Constant z t) = 1
  nodes Null = 1
  nodes (Load s l) = place_nodes l
  nodes (Decay l) = place_nodes l
  nodes (AddressOf l) = place_nodes l + 1
  nodes (Convert t e) = nodes e
  nodes (Discard e) = nodes e + 1
  nodes (Signed o t e) = nodes e + 1
  nodes (Not e) = nodes e + 1
  nodes (Arithmetic o t a b) = nodes a + nodes b + 1
  nodes (Compare o t a b) = nodes a + nodes b + 1
  nodes (ComparePointers o a b) = nodes a + nodes b + 1
  nodes (Move d of a b) = nodes a + nodes b + 1
  nodes (MoveFrom b of a) = nodes b + nodes a + 1
  nodes (Difference of a b) = nodes a + nodes b + 1
  nodes (And a b) = nodes a + nodes b + 1
  nodes (Or a b) = nodes a + nodes b + 1
  nodes (Conditional c a b) = nodes c + nodes a + nodes b + 1
  nodes (Comma a b) = nodes a + nodes b + 1
  nodes (Assign s l e) = place_nodes l + nodes e + 1
  nodes (Update o t u l e) = place_nodes l + nodes e + 1
  nodes (UpdatePointer d of l e) = place_nodes l + nodes e + 1
  nodes (Step d g t u l) = place_nodes l + 2
  nodes (StepPointer d g of l) = place_nodes l + 2
  nodes (Call c all) = argument_nodes all + 1

  -- those of an lvalue
  pub place_nodes : LvalueTree → ℕ
  place_nodes (Named o of) = 1
  place_nodes (Target of p) = nodes p + 1
  place_nodes (Element of p i) = nodes p + nodes i + 1
  place_nodes (ElementFrom of i p) = nodes i + nodes p + 1

  -- those of arguments
  pub argument_nodes : ArgumentTrees → ℕ
  argument_nodes expression.none = 0
  argument_nodes (expression.first e rest) = nodes e + argument_nodes rest

-- those of elements
abbrev pub element_nodes : List RvalueTree → ℕ
element_nodes [] = 0
element_nodes (e ∷ more) = nodes e + element_nodes more

abbrev pub initial_nodes : InitialTree → ℕ
initial_nodes Zero = 0
initial_nodes (Scalar e) = nodes e
initial_nodes (Elements all) = element_nodes all + 1
initial_nodes (Literal n) = 1

-- those of declarators: two, and those of what is written
abbrev pub declared_nodes : List DeclaredTree → ℕ
declared_nodes [] = 0
declared_nodes (d ∷ more) = initial_nodes d.initial + 2 + declared_nodes more

abbrev pub start_nodes : TypedStartTree → ℕ
start_nodes Nothing = 0
start_nodes (Value spot e) = nodes e
start_nodes (Declares all) = declared_nodes all

abbrev pub option_nodes : Option RvalueTree → ℕ
option_nodes None = 0
option_nodes (Some e) = nodes e

abbrev pub step_nodes : Option StepTree → ℕ
step_nodes None = 0
step_nodes (Some s) = nodes s.value

abbrev mutual
  -- those of a statement
  pub statement_nodes : TypedStatementTree → ℕ
  statement_nodes (Block all) = statements_nodes all + 1
  statement_nodes (Declaration all) = declared_nodes all
  statement_nodes (Empty spot) = 1
  statement_nodes (Run spot e) = nodes e + 1
  statement_nodes (If spot e s) = nodes e + statement_nodes s + 1
  statement_nodes (IfElse spot e s t) = nodes e + (statement_nodes s + statement_nodes t) + 1
  statement_nodes (While spot e s) = nodes e + statement_nodes s + 1
  statement_nodes (DoWhile s spot e) = nodes e + statement_nodes s + 1
  statement_nodes (For start spot e step s) =
      start_nodes start + (option_nodes e + (step_nodes step + statement_nodes s)) + 1
  statement_nodes (Switch spot e all) = nodes e + statements_nodes all + 2
  statement_nodes (Break spot) = 1
  statement_nodes (Continue spot) = 1
  statement_nodes (Return spot e) = option_nodes e + 1

  -- those of statements; a `case` has its constant too
  pub statements_nodes : TypedStatementTrees → ℕ
  statements_nodes statement.none = 0
  statements_nodes (statement.first s rest) = statement_nodes s + statements_nodes rest
  statements_nodes (case z rest) = statements_nodes rest + 2
  statements_nodes (default rest) = statements_nodes rest + 1
