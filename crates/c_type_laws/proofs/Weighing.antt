-- A tree weighs as much as it has nodes, or more.
use Rattle.std.proofs.Common.{◌≤◌, Bool, true, false, Option, Some, None, List, [], ◌∷◌, arith}
use Rattle.c_tree.specs.TypedExpressions.{RvalueTree, LvalueTree, ArgumentTrees, Constant, Null, Load, Decay, AddressOf, Convert, Discard, Signed, Not, Arithmetic, Compare, ComparePointers, Move, MoveFrom, Difference, And, Or, Conditional, Comma, Assign, Update, UpdatePointer, Step, StepPointer, Call, Named, Target, Element, ElementFrom, none, first}
use Rattle.c_tree.specs.TypedStatements as statement
use Rattle.c_tree.specs.TypedStatements.{InitialTree, Zero, Scalar, Elements, Literal, DeclaredTree, TypedStartTree, Nothing, Value, Declares, StepTree, TypedStatementTree, Block, Declaration, Empty, Run, If, IfElse, While, DoWhile, For, Switch, Break, Continue, Return, TypedStatementTrees, case, default}
use Rattle.c_type_laws.specs.Nodes.{nodes, place_nodes, argument_nodes, element_nodes, initial_nodes, declared_nodes, start_nodes, option_nodes, step_nodes, statement_nodes, statements_nodes}
use Rattle.c_type_laws.specs.Weighing.{weighed, weighed_place, weighed_all, weighed_elements, weighed_initial, weighed_declared, weighed_start, weighed_option, weighed_step, weighed_statement, weighed_statements}

mutual
  pub nodes_weighed : (q : Bool) (e : RvalueTree) → nodes e ≤ weighed q e
  nodes_weighed q (Constant z t) = omega arith
  nodes_weighed q Null = omega arith
  nodes_weighed q (Load s l) = place_weighed l
  nodes_weighed q (Decay l) = place_weighed l
  nodes_weighed q (AddressOf l) = let h = place_weighed l in omega (arith, h)
  nodes_weighed q (Convert t e) = let h = nodes_weighed false e in omega (arith, h)
  nodes_weighed q (Discard e) = let h = nodes_weighed false e in omega (arith, h)
  nodes_weighed q (Signed o t e) = let h = nodes_weighed false e in omega (arith, h)
  nodes_weighed q (Not e) = let h = nodes_weighed false e in omega (arith, h)
  nodes_weighed q (Arithmetic o t a b) = let h = nodes_weighed false a in let k = nodes_weighed false b in omega (arith, h, k)
  nodes_weighed q (Compare o t a b) = let h = nodes_weighed false a in let k = nodes_weighed false b in omega (arith, h, k)
  nodes_weighed q (ComparePointers o a b) = let h = nodes_weighed false a in let k = nodes_weighed false b in omega (arith, h, k)
  nodes_weighed q (Move d of a b) = let h = nodes_weighed false a in let k = nodes_weighed false b in omega (arith, h, k)
  nodes_weighed q (MoveFrom b of a) = let h = nodes_weighed false b in let k = nodes_weighed false a in omega (arith, h, k)
  nodes_weighed q (Difference of a b) = let h = nodes_weighed false a in let k = nodes_weighed false b in omega (arith, h, k)
  nodes_weighed q (And a b) = let h = nodes_weighed false a in let k = nodes_weighed false b in omega (arith, h, k)
  nodes_weighed q (Or a b) = let h = nodes_weighed false a in let k = nodes_weighed false b in omega (arith, h, k)
  nodes_weighed q (Conditional c a b) = let h = nodes_weighed false c in let k = nodes_weighed false a in let m = nodes_weighed false b in omega (arith, h, k, m)
  nodes_weighed q (Comma a b) = let h = nodes_weighed false a in let k = nodes_weighed false b in omega (arith, h, k)
  nodes_weighed q (Assign s l e) = let h = place_weighed l in let k = nodes_weighed true e in omega (arith, h, k)
  nodes_weighed q (Update o t u l e) = let h = place_weighed l in let k = nodes_weighed false e in omega (arith, h, k)
  nodes_weighed q (UpdatePointer d of l e) = let h = place_weighed l in let k = nodes_weighed false e in omega (arith, h, k)
  nodes_weighed q (Step d g t u l) = let h = place_weighed l in omega (arith, h)
  nodes_weighed q (StepPointer d g of l) = let h = place_weighed l in omega (arith, h)
  nodes_weighed q (Call c all) = let h = arguments_weighed all in omega (arith, h)

  place_weighed : (l : LvalueTree) → place_nodes l ≤ weighed_place l
  place_weighed (Named o of) = omega arith
  place_weighed (Target of p) = let h = nodes_weighed false p in omega (arith, h)
  place_weighed (Element of p i) = let h = nodes_weighed false p in let k = nodes_weighed false i in omega (arith, h, k)
  place_weighed (ElementFrom of i p) = let h = nodes_weighed false i in let k = nodes_weighed false p in omega (arith, h, k)

  arguments_weighed : (all : ArgumentTrees) → argument_nodes all ≤ weighed_all all
  arguments_weighed none = omega arith
  arguments_weighed (first e rest) = let h = nodes_weighed true e in let k = arguments_weighed rest in omega (arith, h, k)

elements_weighed : (all : List RvalueTree) → element_nodes all ≤ weighed_elements all
elements_weighed [] = omega arith
elements_weighed (e ∷ more) = let h = nodes_weighed true e in let k = elements_weighed more in omega (arith, h, k)

initial_weighed : (i : InitialTree) → initial_nodes i ≤ weighed_initial i
initial_weighed Zero = omega arith
initial_weighed (Scalar e) = nodes_weighed true e
initial_weighed (Elements all) = let h = elements_weighed all in omega (arith, h)
initial_weighed (Literal n) = omega arith

declared_weighed : (all : List DeclaredTree) → declared_nodes all ≤ weighed_declared all
declared_weighed [] = omega arith
declared_weighed (d ∷ more) = let h = initial_weighed d.initial in let k = declared_weighed more in omega (arith, h, k)

start_weighed : (s : TypedStartTree) → start_nodes s ≤ weighed_start s
start_weighed Nothing = omega arith
start_weighed (Value spot e) = nodes_weighed false e
start_weighed (Declares all) = declared_weighed all

option_weighed : (q : Bool) (e : Option RvalueTree) → option_nodes e ≤ weighed_option q e
option_weighed q None = omega arith
option_weighed q (Some e) = nodes_weighed q e

step_weighed : (s : Option StepTree) → step_nodes s ≤ weighed_step s
step_weighed None = omega arith
step_weighed (Some s) = nodes_weighed false s.value

mutual
  statement_weighed : (s : TypedStatementTree) → statement_nodes s ≤ weighed_statement s
  statement_weighed (Block all) = let h = statements_weighed all in omega (arith, h)
  statement_weighed (Declaration all) = declared_weighed all
  statement_weighed (Empty spot) = omega arith
  statement_weighed (Run spot e) = let h = nodes_weighed false e in omega (arith, h)
  statement_weighed (If spot e s) = let h = nodes_weighed false e in let k = statement_weighed s in omega (arith, h, k)
  statement_weighed (IfElse spot e s t) = let h = nodes_weighed false e in let k = statement_weighed s in let m = statement_weighed t in omega (arith, h, k, m)
  statement_weighed (While spot e s) = let h = nodes_weighed false e in let k = statement_weighed s in omega (arith, h, k)
  statement_weighed (DoWhile s spot e) = let h = nodes_weighed false e in let k = statement_weighed s in omega (arith, h, k)
  statement_weighed (For start spot e step s) = let h = start_weighed start in let k = option_weighed false e in let m = step_weighed step in let n = statement_weighed s in omega (arith, h, k, m, n)
  statement_weighed (Switch spot e all) = let h = nodes_weighed false e in let k = statements_weighed all in omega (arith, h, k)
  statement_weighed (Break spot) = omega arith
  statement_weighed (Continue spot) = omega arith
  statement_weighed (Return spot e) = let h = option_weighed true e in omega (arith, h)

  -- Statements weigh as much as they have nodes, or more.
  pub statements_weighed : (all : TypedStatementTrees) → statements_nodes all ≤ weighed_statements all
  statements_weighed statement.none = omega arith
  statements_weighed (statement.first s rest) = let h = statement_weighed s in let k = statements_weighed rest in omega (arith, h, k)
  statements_weighed (case z rest) = let h = statements_weighed rest in omega (arith, h)
  statements_weighed (default rest) = let h = statements_weighed rest in omega (arith, h)
