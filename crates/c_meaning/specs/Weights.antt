-- How much there is of a typed tree, which bounds a recursion over it.
use Rattle.std.specs.Prelude.{ℕ, ◌+◌, max, List, [], ◌∷◌, Option, Some, None}
use Rattle.c_tree.specs.TypedExpressions.{RvalueTree, LvalueTree, ArgumentTrees, Constant, Null, Load, Decay, AddressOf, Convert, Discard, Signed, Not, Arithmetic, Compare, ComparePointers, Move, MoveFrom, Difference, And, Or, Conditional, Comma, Assign, Update, UpdatePointer, Step, StepPointer, Call, Named, Target, Element, ElementFrom}
use Rattle.c_tree.specs.TypedExpressions as expression
use Rattle.c_tree.specs.TypedStatements.{InitialTree, Zero, Scalar, Elements, Literal, DeclaredTree, TypedStartTree, Nothing, Value, Declares, StepTree, TypedStatementTree, Block, Declaration, Empty, Run, If, IfElse, While, DoWhile, For, Switch, Break, Continue, Return, TypedStatementTrees, case, default}
use Rattle.c_tree.specs.TypedStatements as statement
use Rattle.c_tree.specs.Programs.{TypedFunctionTree}

abbrev mutual
  pub weight : RvalueTree → ℕ
  weight (Constant z type) = 4
  weight Null = 4
  weight (Load scalar from) = 4 + weight_of_left from
  weight (Decay from) = 4 + weight_of_left from
  weight (AddressOf from) = 4 + weight_of_left from
  weight (Convert type e) = 4 + weight e
  weight (Discard e) = 4 + weight e
  weight (Signed sign type e) = 4 + weight e
  weight (Not e) = 4 + weight e
  weight (Arithmetic o type a b) = 4 + weight a + weight b
  weight (Compare o type a b) = 4 + weight a + weight b
  weight (ComparePointers o a b) = 4 + weight a + weight b
  weight (Move direction element a b) = 4 + weight a + weight b
  weight (MoveFrom a element b) = 4 + weight a + weight b
  weight (Difference element a b) = 4 + weight a + weight b
  weight (And a b) = 4 + weight a + weight b
  weight (Or a b) = 4 + weight a + weight b
  weight (Conditional c a b) = 4 + weight c + weight a + weight b
  weight (Comma a b) = 4 + weight a + weight b
  weight (Assign scalar target e) = 4 + weight_of_left target + weight e
  weight (Update o type calculated_in target e) = 4 + weight_of_left target + weight e
  weight (UpdatePointer direction element target e) = 4 + weight_of_left target + weight e
  weight (Step direction which type calculated_in target) = 4 + weight_of_left target
  weight (StepPointer direction which element target) = 4 + weight_of_left target
  weight (Call callee all) = 4 + weights all

  pub weight_of_left : LvalueTree → ℕ
  weight_of_left (Named object of) = 4
  weight_of_left (Target of p) = 4 + weight p
  weight_of_left (Element of p i) = 4 + weight p + weight i
  weight_of_left (ElementFrom of i p) = 4 + weight i + weight p

  pub weights : ArgumentTrees → ℕ
  weights expression.none = 1
  weights (expression.first e rest) = 1 + weight e + weights rest

abbrev pub weight_of_all : List RvalueTree → ℕ
weight_of_all [] = 1
weight_of_all (e ∷ all) = 4 + weight e + weight_of_all all

abbrev pub weight_of_initial : InitialTree → ℕ
weight_of_initial Zero = 1
weight_of_initial (Scalar e) = 4 + weight e
weight_of_initial (Elements all) = 4 + weight_of_all all
weight_of_initial (Literal n) = 1

abbrev pub weight_of_declared : List DeclaredTree → ℕ
weight_of_declared [] = 1
weight_of_declared (d ∷ all) = 4 + weight_of_initial d.initial + weight_of_declared all

abbrev pub weight_of_start : TypedStartTree → ℕ
weight_of_start Nothing = 1
weight_of_start (Value spot e) = 5 + weight e
weight_of_start (Declares all) = 4 + weight_of_declared all

abbrev pub weight_of_option : Option RvalueTree → ℕ
weight_of_option None = 1
weight_of_option (Some e) = 5 + weight e

abbrev pub weight_of_step : Option StepTree → ℕ
weight_of_step None = 1
weight_of_step (Some p) = 5 + weight p.value

abbrev mutual
  pub weight_of : TypedStatementTree → ℕ
  weight_of (Block all) = 8 + weight_of_statements all
  weight_of (Declaration all) = 8 + weight_of_declared all
  weight_of (Empty spot) = 8
  weight_of (Run spot e) = 8 + weight e
  weight_of (If spot c s) = 8 + weight c + weight_of s
  weight_of (IfElse spot c s t) = 8 + weight c + weight_of s + weight_of t
  weight_of (While spot c s) = 8 + weight c + weight_of s
  weight_of (DoWhile s spot c) = 8 + weight c + weight_of s
  weight_of (For start spot c p s) = 8 + weight_of_start start + weight_of_option c + weight_of_step p + weight_of s
  weight_of (Switch spot e all) = 8 + weight e + weight_of_statements all
  weight_of (Break spot) = 8
  weight_of (Continue spot) = 8
  weight_of (Return spot e) = 8 + weight_of_option e

  pub weight_of_statements : TypedStatementTrees → ℕ
  weight_of_statements statement.none = 1
  weight_of_statements (statement.first s rest) = 4 + weight_of s + weight_of_statements rest
  weight_of_statements (case value rest) = 1 + weight_of_statements rest
  weight_of_statements (default rest) = 1 + weight_of_statements rest

-- more than any body weighs
abbrev pub heaviest : List TypedFunctionTree → ℕ
heaviest [] = 4
heaviest (f ∷ all) = max (weight_of_statements f.body + 4) (heaviest all)
