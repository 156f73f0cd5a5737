-- What expressions and statements weigh at least: as much as they have nodes, and one for each conversion to a narrow
-- type that was written.
use Rattle.std.specs.Prelude.{ℕ, ◌+◌, ◌≤◌, ◌==◌, not, Bool, true, false, Option, Some, None, List, [], ◌∷◌, if◌then◌else◌}
use Rattle.c_tree.specs.TypedExpressions.{RvalueTree, LvalueTree, ArgumentTrees, Constant, Null, Load, Decay, AddressOf, Convert, Discard, Signed, Not, Arithmetic, Compare, ComparePointers, Move, MoveFrom, Difference, And, Or, Conditional, Comma, Assign, Update, UpdatePointer, Step, StepPointer, Call, Named, Target, Element, ElementFrom, none, first}
use Rattle.c_tree.specs.TypedStatements as statement
use Rattle.c_tree.specs.TypedStatements.{InitialTree, Zero, Scalar, Elements, Literal, DeclaredTree, TypedStartTree, Nothing, Value, Declares, StepTree, TypedStatementTree, Block, Declaration, Empty, Run, If, IfElse, While, DoWhile, For, Switch, Break, Continue, Return, TypedStatementTrees, case, default}
use Rattle.c_tree.specs.Programs.{TypedFunctionTree}
use Rattle.c_type_rules.specs.Integers.{integer}

-- A conversion to a narrow type, one of less than 32 bits, was written where none is implied.
abbrev pub conversion : (implied narrow : Bool) → ℕ
conversion true narrow = 0
conversion false narrow = if narrow then 1 else 0

abbrev mutual
  -- An expression's; where a conversion is implied, one on top of it is not counted: in what is assigned, passed,
  -- returned, or initialises.
  pub weighed : (implied : Bool) → RvalueTree → ℕ
  weighed q (Constant z t) = 1
  weighed q Null = 1
  weighed q (Load s l) = weighed_place l
  weighed q (Decay l) = weighed_place l
  weighed q (AddressOf l) = weighed_place l + 1
  weighed q (Convert t e) = weighed false e + conversion q (not ((integer t).width == 32))
  weighed q (Discard e) = weighed false e + 1
  weighed q (Signed o t e) = weighed false e + 1
  weighed q (Not e) = weighed false e + 1
  weighed q (Arithmetic o t a b) = weighed false a + weighed false b + 1
  weighed q (Compare o t a b) = weighed false a + weighed false b + 1
  weighed q (ComparePointers o a b) = weighed false a + weighed false b + 1
  weighed q (Move d of a b) = weighed false a + weighed false b + 1
  weighed q (MoveFrom b of a) = weighed false b + weighed false a + 1
  weighed q (Difference of a b) = weighed false a + weighed false b + 1
  weighed q (And a b) = weighed false a + weighed false b + 1
  weighed q (Or a b) = weighed false a + weighed false b + 1
  weighed q (Conditional c a b) = weighed false c + weighed false a + weighed false b + 1
  weighed q (Comma a b) = weighed false a + weighed false b + 1
  weighed q (Assign s l e) = weighed_place l + weighed true e + 1
  weighed q (Update o t u l e) = weighed_place l + weighed false e + 1
  weighed q (UpdatePointer d of l e) = weighed_place l + weighed false e + 1
  weighed q (Step d g t u l) = weighed_place l + 2
  weighed q (StepPointer d g of l) = weighed_place l + 2
  weighed q (Call c all) = weighed_all all + 1

  -- an lvalue's
  pub weighed_place : LvalueTree → ℕ
  weighed_place (Named o of) = 1
  weighed_place (Target of p) = weighed false p + 1
  weighed_place (Element of p i) = weighed false p + weighed false i + 1
  weighed_place (ElementFrom of i p) = weighed false i + weighed false p + 1

  -- arguments'
  pub weighed_all : ArgumentTrees → ℕ
  weighed_all none = 0
  weighed_all (first e rest) = weighed true e + weighed_all rest

-- elements'
abbrev pub weighed_elements : List RvalueTree → ℕ
weighed_elements [] = 0
weighed_elements (e ∷ more) = weighed true e + weighed_elements more

abbrev pub weighed_initial : InitialTree → ℕ
weighed_initial Zero = 0
weighed_initial (Scalar e) = weighed true e
weighed_initial (Elements all) = weighed_elements all + 1
weighed_initial (Literal n) = 1

-- declarators': two, and what is written
abbrev pub weighed_declared : List DeclaredTree → ℕ
weighed_declared [] = 0
weighed_declared (d ∷ more) = weighed_initial d.initial + 2 + weighed_declared more

abbrev pub weighed_start : TypedStartTree → ℕ
weighed_start Nothing = 0
weighed_start (Value spot e) = weighed false e
weighed_start (Declares all) = weighed_declared all

abbrev pub weighed_option : (implied : Bool) → Option RvalueTree → ℕ
weighed_option q None = 0
weighed_option q (Some e) = weighed q e

abbrev pub weighed_step : Option StepTree → ℕ
weighed_step None = 0
weighed_step (Some s) = weighed false s.value

abbrev mutual
  -- a statement's
  pub weighed_statement : TypedStatementTree → ℕ
  weighed_statement (Block all) = weighed_statements all + 1
  weighed_statement (Declaration all) = weighed_declared all
  weighed_statement (Empty spot) = 1
  weighed_statement (Run spot e) = weighed false e + 1
  weighed_statement (If spot e s) = weighed false e + weighed_statement s + 1
  weighed_statement (IfElse spot e s t) = weighed false e + (weighed_statement s + weighed_statement t) + 1
  weighed_statement (While spot e s) = weighed false e + weighed_statement s + 1
  weighed_statement (DoWhile s spot e) = weighed false e + weighed_statement s + 1
  weighed_statement (For start spot e step s) =
      weighed_start start + (weighed_option false e + (weighed_step step + weighed_statement s)) + 1
  weighed_statement (Switch spot e all) = weighed false e + weighed_statements all + 2
  weighed_statement (Break spot) = 1
  weighed_statement (Continue spot) = 1
  weighed_statement (Return spot e) = weighed_option true e + 1

  -- statements'
  pub weighed_statements : TypedStatementTrees → ℕ
  weighed_statements statement.none = 0
  weighed_statements (statement.first s rest) = weighed_statement s + weighed_statements rest
  weighed_statements (case z rest) = weighed_statements rest + 2
  weighed_statements (default rest) = weighed_statements rest + 1

-- A function weighs as much as it has nodes and conversions to narrow types that were written, with its parameters and
-- two, or more.
abbrev pub IsWeighed : TypedFunctionTree → Type 0
IsWeighed f = 2 + f.parameters + weighed_statements f.body ≤ f.weight
