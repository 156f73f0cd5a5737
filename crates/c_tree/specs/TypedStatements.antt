-- Typed statements as contracts see them. Each spot is that of the place that the construct is or has.
use Rattle.std.specs.Prelude.{ℕ, ℤ, List, map, Option}
use Rattle.std.specs.Option.{option_map}
use Rattle.debug_records.specs.declared.source.Spot.{Spot}
use Rattle.c_tree.specs.declared.typed_statement.Initial as declared-initial
use Rattle.c_tree.specs.declared.typed_statement.Initial.TheVariants as initial
use Rattle.c_tree.specs.declared.typed_statement.Declared.{Declared}
use Rattle.c_tree.specs.declared.typed_statement.TypedStart as declared-start
use Rattle.c_tree.specs.declared.typed_statement.TypedStart.TheVariants as start
use Rattle.c_tree.specs.declared.typed_statement.TypedStep.{TypedStep}
use Rattle.c_tree.specs.declared.typed_statement.TypedStatement as declared-statement
use Rattle.c_tree.specs.declared.typed_statement.TypedStatement.TheVariants as statement
use Rattle.c_tree.specs.declared.typed_statement.TypedStatements as declared-statements
use Rattle.c_tree.specs.declared.typed_statement.TypedStatements.TheVariants as statements
use Rattle.c_tree.specs.TypedExpressions.{RvalueTree, rvalue_view}

-- what a declaration writes into its object
pub data InitialTree : Type 0 where
  Zero : InitialTree
  Scalar : RvalueTree → InitialTree
  Elements : List RvalueTree → InitialTree
  Literal : ℕ → InitialTree

abbrev pub initial_view : declared-initial.Initial → InitialTree
initial_view initial.Zero = Zero
initial_view (initial.Scalar value) = Scalar (rvalue_view value)
initial_view (initial.Elements values) = Elements (map rvalue_view values.items)
initial_view (initial.Literal number) = Literal number

-- a declarator of an automatic object
pub record DeclaredTree : Type 0 where
  pub variable : ℕ
  pub spot : Spot
  pub initial : InitialTree

abbrev pub declared_view : Declared → DeclaredTree
declared_view d = record { variable = d.variable; spot = d.spot; initial = initial_view d.initial }

-- the first part of a `for`
pub data TypedStartTree : Type 0 where
  Nothing : TypedStartTree
  Value : Spot → RvalueTree → TypedStartTree
  Declares : List DeclaredTree → TypedStartTree

abbrev pub start_view : declared-start.TypedStart → TypedStartTree
start_view start.Nothing = Nothing
start_view (start.Expression spot value) = Value spot (rvalue_view value)
start_view (start.Declaration declared) = Declares (map declared_view declared.items)

-- the third part of a `for`
pub record StepTree : Type 0 where
  pub spot : Spot
  pub value : RvalueTree

abbrev pub step_view : TypedStep → StepTree
step_view s = record { spot = s.spot; value = rvalue_view s.value }

mutual
  -- a statement, or a declaration in a block
  pub data TypedStatementTree : Type 0 where
    Block : TypedStatementTrees → TypedStatementTree
    Declaration : List DeclaredTree → TypedStatementTree
    Empty : Spot → TypedStatementTree
    Run : Spot → RvalueTree → TypedStatementTree
    If : Spot → (condition : RvalueTree) → TypedStatementTree → TypedStatementTree
    IfElse : Spot → (condition : RvalueTree) → (chosen other : TypedStatementTree) → TypedStatementTree
    While : Spot → (condition : RvalueTree) → TypedStatementTree → TypedStatementTree
    DoWhile : TypedStatementTree → Spot → (condition : RvalueTree) → TypedStatementTree
    For : TypedStartTree → Spot → (condition : Option RvalueTree) → (step : Option StepTree) → TypedStatementTree
        → TypedStatementTree
    Switch : Spot → RvalueTree → TypedStatementTrees → TypedStatementTree
    Break : Spot → TypedStatementTree
    Continue : Spot → TypedStatementTree
    Return : Spot → Option RvalueTree → TypedStatementTree

  -- the statements of a block, and in the block of a `switch` the labels between them
  pub data TypedStatementTrees : Type 0 where
    none : TypedStatementTrees
    first : TypedStatementTree → TypedStatementTrees → TypedStatementTrees
    case : ℤ → TypedStatementTrees → TypedStatementTrees
    default : TypedStatementTrees → TypedStatementTrees

abbrev mutual
  pub statement_view : declared-statement.TypedStatement → TypedStatementTree
  statement_view (statement.Block' p body) = Block (statements_view body)
  statement_view (statement.Declaration declared) = Declaration (map declared_view declared.items)
  statement_view (statement.Empty spot) = Empty spot
  statement_view (statement.Expression spot value) = Run spot (rvalue_view value)
  statement_view (statement.If' spot condition p chosen) = If spot (rvalue_view condition) (statement_view chosen)
  statement_view (statement.IfElse' spot condition p chosen q other) =
      IfElse spot (rvalue_view condition) (statement_view chosen) (statement_view other)
  statement_view (statement.While' spot condition p body) = While spot (rvalue_view condition) (statement_view body)
  statement_view (statement.DoWhile' p body spot condition) = DoWhile (statement_view body) spot (rvalue_view condition)
  statement_view (statement.For' begin spot condition step p body) =
      For (start_view begin) spot (option_map rvalue_view condition) (option_map step_view step) (statement_view body)
  statement_view (statement.Switch' spot value p body) = Switch spot (rvalue_view value) (statements_view body)
  statement_view (statement.Break spot) = Break spot
  statement_view (statement.Continue spot) = Continue spot
  statement_view (statement.Return spot value) = Return spot (option_map rvalue_view value)

  pub statements_view : declared-statements.TypedStatements → TypedStatementTrees
  statements_view statements.End = none
  statements_view (statements.More' p one q rest) = first (statement_view one) (statements_view rest)
  statements_view (statements.Case' value p rest) = case value (statements_view rest)
  statements_view (statements.Default' p rest) = default (statements_view rest)
