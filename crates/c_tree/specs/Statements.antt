-- Statements as contracts see them: `else` and labels nest, as the grammar has them.
use Rattle.std.specs.Prelude.{ℕ, List, [], ◌∷◌, map, Option, Some, None}
use Rattle.std.specs.Option.{option_map}
use Rattle.debug_records.specs.declared.source.Spot.{Spot}
use Rattle.c_tree.specs.declared.extent.Extent.{Extent}
use Rattle.c_tree.specs.declared.statement.Statement.{Statement}
use Rattle.c_tree.specs.declared.statement.Statement.TheOpen.{Statement-F, Block-F, Branch-F}
use Rattle.c_tree.specs.declared.statement.Statement.TheFolds.{fold-Statement, fold-Block, fold-Branch}
use Rattle.c_tree.specs.declared.statement.Block.{Block}
use Rattle.c_tree.specs.declared.statement.Branch.{Branch}
use Rattle.c_tree.specs.declared.statement.Label.{Label}
use Rattle.c_tree.specs.declared.statement.Label.TheVariants as label
use Rattle.c_tree.specs.declared.statement.ForStart.{ForStart}
use Rattle.c_tree.specs.declared.statement.ForStart.TheVariants as for_start
use Rattle.c_tree.specs.Expressions.{ExpressionTree, expression_view}
use Rattle.c_tree.specs.Declarations.{DeclarationTree, declaration_view}

-- the first part of a `for`
pub data StartTree : Type 0 where
  Nothing : StartTree
  Value : ExpressionTree → StartTree
  Declares : DeclarationTree → StartTree

abbrev pub start_view : ForStart → StartTree
start_view for_start.Nothing = Nothing
start_view (for_start.Expression value) = Value (expression_view value)
start_view (for_start.Declaration d) = Declares (declaration_view d)

mutual
  -- spots are of first tokens; those around the statements of a block or of a switch are its braces'; the number behind
  -- an expression is its semicolon's offset
  pub data StatementTree : Type 0 where
    Compound : (opening : Spot) → StatementTrees → (closing : Spot) → StatementTree
    Declare : DeclarationTree → StatementTree
    Empty : Spot → StatementTree
    Run : ExpressionTree → (last : ℕ) → StatementTree
    If : Spot → (condition : ExpressionTree) → StatementTree → StatementTree
    IfElse : Spot → (condition : ExpressionTree) → (then otherwise : StatementTree) → StatementTree
    While : Spot → (condition : ExpressionTree) → StatementTree → StatementTree
    DoWhile : Extent → StatementTree → (condition : ExpressionTree) → StatementTree
    For : Spot → StartTree → (condition step : Option ExpressionTree) → StatementTree → StatementTree
    Switch : Spot → ExpressionTree → (opening : Spot) → StatementTrees → (closing : Spot) → StatementTree
    Case : Extent → ExpressionTree → StatementTree → StatementTree
    Default : Extent → StatementTree → StatementTree
    Break : Extent → StatementTree
    Continue : Extent → StatementTree
    Return : Extent → Option ExpressionTree → StatementTree

  -- some statements, in the order of the source
  pub data StatementTrees : Type 0 where
    none : StatementTrees
    first : StatementTree → StatementTrees → StatementTrees

-- the statements of a block, in a list of the tree's own
abbrev pub chain_of_statements : List StatementTree → StatementTrees
chain_of_statements [] = none
chain_of_statements (s ∷ more) = first s (chain_of_statements more)

-- statements in braces, and where the braces stand
pub record BlockTree : Type 0 where
  pub opening : Spot
  pub statements : List StatementTree
  pub closing : Spot

-- `if (condition) then`
pub record BranchTree : Type 0 where
  pub spot : Spot
  pub condition : ExpressionTree
  pub then : StatementTree

-- an `if` with what its `else` has
abbrev pub if_tree : BranchTree → Option StatementTree → StatementTree
if_tree b None = If b.spot b.condition b.then
if_tree b (Some otherwise) = IfElse b.spot b.condition b.then otherwise

-- what an `else` has: each `else if` holds those behind it, and the last `else`
abbrev pub else_tree : List BranchTree → Option StatementTree → Option StatementTree
else_tree [] otherwise = otherwise
else_tree (b ∷ more) otherwise = Some (if_tree b (else_tree more otherwise))

-- `case value:` or `default:`
pub data LabelTree : Type 0 where
  CaseLabel : Extent → ExpressionTree → LabelTree
  DefaultLabel : Extent → LabelTree

abbrev pub label_view : Label → LabelTree
label_view (label.Case extent value) = CaseLabel extent (expression_view value)
label_view (label.Default extent) = DefaultLabel extent

-- a label before a statement
abbrev pub labeled : LabelTree → StatementTree → StatementTree
labeled (CaseLabel extent value) s = Case extent value s
labeled (DefaultLabel extent) s = Default extent s

-- labels before a statement
abbrev pub behind_labels : List LabelTree → StatementTree → StatementTree
behind_labels [] s = s
behind_labels (l ∷ more) s = labeled l (behind_labels more s)

-- a statement in a block of its own
abbrev pub block_tree : BlockTree → StatementTree
block_tree b = Compound b.opening (chain_of_statements b.statements) b.closing

-- one statement, with the trees of its parts in their places
abbrev pub statement_step : Statement-F StatementTree BlockTree BranchTree → StatementTree
statement_step (Statement-F.Block b) = block_tree b
statement_step (Statement-F.Declaration d) = Declare (declaration_view d)
statement_step (Statement-F.Empty spot) = Empty spot
statement_step (Statement-F.Expression value last) = Run (expression_view value) last
statement_step (Statement-F.If b others None) = if_tree b.value (else_tree others.items None)
statement_step (Statement-F.If b others (Some otherwise)) =
    if_tree b.value (else_tree others.items (Some otherwise.value))
statement_step (Statement-F.While spot condition body) = While spot (expression_view condition) body.value
statement_step (Statement-F.DoWhile extent body condition) = DoWhile extent body.value (expression_view condition)
statement_step (Statement-F.For spot start condition step body) =
    For spot (start_view start) (option_map expression_view condition) (option_map expression_view step) body.value
statement_step (Statement-F.Switch spot value b) =
    Switch spot (expression_view value) b.opening (chain_of_statements b.statements) b.closing
statement_step (Statement-F.Labeled labels s) = behind_labels (map label_view labels.items) s.value
statement_step (Statement-F.Break extent) = Break extent
statement_step (Statement-F.Continue extent) = Continue extent
statement_step (Statement-F.Return extent value) = Return extent (option_map expression_view value)

abbrev pub block_step : Block-F StatementTree BlockTree BranchTree → BlockTree
block_step b = record { opening = b.opening; statements = b.statements.items; closing = b.closing }

abbrev pub branch_step : Branch-F StatementTree BlockTree BranchTree → BranchTree
branch_step b = record { spot = b.spot; condition = expression_view b.condition; then = b.then }

abbrev pub statement_view : Statement → StatementTree
statement_view = fold-Statement StatementTree BlockTree BranchTree statement_step block_step branch_step

abbrev pub block_view : Block → BlockTree
block_view = fold-Block StatementTree BlockTree BranchTree statement_step block_step branch_step

abbrev pub branch_view : Branch → BranchTree
branch_view = fold-Branch StatementTree BlockTree BranchTree statement_step block_step branch_step
