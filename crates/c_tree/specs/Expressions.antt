-- Expressions as contracts see them: operators, suffixes and commas nest to the left, as the grammar has them.
use Rattle.std.specs.Prelude.{ℕ, List, [], ◌∷◌, Some, None, fold, string_bytes}
use Rattle.debug_records.specs.declared.source.Spot.{Spot}
use Rattle.c_tree.specs.declared.extent.Extent.{Extent}
use Rattle.c_tree.specs.declared.extent.Identifier.{Identifier}
use Rattle.c_tree.specs.declared.operator.BinaryOperator.{BinaryOperator}
use Rattle.c_tree.specs.declared.operator.PrefixOperator.{PrefixOperator}
use Rattle.c_tree.specs.declared.operator.AssignmentOperator.{AssignmentOperator}
use Rattle.c_tree.specs.declared.types.IntegerType.{IntegerType}
use Rattle.c_tree.specs.declared.types.TypeName.{TypeName}
use Rattle.c_tree.specs.declared.expression.Expression.{Expression}
use Rattle.c_tree.specs.declared.expression.Expression.TheOpen.{Expression-F, Suffix-F}
use Rattle.c_tree.specs.declared.expression.Expression.TheFolds.{fold-Expression, fold-Suffix}
use Rattle.c_tree.specs.declared.expression.Suffix.{Suffix}

-- a name, and where it stands
pub record NameTree : Type 0 where
  pub name : List ℕ
  pub spot : Spot

abbrev pub identifier_view : Identifier → NameTree
identifier_view i = record { name = string_bytes i.name; spot = i.spot }

mutual
  -- spots are of first tokens, the numbers behind an index, a call, `++` and `--` the offsets of last tokens
  pub data ExpressionTree : Type 0 where
    Name : NameTree → ExpressionTree
    Constant : Spot → (value : ℕ) → IntegerType → ExpressionTree
    Literal : Extent → (bytes : List ℕ) → ExpressionTree
    Parenthesized : Extent → ExpressionTree → ExpressionTree
    Index : (operand index : ExpressionTree) → (last : ℕ) → ExpressionTree
    Call : (operand : ExpressionTree) → ExpressionTrees → (last : ℕ) → ExpressionTree
    PostIncrement : ExpressionTree → (last : ℕ) → ExpressionTree
    PostDecrement : ExpressionTree → (last : ℕ) → ExpressionTree
    Prefix : Spot → PrefixOperator → ExpressionTree → ExpressionTree
    Cast : Spot → TypeName → ExpressionTree → ExpressionTree
    SizeofExpression : Spot → ExpressionTree → ExpressionTree
    SizeofType : Extent → IntegerType → (stars : ℕ) → ExpressionTree
    SizeofArray : Extent → IntegerType → (stars : ℕ) → (size : ExpressionTree) → ExpressionTree
    Binary : BinaryOperator → (left right : ExpressionTree) → ExpressionTree
    Conditional : (condition then otherwise : ExpressionTree) → ExpressionTree
    Assignment : AssignmentOperator → (target value : ExpressionTree) → ExpressionTree
    Comma : (left right : ExpressionTree) → ExpressionTree

  -- some expressions, in the order of the source
  pub data ExpressionTrees : Type 0 where
    none : ExpressionTrees
    first : ExpressionTree → ExpressionTrees → ExpressionTrees

-- the arguments of a call, in a list of the tree's own
abbrev pub chain_of_arguments : List ExpressionTree → ExpressionTrees
chain_of_arguments [] = none
chain_of_arguments (e ∷ es) = first e (chain_of_arguments es)

-- one operator and its right operand, behind what stands to the left
abbrev pub operation : ExpressionTree → BinaryOperator × ExpressionTree → ExpressionTree
operation left o = Binary o.0 left o.1

-- what stands behind an operand
pub data SuffixTree : Type 0 where
  Indexes : ExpressionTree → (last : ℕ) → SuffixTree
  Calls : List ExpressionTree → (last : ℕ) → SuffixTree
  Increments : (last : ℕ) → SuffixTree
  Decrements : (last : ℕ) → SuffixTree

-- one suffix, behind its operand
abbrev pub suffixed : ExpressionTree → SuffixTree → ExpressionTree
suffixed operand (Indexes index last) = Index operand index last
suffixed operand (Calls arguments last) = Call operand (chain_of_arguments arguments) last
suffixed operand (Increments last) = PostIncrement operand last
suffixed operand (Decrements last) = PostDecrement operand last

-- one suffix, with the trees of its parts in their places
abbrev pub suffix_step : Suffix-F ExpressionTree SuffixTree → SuffixTree
suffix_step (Suffix-F.Index index last) = Indexes index last
suffix_step (Suffix-F.Call arguments last) = Calls arguments.items last
suffix_step (Suffix-F.Increment last) = Increments last
suffix_step (Suffix-F.Decrement last) = Decrements last

-- one expression, with the trees of its parts in their places
abbrev pub expression_step : Expression-F ExpressionTree SuffixTree → ExpressionTree
expression_step (Expression-F.Name i) = Name (identifier_view i)
expression_step (Expression-F.Constant spot value type) = Constant spot value type
expression_step (Expression-F.Literal extent bytes) = Literal extent bytes.items
expression_step (Expression-F.Parenthesized extent inner) = Parenthesized extent inner.value
expression_step (Expression-F.Postfix operand suffixes) = fold suffixed operand.value suffixes.items
expression_step (Expression-F.Prefix spot operator operand) = Prefix spot operator operand.value
expression_step (Expression-F.Cast spot type operand) = Cast spot type operand.value
expression_step (Expression-F.SizeofExpression spot operand) = SizeofExpression spot operand.value
expression_step (Expression-F.SizeofType extent type stars None) = SizeofType extent type stars
expression_step (Expression-F.SizeofType extent type stars (Some size)) = SizeofArray extent type stars size.value
expression_step (Expression-F.Binary left operations) = fold operation left.value operations.items
expression_step (Expression-F.Conditional condition chosen other) = Conditional condition.value chosen.value other.value
expression_step (Expression-F.Assignment operator target value) = Assignment operator target.value value.value
expression_step (Expression-F.Comma left more) = fold Comma left.value more.items

abbrev pub expression_view : Expression → ExpressionTree
expression_view = fold-Expression ExpressionTree SuffixTree expression_step suffix_step

abbrev pub suffix_view : Suffix → SuffixTree
suffix_view = fold-Suffix ExpressionTree SuffixTree expression_step suffix_step
