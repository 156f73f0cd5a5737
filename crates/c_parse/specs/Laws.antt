-- What the grammar says: one tree at most, the `else` of an `if`, operators one after the other (ISO/IEC 9899:2011,
-- 6.8.4.1p3, 6.5).
use Rattle.std.specs.Prelude.{◌≡◌, ℕ, ◌<◌, ◌≤◌, List, Err}
use Rattle.debug_records.specs.declared.code.Code.{Code}
use Rattle.debug_records.specs.declared.source.Spot.{Spot}
use Rattle.c_token.specs.Lexemes.{Lexeme}
use Rattle.c_tree.specs.declared.operator.BinaryOperator.{BinaryOperator}
use Rattle.c_tree.specs.declared.operator.BinaryOperator.TheVariants as binary
use Rattle.c_tree.specs.Expressions.{ExpressionTree, Binary}
use Rattle.c_tree.specs.Statements.{StatementTree, If, IfElse}
use Rattle.c_tree.specs.Trees.{ItemTree}
use Rattle.c_parse.specs.Depths.{file_depth}
use Rattle.c_parse.specs.Expressions.{IsLevel}
use Rattle.c_parse.specs.Files.{Spells}
use Rattle.c_parse.specs.Reading.{tree_of}
use Rattle.c_parse.specs.Statements.{IsStatement}

-- the level at which an operator binds
abbrev pub level_of : BinaryOperator → ℕ
level_of binary.Multiply = 1
level_of binary.Divide = 1
level_of binary.Remainder = 1
level_of binary.Add = 2
level_of binary.Subtract = 2
level_of binary.ShiftLeft = 3
level_of binary.ShiftRight = 3
level_of binary.Less = 4
level_of binary.Greater = 4
level_of binary.LessEqual = 4
level_of binary.GreaterEqual = 4
level_of binary.Equal = 5
level_of binary.NotEqual = 5
level_of binary.BitAnd = 6
level_of binary.BitXor = 7
level_of binary.BitOr = 8
level_of binary.LogicalAnd = 9
level_of binary.LogicalOr = 10

-- the level of an expression's operator, if it is an operation
abbrev pub top_level : ExpressionTree → ℕ
top_level (Binary o left right) = level_of o
top_level e = 0

-- No tokens spell `if (c) if (d) s else r` with the `else` at the outer `if`.
abbrev pub ElseIsTheNearest : Type 0
ElseIsTheNearest =
    (spot inner : Spot) (c d : ExpressionTree) (s r : StatementTree) (ts rest : List Lexeme)
    → IsStatement (IfElse spot c (If inner d s) r) ts rest → ⊥

-- The right operand of an operator is an operation of a tighter level, the left one of no looser one.
abbrev pub AssociateToTheLeft : Type 0
AssociateToTheLeft =
    (level : ℕ) (o : BinaryOperator) (left right : ExpressionTree) (ts rest : List Lexeme)
    → IsLevel level (Binary o left right) ts rest
    → (top_level left ≤ level_of o) × (top_level right < level_of o)

-- Tokens spell at most one tree, however deep it nests: the grammar is not ambiguous.
abbrev pub SpellAtMostOne : Type 0
SpellAtMostOne = (ts : List Lexeme) (a b : List ItemTree) → Spells ts a → Spells ts b → a ≡ b

-- Tokens that are refused spell no tree, or one in which constructs nest more than 64 deep.
abbrev pub RefusedAreTooDeep : Type 0
RefusedAreTooDeep =
    (ts : List Lexeme) (fault : Code × ℕ) (all : List ItemTree) → tree_of ts ≡ Err fault → Spells ts all
    → 64 < file_depth all
