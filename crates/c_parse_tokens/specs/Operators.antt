-- Operators, and the levels at which they bind.
use Rattle.std.specs.Prelude.{ℕ, Bool, true, false, nat_eq, if◌then◌else◌, List, [], ◌∷◌, Option, Some, None, is_some}
use Rattle.std.specs.Option.{option_map_or}
use Rattle.c_token.specs.declared.token.Keyword.TheVariants as keyword
use Rattle.c_token.specs.declared.token.Punctuator.{Punctuator}
use Rattle.c_token.specs.declared.token.Punctuator.TheVariants as punctuator
use Rattle.c_token.specs.Lexemes.{Lexeme, Word}
use Rattle.c_token.specs.Lexemes as word
use Rattle.c_tree.specs.declared.operator.BinaryOperator.{BinaryOperator}
use Rattle.c_tree.specs.declared.operator.BinaryOperator.TheVariants as binary
use Rattle.c_tree.specs.declared.operator.PrefixOperator.{PrefixOperator}
use Rattle.c_tree.specs.declared.operator.PrefixOperator.TheVariants as prefix
use Rattle.c_tree.specs.declared.operator.AssignmentOperator.{AssignmentOperator}
use Rattle.c_tree.specs.declared.operator.AssignmentOperator.TheVariants as assignment
use Rattle.c_tree.specs.declared.typed_expression.Arithmetic.TheVariants as arithmetic

-- an operator between two operands: its level, of which the first binds tightest, and which it is
unfoldable pub binary_operator : Punctuator → Option (ℕ × BinaryOperator)
binary_operator punctuator.Star = Some (1, binary.Multiply)
binary_operator punctuator.Slash = Some (1, binary.Divide)
binary_operator punctuator.Percent = Some (1, binary.Remainder)
binary_operator punctuator.Plus = Some (2, binary.Add)
binary_operator punctuator.Minus = Some (2, binary.Subtract)
binary_operator punctuator.ShiftLeft = Some (3, binary.ShiftLeft)
binary_operator punctuator.ShiftRight = Some (3, binary.ShiftRight)
binary_operator punctuator.Less = Some (4, binary.Less)
binary_operator punctuator.Greater = Some (4, binary.Greater)
binary_operator punctuator.LessEqual = Some (4, binary.LessEqual)
binary_operator punctuator.GreaterEqual = Some (4, binary.GreaterEqual)
binary_operator punctuator.EqualEqual = Some (5, binary.Equal)
binary_operator punctuator.NotEqual = Some (5, binary.NotEqual)
binary_operator punctuator.Ampersand = Some (6, binary.BitAnd)
binary_operator punctuator.Caret = Some (7, binary.BitXor)
binary_operator punctuator.Bar = Some (8, binary.BitOr)
binary_operator punctuator.AndAnd = Some (9, binary.LogicalAnd)
binary_operator punctuator.OrOr = Some (10, binary.LogicalOr)
binary_operator p = None

-- the punctuator that a token is
abbrev pub punctuator_of : Word → Option Punctuator
punctuator_of (word.Punctuator p) = Some p
punctuator_of w = None

-- the operator of a level at the front, and the tokens behind it
unfoldable pub operator_at : ℕ → List Lexeme → Option (BinaryOperator × List Lexeme)
operator_at level [] = None
operator_at level (t ∷ ts) =
    option_map_or (λ p. option_map_or (λ o. if nat_eq o.0 level then Some (o.1, ts) else None) (binary_operator p) None)
    (punctuator_of t.kind) None

-- an operator that assigns
unfoldable pub assignment_operator : Punctuator → Option AssignmentOperator
assignment_operator punctuator.Equal = Some assignment.Assign
assignment_operator punctuator.StarEqual = Some (assignment.With arithmetic.Multiply)
assignment_operator punctuator.SlashEqual = Some (assignment.With arithmetic.Divide)
assignment_operator punctuator.PercentEqual = Some (assignment.With arithmetic.Remainder)
assignment_operator punctuator.PlusEqual = Some (assignment.With arithmetic.Add)
assignment_operator punctuator.MinusEqual = Some (assignment.With arithmetic.Subtract)
assignment_operator punctuator.ShiftLeftEqual = Some (assignment.With arithmetic.ShiftLeft)
assignment_operator punctuator.ShiftRightEqual = Some (assignment.With arithmetic.ShiftRight)
assignment_operator punctuator.AmpersandEqual = Some (assignment.With arithmetic.BitAnd)
assignment_operator punctuator.CaretEqual = Some (assignment.With arithmetic.BitXor)
assignment_operator punctuator.BarEqual = Some (assignment.With arithmetic.BitOr)
assignment_operator p = None

-- the operator that assigns at the front, and the tokens behind it
unfoldable pub assignment_at : List Lexeme → Option (AssignmentOperator × List Lexeme)
assignment_at [] = None
assignment_at (t ∷ ts) =
    option_map_or (λ p. option_map_or (λ o. Some (o, ts)) (assignment_operator p) None) (punctuator_of t.kind) None

-- an operator before its operand
unfoldable pub prefix_operator : Punctuator → Option PrefixOperator
prefix_operator punctuator.Ampersand = Some prefix.AddressOf
prefix_operator punctuator.Star = Some prefix.Indirection
prefix_operator punctuator.Plus = Some prefix.Plus
prefix_operator punctuator.Minus = Some prefix.Minus
prefix_operator punctuator.Tilde = Some prefix.Complement
prefix_operator punctuator.Exclamation = Some prefix.Not
prefix_operator punctuator.Increment = Some prefix.Increment
prefix_operator punctuator.Decrement = Some prefix.Decrement
prefix_operator p = None

-- a token that begins an expression: a name, a constant, a literal, `sizeof`, a parenthesis, or an operator before its
-- operand
abbrev pub is_beginning : Word → Bool
is_beginning (word.Name n) = true
is_beginning (word.Constant c) = true
is_beginning (word.Literal bytes) = true
is_beginning (word.Keyword keyword.Sizeof) = true
is_beginning (word.Keyword k) = false
is_beginning (word.Punctuator punctuator.OpenParenthesis) = true
is_beginning (word.Punctuator p) = is_some (prefix_operator p)
is_beginning (word.Include h) = false

-- the first token begins an expression
unfoldable pub begins_expression : List Lexeme → Bool
begins_expression [] = false
begins_expression (t ∷ ts) = is_beginning t.kind
