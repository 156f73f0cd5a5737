-- Expressions.
use Rattle.std.specs.Prelude.{ℕ, zero, suc, ◌-◌, Bool, true, false, if◌then◌else◌, List, [], ◌∷◌, ◌++◌, length, Option, Some, None, Result, Ok, Err}
use Rattle.std.specs.Option.{option_map_or}
use Rattle.debug_records.specs.declared.source.Spot.{Spot}
use Rattle.c_token.specs.declared.token.Keyword.TheVariants as keyword
use Rattle.c_token.specs.declared.token.Punctuator.{Punctuator}
use Rattle.c_token.specs.declared.token.Punctuator.TheVariants as punctuator
use Rattle.c_token.specs.declared.token.Constant.{Constant}
use Rattle.c_token.specs.Lexemes.{Lexeme, Word}
use Rattle.c_token.specs.Lexemes as word
use Rattle.c_tree.specs.declared.extent.Extent.{Extent}
use Rattle.c_tree.specs.declared.operator.PrefixOperator.{PrefixOperator}
use Rattle.c_tree.specs.declared.operator.PrefixOperator.TheVariants as prefix_operators
use Rattle.c_tree.specs.declared.types.Base.{Base}
use Rattle.c_tree.specs.declared.types.Base.TheVariants as base
use Rattle.c_tree.specs.declared.types.IntegerType.{IntegerType}
use Rattle.c_tree.specs.declared.types.IntegerType.TheVariants as type
use Rattle.c_tree.specs.declared.types.TypeName.{TypeName}
use Rattle.c_tree.specs.Expressions.{ExpressionTree, SuffixTree, suffixed, Indexes, Calls, Increments, Decrements}
use Rattle.c_tree.specs.Expressions as tree
use Rattle.c_parse_expressions.specs.declared.expression.Sort.{Sort}
use Rattle.c_parse_expressions.specs.declared.expression.Sort.TheVariants as sort
use Rattle.c_parse_expressions.specs.declared.expression.SuffixStart.{SuffixStart}
use Rattle.c_parse_expressions.specs.declared.expression.SuffixStart.TheVariants as start
use Rattle.c_parse_tokens.specs.declared.mark.Mark.TheVariants as mark
use Rattle.c_parse_tokens.specs.declared.specifier.Place.TheVariants as place
use Rattle.c_parse_tokens.specs.Outcome.{Parser, ◌>>=◌}
use Rattle.c_parse_tokens.specs.Front.{stuck, refusal, inside, is_at, tokens_behind, want, spot_at, last_before, extent_before, separated}
use Rattle.c_parse_tokens.specs.Operators.{punctuator_of, operator_at, assignment_at, prefix_operator, begins_expression}
use Rattle.c_parse_tokens.specs.Specifiers.{specifiers, integer_type, base_of, begins_type, type_behind, stars}

-- what reads each sort of expression
abbrev pub Level : Type 0
Level = Sort → Parser ExpressionTree

-- what may nest, the next level first
abbrev pub Nesting : Type 0
Nesting = List Level

-- an expression within another construct, where the nesting allows one more
unfoldable pub nested : Nesting → Level
nested [] s ts = Err (refusal (begins_expression ts) ts)
nested (level ∷ levels) s ts = level s ts

-- the type of a constant
abbrev pub constant_type : (is_long is_unsigned : Bool) → IntegerType
constant_type false false = type.Int
constant_type false true = type.UnsignedInt
constant_type true false = type.Long
constant_type true true = type.UnsignedLong

-- the bytes of a token that is a literal
abbrev pub literal_of : Word → Option (List ℕ)
literal_of (word.Literal bytes) = Some bytes
literal_of w = None

-- the bytes of literals with those of the literals at the front, and the tokens behind
abbrev pub literals_at_front : List ℕ → List Lexeme → List ℕ × List Lexeme
literals_at_front bytes [] = (bytes, [])
literals_at_front bytes (t ∷ ts) =
    option_map_or (λ part. literals_at_front (bytes ++ part) ts) (literal_of t.kind) (bytes, t ∷ ts)

-- a name, a constant, literals, or an expression in parentheses
abbrev pub primary_of : Nesting → Word → Lexeme → Parser ExpressionTree
primary_of nest (word.Name name) t ts = Ok (tree.Name (record { name = name; spot = t.spot }), ts)
primary_of nest (word.Constant c) t ts = Ok (tree.Constant t.spot c.value (constant_type c.is_long c.is_unsigned), ts)
primary_of nest (word.Literal bytes) t ts =
    let all = literals_at_front bytes ts in Ok (tree.Literal (extent_before (t ∷ ts) all.1) all.0, all.1)
primary_of nest (word.Punctuator punctuator.OpenParenthesis) t ts =
    nested nest sort.Comma ts >>= λ e. want mark.CloseParenthesis e.1
    >>= λ rest. Ok (tree.Parenthesized (extent_before (t ∷ ts) rest) e.0, rest)
primary_of nest w t ts = Err (stuck (t ∷ ts))

-- a primary expression (C11 6.5.1)
unfoldable pub primary : Nesting → Parser ExpressionTree
primary nest [] = Err (stuck [])
primary nest (t ∷ ts) = primary_of nest t.kind t ts

-- the arguments of a call, up to its closing parenthesis
unfoldable pub arguments : Nesting → Parser (List ExpressionTree)
arguments nest ts =
    if is_at mark.CloseParenthesis ts then Ok ([], ts)
    else (nested nest sort.Assignment ts >>= λ e. separated (length e.1) (nested nest sort.Assignment) (e.0 ∷ []) e.1)

-- how a suffix begins whose first token is the punctuator, if one does
unfoldable pub suffix_start : Punctuator → Option SuffixStart
suffix_start punctuator.OpenBracket = Some start.Index
suffix_start punctuator.OpenParenthesis = Some start.Call
suffix_start punctuator.Increment = Some start.Increment
suffix_start punctuator.Decrement = Some start.Decrement
suffix_start p = None

-- how a suffix at the front begins, and the tokens behind its first
unfoldable pub suffix_at : List Lexeme → Option (SuffixStart × List Lexeme)
suffix_at [] = None
suffix_at (t ∷ ts) =
    option_map_or (λ p. option_map_or (λ s. Some (s, ts)) (suffix_start p) None) (punctuator_of t.kind) None

-- one suffix, behind its first token: an index, the arguments of a call, `++` or `--`
unfoldable pub suffix : Nesting → SuffixStart → (whole : List Lexeme) → Parser SuffixTree
suffix nest start.Index whole ts =
    nested nest sort.Comma ts >>= λ e. want mark.CloseBracket e.1
    >>= λ rest. Ok (Indexes e.0 (last_before whole rest), rest)
suffix nest start.Call whole ts =
    arguments nest ts >>= λ es. want mark.CloseParenthesis es.1
    >>= λ rest. Ok (Calls es.0 (last_before whole rest), rest)
suffix nest start.Increment whole ts = Ok (Increments (last_before whole ts), ts)
suffix nest start.Decrement whole ts = Ok (Decrements (last_before whole ts), ts)

-- more suffixes behind an operand; as many as there are tokens are enough
abbrev pub suffixes : ℕ → Nesting → ExpressionTree → Parser ExpressionTree
suffixes zero nest operand ts = Ok (operand, ts)
suffixes (suc n) nest operand ts =
    option_map_or (λ a. suffix nest a.0 ts a.1 >>= λ s. suffixes n nest (suffixed operand s.0) s.1) (suffix_at ts)
    (Ok (operand, ts))

-- an operand with its suffixes
unfoldable pub postfix : Nesting → Parser ExpressionTree
postfix nest ts = primary nest ts >>= λ e. suffixes (length e.1) nest e.0 e.1

-- `++` and `--` take no cast as their operand
abbrev pub operand_of : PrefixOperator → Sort
operand_of prefix_operators.Increment = sort.Unary
operand_of prefix_operators.Decrement = sort.Unary
operand_of o = sort.Cast

-- the operand of a prefix operator, behind it
unfoldable pub prefix : Nesting → Spot → PrefixOperator → Parser ExpressionTree
prefix nest spot o ts = nested nest (operand_of o) ts >>= λ e. Ok (tree.Prefix spot o e.0, e.1)

-- the operand of `sizeof`, behind it
unfoldable pub sizeof_expression : Nesting → Spot → Parser ExpressionTree
sizeof_expression nest spot ts = nested nest sort.Unary ts >>= λ e. Ok (tree.SizeofExpression spot e.0, e.1)

-- a size in brackets, if brackets stand at the front
unfoldable pub array_size : Nesting → Parser (Option ExpressionTree)
array_size nest ts =
    option_map_or
    (λ its. nested nest sort.Assignment its >>= λ e. want mark.CloseBracket e.1 >>= λ rest. Ok (Some e.0, rest))
    (tokens_behind mark.OpenBracket ts) (Ok (None, ts))

-- `sizeof` of a type, or of an array where a size stands
abbrev pub sizeof_tree : Extent → IntegerType → (stars : ℕ) → Option ExpressionTree → ExpressionTree
sizeof_tree extent t count None = tree.SizeofType extent t count
sizeof_tree extent t count (Some e) = tree.SizeofArray extent t count e

-- `sizeof` of a type: the tokens from the word on, from the parenthesis on, and behind it; both nest
unfoldable pub sizeof_type : Nesting → (word parenthesis : List Lexeme) → Parser ExpressionTree
sizeof_type nest whole parenthesis its =
    inside nest true parenthesis >>= λ around. inside around (begins_type its) its >>= λ within.
    specifiers place.Object its >>= λ found. array_size within (stars found.1).1 >>= λ e. want mark.CloseParenthesis e.1
    >>= λ rest.
    Ok (sizeof_tree (extent_before whole rest) (integer_type found.0) (stars found.1).0 e.0, rest)

-- an operator before its operand, `sizeof`, or an operand with its suffixes
abbrev pub unary_of : Nesting → Word → Lexeme → Parser ExpressionTree
unary_of nest (word.Keyword keyword.Sizeof) t ts =
    option_map_or (sizeof_type nest (t ∷ ts) ts) (type_behind ts) (sizeof_expression nest t.spot ts)
unary_of nest (word.Punctuator p) t ts =
    option_map_or (λ o. prefix nest t.spot o ts) (prefix_operator p) (postfix nest (t ∷ ts))
unary_of nest w t ts = postfix nest (t ∷ ts)

-- a unary expression (C11 6.5.3)
unfoldable pub unary : Nesting → Parser ExpressionTree
unary nest [] = postfix nest []
unary nest (t ∷ ts) = unary_of nest t.kind t ts

-- `*` stand behind an integer type alone
abbrev pub pointed : Base → List Lexeme → ℕ × List Lexeme
pointed base.Void ts = (0, ts)
pointed (base.Integer t) ts = stars ts

-- the type of a cast
unfoldable pub type_name : Parser TypeName
type_name ts =
    specifiers place.Cast ts >>= λ found.
    Ok (
      record {
        base = base_of found.0;
        stars = (pointed (base_of found.0) found.1).0;
      },
      (pointed (base_of found.0) found.1).1,
    )

-- a cast, or a unary expression
unfoldable pub cast : Nesting → Parser ExpressionTree
cast nest ts =
    option_map_or
    (λ its. inside nest true its >>= λ _. type_name its >>= λ n. want mark.CloseParenthesis n.1
    >>= λ rest. nested nest sort.Cast rest >>= λ e.
    Ok (tree.Cast (spot_at ts) n.0 e.0, e.1))
    (type_behind ts)
    (unary nest ts)

-- more operators of one level, each with its right operand; as many as there are tokens are enough
abbrev pub operations : ℕ → (level : ℕ) → Parser ExpressionTree → ExpressionTree → Parser ExpressionTree
operations zero level operand left ts = Ok (left, ts)
operations (suc n) level operand left ts =
    option_map_or (λ o. operand o.1 >>= λ right. operations n level operand (tree.Binary o.0 left right.0) right.1)
    (operator_at level ts) (Ok (left, ts))

-- operators of the first levels between operands, the first of which binds tightest
unfoldable pub levels : ℕ → Parser ExpressionTree → Parser ExpressionTree
levels zero operand ts = operand ts
levels (suc level) operand ts =
    levels level operand ts >>= λ left. operations (length left.1) (suc level) (levels level operand) left.0 left.1

-- a conditional expression, or operators between operands
unfoldable pub conditional : Nesting → Parser ExpressionTree
conditional nest ts =
    levels 10 (cast nest) ts >>= λ c.
    option_map_or
    (λ after. nested nest sort.Comma after >>= λ a. want mark.Colon a.1 >>= λ rest. nested nest sort.Conditional rest
    >>= λ b. Ok (tree.Conditional c.0 a.0 b.0, b.1))
    (tokens_behind mark.Question c.1)
    (Ok c)

-- an assignment, or a conditional expression
unfoldable pub assignment : Nesting → Parser ExpressionTree
assignment nest ts =
    conditional nest ts >>= λ target.
    option_map_or (λ o. nested nest sort.Assignment o.1 >>= λ value. Ok (tree.Assignment o.0 target.0 value.0, value.1))
    (assignment_at target.1) (Ok target)

-- more expressions, each behind a comma; as many as there are tokens are enough
abbrev pub more_commas : ℕ → Nesting → ExpressionTree → Parser ExpressionTree
more_commas zero nest left ts = Ok (left, ts)
more_commas (suc n) nest left ts =
    option_map_or (λ after. assignment nest after >>= λ right. more_commas n nest (tree.Comma left right.0) right.1)
    (tokens_behind mark.Comma ts) (Ok (left, ts))

-- expressions with commas between them
unfoldable pub comma : Nesting → Parser ExpressionTree
comma nest ts = assignment nest ts >>= λ e. more_commas (length e.1) nest e.0 e.1

-- each sort of expression
abbrev pub expression_of : Nesting → Level
expression_of nest sort.Comma ts = comma nest ts
expression_of nest sort.Assignment ts = assignment nest ts
expression_of nest sort.Conditional ts = conditional nest ts
expression_of nest sort.Cast ts = cast nest ts
expression_of nest sort.Unary ts = unary nest ts

-- what may nest where so many levels are left
unfoldable pub nesting : ℕ → Nesting
nesting zero = []
nesting (suc depth) = expression_of (nesting depth) ∷ nesting depth
