-- Short ways up the grammar of expressions.
use Rattle.std.proofs.Common.{◌≡◌, ℕ, zero, suc, List, ◌∷◌}
use Rattle.c_token.specs.declared.token.Constant as token
use Rattle.c_token.specs.Lexemes.{Lexeme}
use Rattle.c_token.specs.Lexemes as word
use Rattle.c_tree.specs.Expressions.{ExpressionTree, Name, Constant}
use Rattle.c_parse_expressions.specs.Expressions.{constant_type}
use Rattle.c_parse.specs.Expressions.{IsPrimary, IsPostfix, IsUnary, IsCast, IsLevel, IsConditional, IsAssignment, IsExpression}
use Rattle.c_parse.specs.Expressions as grammar

abbrev above : ℕ → ℕ → ℕ
above k zero = k
above k (suc n) = suc (above k n)

raised : {e : ExpressionTree} {ts rest : List Lexeme} (k n : ℕ) → IsLevel k e ts rest → IsLevel (above k n) e ts rest
raised k zero l = l
raised k (suc n) l = grammar.below (raised k n l)

pub from_primary : {e : ExpressionTree} {ts rest : List Lexeme} → IsPrimary e ts rest → IsCast e ts rest
from_primary p = grammar.unary (grammar.postfix (grammar.primary p))

pub to_level : {e : ExpressionTree} {ts rest : List Lexeme} (n : ℕ) → IsCast e ts rest → IsLevel (above 0 n) e ts rest
to_level n c = raised 0 n (grammar.lowest c)

pub cast_assigns : {e : ExpressionTree} {ts rest : List Lexeme} → IsCast e ts rest → IsAssignment e ts rest
cast_assigns c = grammar.conditional (grammar.level (raised 0 10 (grammar.lowest c)))

pub level_one : {e : ExpressionTree} {ts rest : List Lexeme} → IsLevel 1 e ts rest → IsAssignment e ts rest
level_one l = grammar.conditional (grammar.level (raised 1 9 l))

pub level_two : {e : ExpressionTree} {ts rest : List Lexeme} → IsLevel 2 e ts rest → IsAssignment e ts rest
level_two l = grammar.conditional (grammar.level (raised 2 8 l))

pub level_four : {e : ExpressionTree} {ts rest : List Lexeme} → IsLevel 4 e ts rest → IsAssignment e ts rest
level_four l = grammar.conditional (grammar.level (raised 4 6 l))

pub level_seven : {e : ExpressionTree} {ts rest : List Lexeme} → IsLevel 7 e ts rest → IsAssignment e ts rest
level_seven l = grammar.conditional (grammar.level (raised 7 3 l))

pub name_cast : {t : Lexeme} {n : List ℕ} {rest : List Lexeme} → t.kind ≡ word.Name n → IsCast (Name (record { name = n; spot = t.spot })) (t ∷ rest) rest
name_cast k = from_primary (grammar.name k)

pub constant_cast : {t : Lexeme} {c : token.Constant} {rest : List Lexeme} → t.kind ≡ word.Constant c
    → IsCast (Constant t.spot c.value (constant_type c.is_long c.is_unsigned)) (t ∷ rest) rest
constant_cast k = from_primary (grammar.constant k)
