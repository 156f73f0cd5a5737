-- What the grammar refuses: an `else` that is not the nearest `if`'s, and operators that associate to the right.
use Rattle.std.proofs.Common.{◌≡◌, ℕ, suc, ◌<◌, ◌≤◌, Bool, true, false, List, ◌∷◌, Some, refl, subst, arith}
use Rattle.debug_records.specs.declared.source.Spot.{Spot}
use Rattle.c_token.specs.declared.token.Keyword.TheVariants as keyword
use Rattle.c_token.specs.declared.token.Punctuator.{Punctuator}
use Rattle.c_token.specs.declared.token.Punctuator.TheVariants as punctuator
use Rattle.c_token.specs.Lexemes.{Lexeme}
use Rattle.c_tree.specs.declared.operator.BinaryOperator.{BinaryOperator}
use Rattle.c_tree.specs.declared.operator.BinaryOperator.TheVariants as binary
use Rattle.c_tree.specs.Expressions.{ExpressionTree, Binary}
use Rattle.c_tree.specs.Statements.{StatementTree, If, IfElse}
use Rattle.c_parse_tokens.specs.Operators.{binary_operator}
use Rattle.c_parse.specs.Tokens.{IsKeyword}
use Rattle.c_parse.specs.Expressions.{IsPrimary, IsPostfix, IsUnary, IsCast, IsLevel}
use Rattle.c_parse.specs.Expressions as expression
use Rattle.c_parse.specs.Statements.{IsNoElse, other, IsStatement}
use Rattle.c_parse.specs.Statements as grammar
use Rattle.c_parse.specs.Laws.{level_of, top_level, AssociateToTheLeft, ElseIsTheNearest}
use Rattle.c_parse.proofs.Words.{no, some_same, never}

-- ---- else

-- an `if` without `else`
abbrev is_short : StatementTree → Bool
is_short (If spot c s) = true
is_short s = false

short_ends : {s : StatementTree} {ts rest : List Lexeme} → IsStatement s ts rest → is_short s ≡ true → IsNoElse rest
short_ends (grammar.if k c s n) h = n
short_ends (grammar.if_else k c s e r) h = no h
short_ends (grammar.case k e c s) h = no h
short_ends (grammar.default k c s) h = no h
short_ends (grammar.compound k all c) h = no h
short_ends (grammar.empty k) h = no h
short_ends (grammar.run e k) h = no h
short_ends (grammar.switch k e o all c) h = no h
short_ends (grammar.while k c s) h = no h
short_ends (grammar.do_while k s w c e) h = no h
short_ends (grammar.for k o start c t s) h = no h
short_ends (grammar.break k e) h = no h
short_ends (grammar.continue k e) h = no h
short_ends (grammar.return k e) h = no h
short_ends (grammar.return_value k e c) h = no h

no_else_before : {u : Lexeme} {ts : List Lexeme} → IsNoElse (u ∷ ts) → IsKeyword keyword.Else u → ⊥
no_else_before (other n) k = n k

-- an `if` with an `else`, whose first branch is an `if` without one
abbrev is_crossed : StatementTree → Bool
is_crossed (IfElse spot c s r) = is_short s
is_crossed s = false

crossed : {s : StatementTree} {ts rest : List Lexeme} → IsStatement s ts rest → is_crossed s ≡ true → ⊥
crossed (grammar.if_else k c s e r) h = no_else_before (short_ends s h) e
crossed (grammar.if k c s n) h = no h
crossed (grammar.case k e c s) h = no h
crossed (grammar.default k c s) h = no h
crossed (grammar.compound k all c) h = no h
crossed (grammar.empty k) h = no h
crossed (grammar.run e k) h = no h
crossed (grammar.switch k e o all c) h = no h
crossed (grammar.while k c s) h = no h
crossed (grammar.do_while k s w c e) h = no h
crossed (grammar.for k o start c t s) h = no h
crossed (grammar.break k e) h = no h
crossed (grammar.continue k e) h = no h
crossed (grammar.return k e) h = no h
crossed (grammar.return_value k e c) h = no h

pub else_is_the_nearest : ElseIsTheNearest
else_is_the_nearest spot inner c d s r ts rest h = crossed h refl

-- ---- operators

its_level : (p : Punctuator) (x : ℕ × BinaryOperator) → binary_operator p ≡ Some x → level_of x.1 ≡ x.0
unfolding binary_operator
its_level punctuator.Star x e = subst (λ (y : ℕ × BinaryOperator). level_of y.1 ≡ y.0) (some_same e) refl
its_level punctuator.Slash x e = subst (λ (y : ℕ × BinaryOperator). level_of y.1 ≡ y.0) (some_same e) refl
its_level punctuator.Percent x e = subst (λ (y : ℕ × BinaryOperator). level_of y.1 ≡ y.0) (some_same e) refl
its_level punctuator.Plus x e = subst (λ (y : ℕ × BinaryOperator). level_of y.1 ≡ y.0) (some_same e) refl
its_level punctuator.Minus x e = subst (λ (y : ℕ × BinaryOperator). level_of y.1 ≡ y.0) (some_same e) refl
its_level punctuator.ShiftLeft x e = subst (λ (y : ℕ × BinaryOperator). level_of y.1 ≡ y.0) (some_same e) refl
its_level punctuator.ShiftRight x e = subst (λ (y : ℕ × BinaryOperator). level_of y.1 ≡ y.0) (some_same e) refl
its_level punctuator.Less x e = subst (λ (y : ℕ × BinaryOperator). level_of y.1 ≡ y.0) (some_same e) refl
its_level punctuator.Greater x e = subst (λ (y : ℕ × BinaryOperator). level_of y.1 ≡ y.0) (some_same e) refl
its_level punctuator.LessEqual x e = subst (λ (y : ℕ × BinaryOperator). level_of y.1 ≡ y.0) (some_same e) refl
its_level punctuator.GreaterEqual x e = subst (λ (y : ℕ × BinaryOperator). level_of y.1 ≡ y.0) (some_same e) refl
its_level punctuator.EqualEqual x e = subst (λ (y : ℕ × BinaryOperator). level_of y.1 ≡ y.0) (some_same e) refl
its_level punctuator.NotEqual x e = subst (λ (y : ℕ × BinaryOperator). level_of y.1 ≡ y.0) (some_same e) refl
its_level punctuator.Ampersand x e = subst (λ (y : ℕ × BinaryOperator). level_of y.1 ≡ y.0) (some_same e) refl
its_level punctuator.Caret x e = subst (λ (y : ℕ × BinaryOperator). level_of y.1 ≡ y.0) (some_same e) refl
its_level punctuator.Bar x e = subst (λ (y : ℕ × BinaryOperator). level_of y.1 ≡ y.0) (some_same e) refl
its_level punctuator.AndAnd x e = subst (λ (y : ℕ × BinaryOperator). level_of y.1 ≡ y.0) (some_same e) refl
its_level punctuator.OrOr x e = subst (λ (y : ℕ × BinaryOperator). level_of y.1 ≡ y.0) (some_same e) refl
its_level p x e = never e

primary_top : {e : ExpressionTree} {ts rest : List Lexeme} → IsPrimary e ts rest → top_level e ≡ 0
primary_top (expression.name k) = refl
primary_top (expression.constant k) = refl
primary_top (expression.literals l) = refl
primary_top (expression.parenthesized o e c) = refl

postfix_top : {e : ExpressionTree} {ts rest : List Lexeme} → IsPostfix e ts rest → top_level e ≡ 0
postfix_top (expression.primary p) = primary_top p
postfix_top (expression.index e o i c) = refl
postfix_top (expression.call e o a c) = refl
postfix_top (expression.call_of_none e o c) = refl
postfix_top (expression.post_increment e k) = refl
postfix_top (expression.post_decrement e k) = refl

unary_top : {e : ExpressionTree} {ts rest : List Lexeme} → IsUnary e ts rest → top_level e ≡ 0
unary_top (expression.postfix e) = postfix_top e
unary_top (expression.increment k e) = refl
unary_top (expression.decrement k e) = refl
unary_top (expression.operator k o e) = refl
unary_top (expression.size_of_expression k e) = refl
unary_top (expression.size_of_type k o s n c) = refl
unary_top (expression.size_of_array k o s n b e d c) = refl

cast_top : {e : ExpressionTree} {ts rest : List Lexeme} → IsCast e ts rest → top_level e ≡ 0
cast_top (expression.unary e) = unary_top e
cast_top (expression.cast o n c e) = refl

level_top : {level : ℕ} {e : ExpressionTree} {ts rest : List Lexeme} → IsLevel level e ts rest → top_level e ≤ level
level_top (expression.lowest e) = let z = cast_top e in omega (arith, z)
level_top (expression.below e) = let z = level_top e in omega (arith, z)
level_top (expression.operation {level = level} {p = p} {o = o} a k i b) = let z : level_of o ≡ suc level = its_level p (suc level, o) i in omega (arith, z)

-- the levels of the operators of an operation and of its operands
abbrev Associates : ExpressionTree → Type 0
Associates (Binary o left right) = (top_level left ≤ level_of o) × (top_level right < level_of o)
Associates e = Unit {0}

pub associate_to_the_left : AssociateToTheLeft
associate_to_the_left level o left right ts rest h = by h
  where
    not_operation : {e : ExpressionTree} {us more : List Lexeme} → IsCast e us more → Associates e
    not_operation (expression.unary (expression.postfix (expression.primary (expression.name k)))) = tt
    not_operation (expression.unary (expression.postfix (expression.primary (expression.constant k)))) = tt
    not_operation (expression.unary (expression.postfix (expression.primary (expression.literals l)))) = tt
    not_operation (expression.unary (expression.postfix (expression.primary (expression.parenthesized p e c)))) = tt
    not_operation (expression.unary (expression.postfix (expression.index e p i c))) = tt
    not_operation (expression.unary (expression.postfix (expression.call e p a c))) = tt
    not_operation (expression.unary (expression.postfix (expression.call_of_none e p c))) = tt
    not_operation (expression.unary (expression.postfix (expression.post_increment e k))) = tt
    not_operation (expression.unary (expression.postfix (expression.post_decrement e k))) = tt
    not_operation (expression.unary (expression.increment k e)) = tt
    not_operation (expression.unary (expression.decrement k e)) = tt
    not_operation (expression.unary (expression.operator k p e)) = tt
    not_operation (expression.unary (expression.size_of_expression k e)) = tt
    not_operation (expression.unary (expression.size_of_type k p s n c)) = tt
    not_operation (expression.unary (expression.size_of_array k p s n b e d c)) = tt
    not_operation (expression.cast p n c e) = tt

    by : {l : ℕ} {e : ExpressionTree} {us more : List Lexeme} → IsLevel l e us more → Associates e
    by (expression.lowest e) = not_operation e
    by (expression.below e) = by e
    by (expression.operation {level = level} {p = p} {o = q} a k i b) =
        let z : level_of q ≡ suc level = its_level p (suc level, q) i in
        let x = level_top a in
        let y = level_top b in (omega (arith, z, x), omega (arith, z, y))
