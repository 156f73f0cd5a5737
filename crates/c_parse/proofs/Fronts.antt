-- With what tokens expressions and types begin.
use Rattle.std.proofs.Common.{◌≡◌, ℕ, suc, ◌+◌, Bool, true, false, ◌||◌, ◌⊎◌, inl, inr, List, [], ◌∷◌, ◌++◌, Option, Some, None, Ok, refl, sym, ap, ◌∙◌, subst, arith}
use Rattle.c_token.specs.declared.token.Keyword.{Keyword}
use Rattle.c_token.specs.declared.token.Keyword.TheVariants as keyword
use Rattle.c_token.specs.declared.token.Punctuator.{Punctuator}
use Rattle.c_token.specs.declared.token.Punctuator.TheVariants as punctuator
use Rattle.c_token.specs.Lexemes.{Lexeme, Word}
use Rattle.c_token.specs.Lexemes as word
use Rattle.c_tree.specs.declared.operator.PrefixOperator.{PrefixOperator}
use Rattle.c_tree.specs.Expressions.{ExpressionTree}
use Rattle.c_parse_tokens.specs.declared.mark.Mark.{Mark}
use Rattle.c_parse_tokens.specs.declared.mark.Mark.TheVariants as mark
use Rattle.c_parse_tokens.specs.declared.specifier.Place.{Place}
use Rattle.c_parse_tokens.specs.declared.specifier.Place.TheVariants as place
use Rattle.c_parse_tokens.specs.declared.specifier.SpecifierList.{SpecifierList}
use Rattle.c_parse_tokens.specs.Front.{is, is_at}
use Rattle.c_parse_tokens.specs.Operators.{prefix_operator, is_beginning, begins_expression}
use Rattle.c_parse_tokens.specs.Specifiers.{no_specifiers, is_type, unless, bars_static, with_static, with_void, with_specifier, keyword_of_word, specifiers_from, specifiers, is_void_word, is_type_word, begins_type, names_type, is_parenthesis, type_behind, is_star, stars_from, stars}
use Rattle.c_parse_expressions.specs.declared.expression.Sort.TheVariants as sort
use Rattle.c_parse_expressions.specs.Expressions.{Nesting, literals_at_front, literal_of, operand_of, unary_of, unary, postfix}
use Rattle.c_parse.specs.Tokens.{IsPunctuator, IsKeyword, AreLiterals, one, more}
use Rattle.c_parse.specs.Types.{AreSpecifiers, Specify, AreStars, no_star, star}
use Rattle.c_parse.specs.Types as types
use Rattle.c_parse.specs.Expressions.{IsUnaryOperator, IsPrimary, IsPostfix, IsUnary, IsCast, IsLevel, IsConditional, IsAssignment, IsExpression}
use Rattle.c_parse.specs.Expressions as grammar
use Rattle.c_parse.proofs.Words.{no, never}
use Rattle.c_parse.proofs.Binding.{there_is, there_is_none}

-- ---- literals

-- the first token is a literal, from which the others lead to these bytes and the rest
abbrev pub FirstLiteral : List Lexeme → List ℕ → List Lexeme → Type 0
FirstLiteral [] bytes rest = ⊥
FirstLiteral (t ∷ ts) bytes rest = (part : List ℕ) × (t.kind ≡ word.Literal part) × (literals_at_front part ts ≡ literals_at_front bytes rest)

pub literals_go : {bytes : List ℕ} {last : Lexeme} {ts rest : List Lexeme} → AreLiterals bytes last ts rest → FirstLiteral ts bytes rest
literals_go (one {bytes = bytes} k) = (bytes, k, refl)
literals_go (more {t = t} {bytes = bytes} {part = part} {ts = ts} {rest = rest} l k) = grow ts (literals_go l)
  where
    on : literals_at_front bytes (t ∷ rest) ≡ literals_at_front (bytes ++ part) rest
    on = there_is _ _ (ap literal_of k) refl

    grow : (whole : List Lexeme) → FirstLiteral whole bytes (t ∷ rest) → FirstLiteral whole (bytes ++ part) rest
    grow [] h = h
    grow (u ∷ us) h = (h.0, h.1, h.2 ∙ on)

-- ---- operators

pub operator_there : {o : PrefixOperator} {p : Punctuator} → IsUnaryOperator o p → prefix_operator p ≡ Some o
unfolding prefix_operator
operator_there grammar.address = refl
operator_there grammar.indirection = refl
operator_there grammar.plus = refl
operator_there grammar.minus = refl
operator_there grammar.complement = refl
operator_there grammar.not = refl

pub operand_cast : {o : PrefixOperator} {p : Punctuator} → IsUnaryOperator o p → operand_of o ≡ sort.Cast
operand_cast grammar.address = refl
operand_cast grammar.indirection = refl
operand_cast grammar.plus = refl
operand_cast grammar.minus = refl
operand_cast grammar.complement = refl
operand_cast grammar.not = refl

no_parenthesis : {o : PrefixOperator} {p : Punctuator} → IsUnaryOperator o p → is_parenthesis (word.Punctuator p) ≡ false
no_parenthesis grammar.address = refl
no_parenthesis grammar.indirection = refl
no_parenthesis grammar.plus = refl
no_parenthesis grammar.minus = refl
no_parenthesis grammar.complement = refl
no_parenthesis grammar.not = refl

operator_begins : {o : PrefixOperator} {p : Punctuator} → IsUnaryOperator o p → is_beginning (word.Punctuator p) ≡ true
unfolding prefix_operator
operator_begins grammar.address = refl
operator_begins grammar.indirection = refl
operator_begins grammar.plus = refl
operator_begins grammar.minus = refl
operator_begins grammar.complement = refl
operator_begins grammar.not = refl

-- ---- with what expressions begin

begins_literal : (ts : List Lexeme) (bytes : List ℕ) (rest : List Lexeme) → FirstLiteral ts bytes rest → begins_expression ts ≡ true
unfolding begins_expression
begins_literal [] bytes rest h = elim h [ ]
begins_literal (t ∷ ts) bytes rest h = ap is_beginning h.1

pub primary_begins : {e : ExpressionTree} {ts rest : List Lexeme} → IsPrimary e ts rest → begins_expression ts ≡ true
unfolding begins_expression
primary_begins (grammar.name k) = ap is_beginning k
primary_begins (grammar.constant k) = ap is_beginning k
primary_begins (grammar.literals {t = t} {bytes = bytes} {ts = ts} {rest = rest} l) = begins_literal (t ∷ ts) bytes rest (literals_go l)
primary_begins (grammar.parenthesized o e c) = ap is_beginning o

pub postfix_begins : {e : ExpressionTree} {ts rest : List Lexeme} → IsPostfix e ts rest → begins_expression ts ≡ true
postfix_begins (grammar.primary p) = primary_begins p
postfix_begins (grammar.index e o i c) = postfix_begins e
postfix_begins (grammar.call e o a c) = postfix_begins e
postfix_begins (grammar.call_of_none e o c) = postfix_begins e
postfix_begins (grammar.post_increment e k) = postfix_begins e
postfix_begins (grammar.post_decrement e k) = postfix_begins e

pub unary_begins : {e : ExpressionTree} {ts rest : List Lexeme} → IsUnary e ts rest → begins_expression ts ≡ true
unfolding begins_expression prefix_operator
unary_begins (grammar.postfix e) = postfix_begins e
unary_begins (grammar.increment k e) = ap is_beginning k
unary_begins (grammar.decrement k e) = ap is_beginning k
unary_begins (grammar.operator k o e) = ap is_beginning k ∙ operator_begins o
unary_begins (grammar.size_of_expression k e) = ap is_beginning k
unary_begins (grammar.size_of_type k o s n c) = ap is_beginning k
unary_begins (grammar.size_of_array k o s n b e d c) = ap is_beginning k

pub cast_begins : {e : ExpressionTree} {ts rest : List Lexeme} → IsCast e ts rest → begins_expression ts ≡ true
unfolding begins_expression
cast_begins (grammar.unary e) = unary_begins e
cast_begins (grammar.cast o n c e) = ap is_beginning o

pub level_begins : {level : ℕ} {e : ExpressionTree} {ts rest : List Lexeme} → IsLevel level e ts rest → begins_expression ts ≡ true
level_begins (grammar.lowest e) = cast_begins e
level_begins (grammar.below e) = level_begins e
level_begins (grammar.operation a k o b) = level_begins a

pub conditional_begins : {e : ExpressionTree} {ts rest : List Lexeme} → IsConditional e ts rest → begins_expression ts ≡ true
conditional_begins (grammar.level e) = level_begins e
conditional_begins (grammar.choice c q a k b) = level_begins c

pub assignment_begins : {e : ExpressionTree} {ts rest : List Lexeme} → IsAssignment e ts rest → begins_expression ts ≡ true
assignment_begins (grammar.conditional e) = conditional_begins e
assignment_begins (grammar.assigns a k o b) = conditional_begins a

pub expression_begins : {e : ExpressionTree} {ts rest : List Lexeme} → IsExpression e ts rest → begins_expression ts ≡ true
expression_begins (grammar.assignment e) = assignment_begins e
expression_begins (grammar.comma a k b) = expression_begins a

-- ---- an expression does not begin with a type

no_type_word : (w : Word) → is_beginning w ≡ true → is_void_word w || is_type_word w ≡ false
no_type_word (word.Keyword keyword.Sizeof) h = refl
no_type_word (word.Keyword k) h = no h
no_type_word w h = refl

pub no_type : (ts : List Lexeme) → begins_expression ts ≡ true → names_type ts ≡ false
unfolding begins_expression names_type
no_type [] h = refl
no_type (t ∷ ts) h = no_type_word t.kind h

untyped : (t : Lexeme) (ts : List Lexeme) → is_parenthesis t.kind ≡ false → type_behind (t ∷ ts) ≡ None
unfolding type_behind
untyped t ts h = rw h refl

untyped_literal : (ts : List Lexeme) (bytes : List ℕ) (rest : List Lexeme) → FirstLiteral ts bytes rest → type_behind ts ≡ None
untyped_literal [] bytes rest h = elim h [ ]
untyped_literal (t ∷ ts) bytes rest h = untyped t ts (ap is_parenthesis h.1)

primary_untyped : {e : ExpressionTree} {ts rest : List Lexeme} → IsPrimary e ts rest → type_behind ts ≡ None
unfolding type_behind
primary_untyped (grammar.name {t = t} {rest = rest} k) = untyped t rest (ap is_parenthesis k)
primary_untyped (grammar.constant {t = t} {rest = rest} k) = untyped t rest (ap is_parenthesis k)
primary_untyped (grammar.literals {t = t} {bytes = bytes} {ts = ts} {rest = rest} l) = untyped_literal (t ∷ ts) bytes rest (literals_go l)
primary_untyped (grammar.parenthesized {opening = t} {ts = ts} o e c) =
    let i : is_parenthesis t.kind ≡ true = ap is_parenthesis o in
    let n = no_type ts (expression_begins e) in rw (i, n) refl

postfix_untyped : {e : ExpressionTree} {ts rest : List Lexeme} → IsPostfix e ts rest → type_behind ts ≡ None
postfix_untyped (grammar.primary p) = primary_untyped p
postfix_untyped (grammar.index e o i c) = postfix_untyped e
postfix_untyped (grammar.call e o a c) = postfix_untyped e
postfix_untyped (grammar.call_of_none e o c) = postfix_untyped e
postfix_untyped (grammar.post_increment e k) = postfix_untyped e
postfix_untyped (grammar.post_decrement e k) = postfix_untyped e

pub unary_untyped : {e : ExpressionTree} {ts rest : List Lexeme} → IsUnary e ts rest → type_behind ts ≡ None
unary_untyped (grammar.postfix e) = postfix_untyped e
unary_untyped (grammar.increment {t = t} {ts = ts} k e) = untyped t ts (ap is_parenthesis k)
unary_untyped (grammar.decrement {t = t} {ts = ts} k e) = untyped t ts (ap is_parenthesis k)
unary_untyped (grammar.operator {t = t} {ts = ts} k o e) = untyped t ts (ap is_parenthesis k ∙ no_parenthesis o)
unary_untyped (grammar.size_of_expression {t = t} {ts = ts} k e) = untyped t ts (ap is_parenthesis k)
unary_untyped (grammar.size_of_type {t = t} {opening = u} {ts = ts} k o s n c) = untyped t (u ∷ ts) (ap is_parenthesis k)
unary_untyped (grammar.size_of_array {t = t} {opening = u} {ts = ts} k o s n b e d c) = untyped t (u ∷ ts) (ap is_parenthesis k)

-- ---- a postfix expression begins with no operator

postfix_literal : (nest : Nesting) (ts : List Lexeme) (bytes : List ℕ) (rest : List Lexeme) → FirstLiteral ts bytes rest → unary nest ts ≡ postfix nest ts
unfolding unary
postfix_literal nest [] bytes rest h = refl
postfix_literal nest (t ∷ ts) bytes rest h = subst (λ (w : Word). unary_of nest w t ts ≡ postfix nest (t ∷ ts)) (sym h.1) refl

primary_plain : (nest : Nesting) {e : ExpressionTree} {ts rest : List Lexeme} → IsPrimary e ts rest → unary nest ts ≡ postfix nest ts
unfolding unary prefix_operator
primary_plain nest (grammar.name {t = t} {rest = rest} k) = subst (λ (w : Word). unary_of nest w t rest ≡ postfix nest (t ∷ rest)) (sym k) refl
primary_plain nest (grammar.constant {t = t} {rest = rest} k) = subst (λ (w : Word). unary_of nest w t rest ≡ postfix nest (t ∷ rest)) (sym k) refl
primary_plain nest (grammar.literals {t = t} {bytes = bytes} {ts = ts} {rest = rest} l) = postfix_literal nest (t ∷ ts) bytes rest (literals_go l)
primary_plain nest (grammar.parenthesized {opening = t} {ts = ts} o e c) = subst (λ (w : Word). unary_of nest w t ts ≡ postfix nest (t ∷ ts)) (sym o) refl

pub postfix_plain : (nest : Nesting) {e : ExpressionTree} {ts rest : List Lexeme} → IsPostfix e ts rest → unary nest ts ≡ postfix nest ts
postfix_plain nest (grammar.primary p) = primary_plain nest p
postfix_plain nest (grammar.index e o i c) = postfix_plain nest e
postfix_plain nest (grammar.call e o a c) = postfix_plain nest e
postfix_plain nest (grammar.call_of_none e o c) = postfix_plain nest e
postfix_plain nest (grammar.post_increment e k) = postfix_plain nest e
postfix_plain nest (grammar.post_decrement e k) = postfix_plain nest e

-- ---- marks with which no expression begins

-- marks that end things, and the brace
abbrev pub is_end : Mark → Bool
is_end mark.CloseParenthesis = true
is_end mark.CloseBracket = true
is_end mark.CloseBrace = true
is_end mark.OpenBrace = true
is_end mark.Semicolon = true
is_end m = false

no_end_word : (m : Mark) (w : Word) → is_end m ≡ true → is m w ≡ true → is_beginning w ≡ false
unfolding prefix_operator
no_end_word mark.CloseParenthesis (word.Punctuator punctuator.CloseParenthesis) h e = refl
no_end_word mark.CloseBracket (word.Punctuator punctuator.CloseBracket) h e = refl
no_end_word mark.CloseBrace (word.Punctuator punctuator.CloseBrace) h e = refl
no_end_word mark.OpenBrace (word.Punctuator punctuator.OpenBrace) h e = refl
no_end_word mark.Semicolon (word.Punctuator punctuator.Semicolon) h e = refl
no_end_word mark.CloseParenthesis w h e = no e
no_end_word mark.CloseBracket w h e = no e
no_end_word mark.CloseBrace w h e = no e
no_end_word mark.OpenBrace w h e = no e
no_end_word mark.Semicolon w h e = no e
no_end_word m w h e = no h

pub no_end : (m : Mark) (ts : List Lexeme) → is_end m ≡ true → begins_expression ts ≡ true → is_at m ts ≡ false
unfolding begins_expression is_at
no_end m [] h g = refl
no_end m (t ∷ ts) h g = by (is m t.kind) refl
  where
    by : (b : Bool) → is m t.kind ≡ b → b ≡ false
    by false e = refl
    by true e = let z : false ≡ true = sym (no_end_word m t.kind h e) ∙ g in no z

-- ---- specifiers

-- the first token is no keyword
abbrev pub keyword_at : List Lexeme → Option Keyword
keyword_at [] = None
keyword_at (t ∷ ts) = keyword_of_word t.kind

all_found : (p : Place) (found : SpecifierList) (rest : List Lexeme) → is_type found ≡ true → keyword_at rest ≡ None → specifiers_from p found rest ≡ Ok (found, rest)
all_found p found [] h n = rw h refl
all_found p found (t ∷ ts) h n = there_is_none _ n (rw h refl)

specifiers_from_read : {p : Place} {before all : SpecifierList} {ts rest : List Lexeme} → AreSpecifiers p before all ts rest → is_type all ≡ true → keyword_at rest ≡ None → specifiers_from p before ts ≡ Ok (all, rest)
specifiers_from_read {p} {before} {all} {ts} {rest} types.none h n = all_found p all rest h n
specifiers_from_read (types.more k w s) h n = there_is _ _ (ap keyword_of_word k) (there_is _ _ w (specifiers_from_read s h n))

pub specifiers_read : {p : Place} {found : SpecifierList} {ts rest : List Lexeme} → Specify p found ts rest → keyword_at rest ≡ None → specifiers p ts ≡ Ok (found, rest)
unfolding specifiers
specifiers_read s n = specifiers_from_read s.words s.type n

-- the first token is a keyword with a property
abbrev pub FirstKeyword : List Lexeme → (Keyword → Type 0) → Type 0
FirstKeyword [] P = ⊥
FirstKeyword (t ∷ ts) P = (k : Keyword) × IsKeyword k t × P k

-- specifiers are those that stood before, or begin with a keyword that may stand behind them
abbrev pub Starts : Place → SpecifierList → SpecifierList → List Lexeme → Type 0
Starts p before all ts = (before ≡ all) ⊎ FirstKeyword ts (λ k. (found : SpecifierList) × (with_specifier p k before ≡ Some found))

pub starts : {p : Place} {before all : SpecifierList} {ts rest : List Lexeme} → AreSpecifiers p before all ts rest → Starts p before all ts
starts types.none = inl refl
starts (types.more {k = k} {with_this = found} e w s) = inr (k, e, (found, w))

-- a keyword with which specifiers begin, where `static` may not stand
first_word : (p : Place) (k : Keyword) (found : SpecifierList) → bars_static p ≡ true → with_specifier p k no_specifiers ≡ Some found → is_void_word (word.Keyword k) || is_type_word (word.Keyword k) ≡ true
unfolding with_specifier with_static
first_word p keyword.Static found b e =
    let none : unless (bars_static p) (record no_specifiers { is_static = true }) ≡ None = rw b refl in never (sym none ∙ e)
first_word p keyword.Void found b e = refl
first_word p keyword.Char found b e = refl
first_word p keyword.Short found b e = refl
first_word p keyword.Int found b e = refl
first_word p keyword.Long found b e = refl
first_word p keyword.Signed found b e = refl
first_word p keyword.Unsigned found b e = refl
first_word p k found b e = never e

-- the same for objects
first_type_word : (k : Keyword) (found : SpecifierList) → with_specifier place.Object k no_specifiers ≡ Some found → is_type_word (word.Keyword k) ≡ true
unfolding with_specifier with_static with_void is_type
first_type_word keyword.Char found e = refl
first_type_word keyword.Short found e = refl
first_type_word keyword.Int found e = refl
first_type_word keyword.Long found e = refl
first_type_word keyword.Signed found e = refl
first_type_word keyword.Unsigned found e = refl
first_type_word k found e = never e

pub no_words : {A : Type 0} {found : SpecifierList} → no_specifiers ≡ found → is_type found ≡ true → A
unfolding is_type
no_words e h = let z : false ≡ true = ap is_type e ∙ h in no z

pub begins_with_type : {p : Place} {found : SpecifierList} {ts rest : List Lexeme} → bars_static p ≡ true → Specify p found ts rest → names_type ts ≡ true
unfolding names_type
begins_with_type {p} {found} {ts} b s = by ts (starts s.words)
  where
    by : (l : List Lexeme) → Starts p no_specifiers found l → names_type l ≡ true
    by l (inl e) = no_words e s.type
    by [] (inr h) = elim h [ ]
    by (t ∷ l) (inr h) = ap (λ (w : Word). is_void_word w || is_type_word w) h.1 ∙ first_word p h.0 h.2.0 b h.2.1

pub begins_with_object : {found : SpecifierList} {ts rest : List Lexeme} → Specify place.Object found ts rest → begins_type ts ≡ true
unfolding begins_type
begins_with_object {found} {ts} s = by ts (starts s.words)
  where
    by : (l : List Lexeme) → Starts place.Object no_specifiers found l → begins_type l ≡ true
    by l (inl e) = no_words e s.type
    by [] (inr h) = elim h [ ]
    by (t ∷ l) (inr h) = ap is_type_word h.1 ∙ first_type_word h.0 h.2.0 h.2.1

-- ---- stars

-- a `*` stands at the front
abbrev pub star_at : List Lexeme → Bool
star_at [] = false
star_at (t ∷ ts) = is_star t.kind

no_more_stars : (count : ℕ) (rest : List Lexeme) → star_at rest ≡ false → stars_from count rest ≡ (count, rest)
no_more_stars count [] h = refl
no_more_stars count (t ∷ ts) h = rw h refl

stars_from_read : {n : ℕ} {ts rest : List Lexeme} → AreStars n ts rest → (count : ℕ) → star_at rest ≡ false → stars_from count ts ≡ (count + n, rest)
stars_from_read (no_star {rest}) count h = let e : count + 0 ≡ count = omega arith in rw e (no_more_stars count rest h)
stars_from_read (star {t = t} {count = n} {ts = ts} {rest = rest} k s) count h =
    let i : is_star t.kind ≡ true = ap is_star k in
    let e : count + suc n ≡ count + 1 + n = omega arith in rw (i, e) (stars_from_read s (count + 1) h)

pub stars_read : {n : ℕ} {ts rest : List Lexeme} → AreStars n ts rest → star_at rest ≡ false → stars ts ≡ (n, rest)
unfolding stars
stars_read {n} {ts} {rest} s h = let e : 0 + n ≡ n = omega arith in stars_from_read s 0 h ∙ ap (λ (m : ℕ). (m, rest)) e

-- stars are no keyword
pub stars_no_keyword : {n : ℕ} {ts rest : List Lexeme} → AreStars n ts rest → keyword_at rest ≡ None → keyword_at ts ≡ None
stars_no_keyword no_star h = h
stars_no_keyword (star k s) h = ap keyword_of_word k

pub punctuator_no_keyword : (t : Lexeme) (ts : List Lexeme) {p : Punctuator} → IsPunctuator p t → keyword_at (t ∷ ts) ≡ None
punctuator_no_keyword t ts k = ap keyword_of_word k
