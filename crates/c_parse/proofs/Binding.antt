-- How tightly the first token binds to an expression before it: a literal to literals, then the beginnings of suffixes, the operators by their levels,
-- `?`, what assigns, and the comma; all others do not.
use Rattle.std.proofs.Common.{◌≡◌, ℕ, zero, suc, ◌<◌, ◌≤◌, Bool, true, false, List, [], ◌∷◌, ◌++◌, Option, Some, None, Result, Ok, refl, sym, ap, ◌∙◌, subst, arith}
use Rattle.std.specs.Option.{option_map_or}
use Rattle.c_token.specs.declared.token.Keyword.{Keyword}
use Rattle.c_token.specs.declared.token.Punctuator.{Punctuator}
use Rattle.c_token.specs.declared.token.Punctuator.TheVariants as punctuator
use Rattle.c_token.specs.Lexemes.{Lexeme, Word}
use Rattle.c_token.specs.Lexemes as word
use Rattle.c_tree.specs.declared.operator.BinaryOperator.{BinaryOperator}
use Rattle.c_tree.specs.declared.operator.AssignmentOperator.{AssignmentOperator}
use Rattle.c_parse_tokens.specs.declared.fault.Stuck.{Stuck}
use Rattle.c_parse_tokens.specs.declared.mark.Mark.{Mark}
use Rattle.c_parse_tokens.specs.declared.mark.Mark.TheVariants as mark
use Rattle.c_parse_tokens.specs.Outcome.{Parser, ◌>>=◌}
use Rattle.c_parse_tokens.specs.Front.{is, is_at, tokens_behind, want, separated}
use Rattle.c_parse_tokens.specs.Operators.{binary_operator, operator_at, assignment_operator, assignment_at}
use Rattle.c_parse_expressions.specs.declared.expression.SuffixStart.{SuffixStart}
use Rattle.c_parse_expressions.specs.Expressions.{literal_of, literals_at_front, suffix_start, suffix_at}
use Rattle.c_parse.specs.Tokens.{IsPunctuator, IsKeyword}
use Rattle.c_parse.proofs.Words.{word_of, word_is, is_word, some_same, never, literal_there}
use Rattle.c_parse.proofs.SoundExpressions.{suffix_front, operator_front, assignment_front}

abbrev pub rank : Punctuator → ℕ
rank punctuator.OpenBracket = 1
rank punctuator.OpenParenthesis = 1
rank punctuator.Increment = 1
rank punctuator.Decrement = 1
rank punctuator.Star = 2
rank punctuator.Slash = 2
rank punctuator.Percent = 2
rank punctuator.Plus = 3
rank punctuator.Minus = 3
rank punctuator.ShiftLeft = 4
rank punctuator.ShiftRight = 4
rank punctuator.Less = 5
rank punctuator.Greater = 5
rank punctuator.LessEqual = 5
rank punctuator.GreaterEqual = 5
rank punctuator.EqualEqual = 6
rank punctuator.NotEqual = 6
rank punctuator.Ampersand = 7
rank punctuator.Caret = 8
rank punctuator.Bar = 9
rank punctuator.AndAnd = 10
rank punctuator.OrOr = 11
rank punctuator.Question = 12
rank punctuator.Equal = 13
rank punctuator.StarEqual = 13
rank punctuator.SlashEqual = 13
rank punctuator.PercentEqual = 13
rank punctuator.PlusEqual = 13
rank punctuator.MinusEqual = 13
rank punctuator.ShiftLeftEqual = 13
rank punctuator.ShiftRightEqual = 13
rank punctuator.AmpersandEqual = 13
rank punctuator.CaretEqual = 13
rank punctuator.BarEqual = 13
rank punctuator.Comma = 14
rank p = 15

abbrev pub binding : Word → ℕ
binding (word.Literal bytes) = 0
binding (word.Punctuator p) = rank p
binding w = 15

abbrev pub binding_at : List Lexeme → ℕ
binding_at [] = 15
binding_at (t ∷ ts) = binding t.kind

-- a punctuator that binds no tighter
pub loose : (t : Lexeme) (ts : List Lexeme) {p : Punctuator} (n : ℕ) → IsPunctuator p t → n < rank p → n < binding_at (t ∷ ts)
loose t ts {p} n k h = subst (λ (m : ℕ). n < m) (sym (ap binding k)) h

suffix_rank : (p : Punctuator) (s : SuffixStart) → suffix_start p ≡ Some s → rank p ≡ 1
unfolding suffix_start
suffix_rank punctuator.OpenBracket s e = refl
suffix_rank punctuator.OpenParenthesis s e = refl
suffix_rank punctuator.Increment s e = refl
suffix_rank punctuator.Decrement s e = refl
suffix_rank p s e = never e

pub operator_rank : (p : Punctuator) (x : ℕ × BinaryOperator) → binary_operator p ≡ Some x → rank p ≡ suc x.0
unfolding binary_operator
operator_rank punctuator.Star x e = ap (λ (y : ℕ × BinaryOperator). suc y.0) (some_same e)
operator_rank punctuator.Slash x e = ap (λ (y : ℕ × BinaryOperator). suc y.0) (some_same e)
operator_rank punctuator.Percent x e = ap (λ (y : ℕ × BinaryOperator). suc y.0) (some_same e)
operator_rank punctuator.Plus x e = ap (λ (y : ℕ × BinaryOperator). suc y.0) (some_same e)
operator_rank punctuator.Minus x e = ap (λ (y : ℕ × BinaryOperator). suc y.0) (some_same e)
operator_rank punctuator.ShiftLeft x e = ap (λ (y : ℕ × BinaryOperator). suc y.0) (some_same e)
operator_rank punctuator.ShiftRight x e = ap (λ (y : ℕ × BinaryOperator). suc y.0) (some_same e)
operator_rank punctuator.Less x e = ap (λ (y : ℕ × BinaryOperator). suc y.0) (some_same e)
operator_rank punctuator.Greater x e = ap (λ (y : ℕ × BinaryOperator). suc y.0) (some_same e)
operator_rank punctuator.LessEqual x e = ap (λ (y : ℕ × BinaryOperator). suc y.0) (some_same e)
operator_rank punctuator.GreaterEqual x e = ap (λ (y : ℕ × BinaryOperator). suc y.0) (some_same e)
operator_rank punctuator.EqualEqual x e = ap (λ (y : ℕ × BinaryOperator). suc y.0) (some_same e)
operator_rank punctuator.NotEqual x e = ap (λ (y : ℕ × BinaryOperator). suc y.0) (some_same e)
operator_rank punctuator.Ampersand x e = ap (λ (y : ℕ × BinaryOperator). suc y.0) (some_same e)
operator_rank punctuator.Caret x e = ap (λ (y : ℕ × BinaryOperator). suc y.0) (some_same e)
operator_rank punctuator.Bar x e = ap (λ (y : ℕ × BinaryOperator). suc y.0) (some_same e)
operator_rank punctuator.AndAnd x e = ap (λ (y : ℕ × BinaryOperator). suc y.0) (some_same e)
operator_rank punctuator.OrOr x e = ap (λ (y : ℕ × BinaryOperator). suc y.0) (some_same e)
operator_rank p x e = never e

pub assignment_rank : (p : Punctuator) (o : AssignmentOperator) → assignment_operator p ≡ Some o → rank p ≡ 13
unfolding assignment_operator
assignment_rank punctuator.Equal o e = refl
assignment_rank punctuator.StarEqual o e = refl
assignment_rank punctuator.SlashEqual o e = refl
assignment_rank punctuator.PercentEqual o e = refl
assignment_rank punctuator.PlusEqual o e = refl
assignment_rank punctuator.MinusEqual o e = refl
assignment_rank punctuator.ShiftLeftEqual o e = refl
assignment_rank punctuator.ShiftRightEqual o e = refl
assignment_rank punctuator.AmpersandEqual o e = refl
assignment_rank punctuator.CaretEqual o e = refl
assignment_rank punctuator.BarEqual o e = refl
assignment_rank p o e = never e

-- a token that binds so does not stand where none binds as tightly
too_tight : {A : Type 0} (t : Lexeme) {p : Punctuator} (n m : ℕ) → IsPunctuator p t → rank p ≡ m → m ≤ n → n < binding t.kind → A
too_tight t n m k r le h = let same : binding _ ≡ m = ap binding k ∙ r in absurd (omega (arith, same, le, h))

pub no_suffix : (ts : List Lexeme) → 1 < binding_at ts → suffix_at ts ≡ None
unfolding suffix_at
no_suffix [] h = refl
no_suffix (t ∷ ts) h = suffix_front t ts (λ (o : Option (SuffixStart × List Lexeme)). o ≡ None) (λ s p k e. too_tight t 1 1 k (suffix_rank p s e) (omega arith) h) refl

pub no_operator : (level : ℕ) (ts : List Lexeme) → suc level < binding_at ts → operator_at level ts ≡ None
unfolding operator_at
no_operator level [] h = refl
no_operator level (t ∷ ts) h =
    operator_front t ts level (λ (o : Option (BinaryOperator × List Lexeme)). o ≡ None) (λ o p k e. too_tight t (suc level) (suc level) k (operator_rank p (level, o) e) (omega arith) h) refl

pub no_assignment : (ts : List Lexeme) → 13 < binding_at ts → assignment_at ts ≡ None
unfolding assignment_at
no_assignment [] h = refl
no_assignment (t ∷ ts) h =
    assignment_front t ts (λ (o : Option (AssignmentOperator × List Lexeme)). o ≡ None) (λ o p k e. too_tight t 13 13 k (assignment_rank p o e) (omega arith) h) refl

pub no_mark : (m : Mark) (ts : List Lexeme) → is_at m ts ≡ false → tokens_behind m ts ≡ None
unfolding tokens_behind is_at
no_mark m [] h = refl
no_mark m (t ∷ ts) h = rw h refl

pub no_question : (ts : List Lexeme) → 12 < binding_at ts → tokens_behind mark.Question ts ≡ None
unfolding is_at
no_question ts h = no_mark mark.Question ts (by ts h)
  where
    not_it : (w : Word) → 12 < binding w → (b : Bool) → is mark.Question w ≡ b → b ≡ false
    not_it w g false e = refl
    not_it w g true e = let same : binding w ≡ 12 = ap binding (is_word mark.Question w e) in absurd (omega (arith, same, g))

    by : (l : List Lexeme) → 12 < binding_at l → is_at mark.Question l ≡ false
    by [] g = refl
    by (t ∷ l) g = not_it t.kind g (is mark.Question t.kind) refl

pub no_comma : (ts : List Lexeme) → 14 < binding_at ts → tokens_behind mark.Comma ts ≡ None
unfolding is_at
no_comma ts h = no_mark mark.Comma ts (by ts h)
  where
    not_it : (w : Word) → 14 < binding w → (b : Bool) → is mark.Comma w ≡ b → b ≡ false
    not_it w g false e = refl
    not_it w g true e = let same : binding w ≡ 14 = ap binding (is_word mark.Comma w e) in absurd (omega (arith, same, g))

    by : (l : List Lexeme) → 14 < binding_at l → is_at mark.Comma l ≡ false
    by [] g = refl
    by (t ∷ l) g = not_it t.kind g (is mark.Comma t.kind) refl

pub no_literal : (bytes : List ℕ) (ts : List Lexeme) → 0 < binding_at ts → literals_at_front bytes ts ≡ (bytes, ts)
no_literal bytes [] h = refl
no_literal bytes (t ∷ ts) h = by (literal_of t.kind) refl
  where
    by : (o : Option (List ℕ)) → literal_of t.kind ≡ o → option_map_or (λ part. literals_at_front (bytes ++ part) ts) o (bytes, t ∷ ts) ≡ (bytes, t ∷ ts)
    by None e = refl
    by (Some part) e = let same : binding t.kind ≡ 0 = ap binding (literal_there t.kind part e) in absurd (omega (arith, same, h))

-- ---- what is read, one behind the other

pub followed : {A B : Type 0} {r : Result A Stuck} {x : A} (f : A → Result B Stuck) {y : Result B Stuck} → r ≡ Ok x → f x ≡ y → (r >>= f) ≡ y
followed {A} {B} {r} {x} f {y} e g = subst (λ (q : Result A Stuck). (q >>= f) ≡ y) (sym e) g

pub there_is : {A B : Type 0} {o : Option A} {x : A} (f : A → B) (d : B) {y : B} → o ≡ Some x → f x ≡ y → option_map_or f o d ≡ y
there_is {A} {B} {o} {x} f d {y} e g = subst (λ (q : Option A). option_map_or f q d ≡ y) (sym e) g

pub there_is_none : {A B : Type 0} {o : Option A} (f : A → B) {d y : B} → o ≡ None → d ≡ y → option_map_or f o d ≡ y
there_is_none {A} {B} {o} f {d} {y} e g = subst (λ (q : Option A). option_map_or f q d ≡ y) (sym e) g

pub at_mark : (m : Mark) (t : Lexeme) → t.kind ≡ word_of m → is m t.kind ≡ true
at_mark m t k = ap (is m) k ∙ word_is m

pub behind_mark : (m : Mark) (t : Lexeme) (rest : List Lexeme) → t.kind ≡ word_of m → tokens_behind m (t ∷ rest) ≡ Some rest
unfolding tokens_behind
behind_mark m t rest k = let e = at_mark m t k in rw e refl

pub wanted : (m : Mark) (t : Lexeme) (rest : List Lexeme) → t.kind ≡ word_of m → want m (t ∷ rest) ≡ Ok rest
unfolding want
wanted m t rest k = there_is _ _ (behind_mark m t rest k) refl

-- an item more behind a comma
pub separated_step : {A : Type 0} (m : ℕ) (item : Parser A) (done : List A) (a : A) (t : Lexeme) (mid rest : List Lexeme) → IsPunctuator punctuator.Comma t → item mid ≡ Ok (a, rest)
    → separated (suc m) item done (t ∷ mid) ≡ separated m item (done ++ a ∷ []) rest
separated_step m item done a t mid rest k e = there_is _ _ (behind_mark mark.Comma t mid k) (followed _ e refl)

pub separated_end : {A : Type 0} (m : ℕ) (item : Parser A) (done : List A) (rest : List Lexeme) → 14 < binding_at rest → separated m item done rest ≡ Ok (done, rest)
separated_end zero item done rest h = refl
separated_end (suc m) item done rest h = there_is_none _ (no_comma rest h) refl
