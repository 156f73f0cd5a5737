-- What stands at the front of sound tokens, and the tokens behind it.
use Rattle.std.proofs.Common.{ℕ, zero, suc, ◌+◌, Bool, ◌&&◌, List, [], ◌∷◌, ◌++◌, Option, Some, None, Result, Ok, Err}
use Rattle.std.specs.Prelude.{nat_eq}
use Rattle.std.specs.Option.{option_map_or}
use Rattle.c_token.specs.Lexemes.{Lexeme}
use Rattle.c_tree.specs.declared.operator.BinaryOperator.{BinaryOperator}
use Rattle.c_parse_tokens.specs.declared.fault.Stuck.{Stuck}
use Rattle.c_parse_tokens.specs.declared.mark.Mark.{Mark}
use Rattle.c_parse_tokens.specs.declared.mark.Mark.TheVariants as mark
use Rattle.c_parse_tokens.specs.declared.specifier.Place.{Place}
use Rattle.c_parse_tokens.specs.declared.specifier.SpecifierList.{SpecifierList}
use Rattle.c_parse_tokens.specs.Outcome.{Parser, ◌>>=◌}
use Rattle.c_parse_tokens.specs.Front.{stuck, is, tokens_behind, want, spot_at, one_less, separated}
use Rattle.c_parse_tokens.specs.Operators.{punctuator_of, binary_operator, operator_at, assignment_operator, assignment_at}
use Rattle.c_parse_tokens.specs.Specifiers.{no_specifiers, is_type, with_specifier, keyword_of_word, ended, specifiers_from, specifiers, is_parenthesis, names_type, type_behind, is_star, stars_from, stars}
use Rattle.c_source.specs.Tokens.{AreSound}
use Rattle.c_source.specs.Standing.{Stand, none, passed, told, Shape, Found, plain, spots_of_many, AreAllFormed, many}
use Rattle.c_source.proofs.Bytes.{by_test, by_option}
use Rattle.c_source.proofs.Standing.{trail, silent, next, Leads, LeadsTo, option_next, one_more, formed_on}

pub behind_leads : (m : Mark) (ts : List Lexeme) → AreSound ts → Leads ts (tokens_behind m ts)
unfolding tokens_behind
behind_leads m [] h = tt
behind_leads m (t ∷ ts) h = by_test (Leads (t ∷ ts)) (is m t.kind) _ _ (λ _. (told t none, h.1)) (λ _. tt)

pub type_leads : (ts : List Lexeme) → AreSound ts → Leads ts (type_behind ts)
unfolding type_behind
type_leads [] h = tt
type_leads (t ∷ ts) h = by_test (Leads (t ∷ ts)) (is_parenthesis t.kind && names_type ts) _ _ (λ _. (told t none, h.1)) (λ _. tt)

pub want_next : {B : Type 0} (T : Shape B) (m : Mark) (ts whole : List Lexeme) (f : List Lexeme → Result (B × List Lexeme) Stuck) → AreSound ts
    → ((rest : List Lexeme) → Stand (spot_at ts ∷ []) ts rest → AreSound rest → Found T whole (f rest)) → Found T whole (want m ts >>= f)
unfolding want
want_next T m ts whole f h k = by (tokens_behind m ts) (behind_leads m ts h)
  where
    by : (o : Option (List Lexeme)) → Leads ts o → Found T whole (option_map_or (λ rest. Ok rest) o (Err (stuck ts)) >>= f)
    by None l = tt
    by (Some rest) l = k rest l.0 l.1

pub less_next : {B : Type 0} (T : Shape B) (depth : ℕ) (is_taken : Bool) (ts whole : List Lexeme) (f : ℕ → Result (B × List Lexeme) Stuck)
    → ((less : ℕ) → Found T whole (f less)) → Found T whole (one_less depth is_taken ts >>= f)
less_next T zero is_taken ts whole f k = tt
less_next T (suc depth) is_taken ts whole f k = k depth

-- ---- operators

pub operator_leads : (level : ℕ) (ts : List Lexeme) → AreSound ts → LeadsTo ts (operator_at level ts)
unfolding operator_at
operator_leads level [] h = tt
operator_leads level (t ∷ ts) h =
    by_option P _ (punctuator_of t.kind) _ (λ p _. by_option P _ (binary_operator p) _ (λ o _. by_test P (nat_eq o.0 level) _ _ (λ _. (passed t none, h.1)) (λ _. tt)) tt) tt
  where
    P : Option (BinaryOperator × List Lexeme) → Type 0
    P o = LeadsTo (t ∷ ts) o

pub assignment_leads : (ts : List Lexeme) → AreSound ts → LeadsTo ts (assignment_at ts)
unfolding assignment_at
assignment_leads [] h = tt
assignment_leads (t ∷ ts) h = by_option (LeadsTo (t ∷ ts)) _ (punctuator_of t.kind) _ (λ p _. by_option (LeadsTo (t ∷ ts)) _ (assignment_operator p) _ (λ o _. (passed t none, h.1)) tt) tt

-- ---- specifiers

ended_found : (found : SpecifierList) (ts whole : List Lexeme) → Stand [] whole ts → AreSound ts → Found plain whole (ended found ts)
ended_found found ts whole s h = by_test (Found plain whole) (is_type found) _ _ (λ _. (s, tt, h)) (λ _. tt)

from_found : (p : Place) (found : SpecifierList) (ts whole : List Lexeme) → Stand [] whole ts → AreSound ts → Found plain whole (specifiers_from p found ts)
from_found p found [] whole s h = ended_found found [] whole s h
from_found p found (t ∷ ts) whole s h =
    by_option P _ (keyword_of_word t.kind) _ (λ k _. by_option P _ (with_specifier p k found) _ (λ more _. from_found p more ts whole (trail s (passed t none)) h.1) tt) (ended_found found (t ∷ ts) whole s h)
  where
    P : Result (SpecifierList × List Lexeme) Stuck → Type 0
    P r = Found plain whole r

pub specifiers_found : (p : Place) (ts : List Lexeme) → AreSound ts → Found plain ts (specifiers p ts)
unfolding specifiers
specifiers_found p ts h = from_found p no_specifiers ts ts none h

-- tokens are passed
abbrev pub Passes : List Lexeme → List Lexeme → Type 0
Passes ts rest = Stand [] ts rest × AreSound rest

from_passes : (count : ℕ) (ts whole : List Lexeme) → Stand [] whole ts → AreSound ts → Passes whole (stars_from count ts).1
from_passes count [] whole s h = (s, h)
from_passes count (t ∷ ts) whole s h =
    by_test (λ (x : ℕ × List Lexeme). Passes whole x.1) (is_star t.kind) _ _ (λ _. from_passes (count + 1) ts whole (trail s (passed t none)) h.1) (λ _. (s, h))

pub stars_pass : (ts : List Lexeme) → AreSound ts → Passes ts (stars ts).1
unfolding stars
stars_pass ts h = from_passes 0 ts ts none h

-- ---- items with commas between them

pub separated_found : {A : Type 0} (S : Shape A) (n : ℕ) (item : Parser A) → ((ts : List Lexeme) → AreSound ts → Found S ts (item ts))
    → (done : List A) (ts whole : List Lexeme) → Stand (spots_of_many S done) whole ts → AreAllFormed S done → AreSound ts → Found (many S) whole (separated n item done ts)
separated_found S zero item good done ts whole s f h = (s, f, h)
separated_found S (suc n) item good done ts whole s f h =
    option_next (many S) ts whole (tokens_behind mark.Comma ts) _ _ (behind_leads mark.Comma ts h)
    (λ after r g. next S (many S) after whole (item after) _ (good after g)
    (λ x q fx gx. separated_found S n item good (done ++ x.0 ∷ []) x.1 whole (one_more S done x.0 whole after x.1 (trail s (silent r)) q) (formed_on S done x.0 f fx) gx))
    (s, f, h)
