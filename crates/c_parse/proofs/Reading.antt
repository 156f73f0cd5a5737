-- What is read, and what is read behind it.
use Rattle.std.proofs.Common.{◌≡◌, ℕ, zero, suc, ◌+◌, Bool, true, false, cond, List, [], ◌∷◌, ◌++◌, Some, None, Result, Ok, Err, refl, sym, ◌∙◌, subst, arith}
use Rattle.std.specs.Option.{option_map_or}
use Rattle.c_token.specs.declared.token.Punctuator.TheVariants as punctuator
use Rattle.c_token.specs.Lexemes.{Lexeme}
use Rattle.c_parse_tokens.specs.declared.fault.Stuck.{Stuck}
use Rattle.c_parse_tokens.specs.declared.mark.Mark.{Mark}
use Rattle.c_parse_tokens.specs.declared.mark.Mark.TheVariants as mark
use Rattle.c_parse_tokens.specs.declared.specifier.Place.{Place}
use Rattle.c_parse_tokens.specs.declared.specifier.SpecifierList.{SpecifierList}
use Rattle.c_parse_tokens.specs.Outcome.{Parser, ◌>>=◌}
use Rattle.c_parse_tokens.specs.Front.{stuck, is, tokens_behind, want, separated}
use Rattle.c_parse_tokens.specs.Specifiers.{no_specifiers, is_type, with_specifier, keyword_of_word, ended, specifiers_from, specifiers, is_star, stars_from, stars}
use Rattle.c_parse.specs.Tokens.{Grammar, IsPunctuator}
use Rattle.c_parse.specs.Types.{AreSpecifiers, none, more, Specify, AreStars, no_star, star}
use Rattle.c_parse.proofs.Words.{word_of, is_word, keyword_there, star_there}
pub use Rattle.base_laws.proofs.Booleans.{by_test}
pub use Rattle.base_laws.proofs.Options.{by_option}

-- what is read is spelled by its tokens
abbrev pub Found : {A : Type 0} → Grammar A → List Lexeme → Result (A × List Lexeme) Stuck → Type 0
Found G ts (Ok x) = G x.0 ts x.1
Found G ts (Err stuck) = Unit {0}

-- ---- by cases

pub next : {A B : Type 0} (G : Grammar A) (H : Grammar B) (ts whole : List Lexeme) (r : Result (A × List Lexeme) Stuck) (f : A × List Lexeme → Result (B × List Lexeme) Stuck)
    → Found G ts r → ((x : A × List Lexeme) → G x.0 ts x.1 → Found H whole (f x)) → Found H whole (r >>= f)
next G H ts whole (Ok x) f h k = k x h
next G H ts whole (Err s) f h k = tt

-- the same, seen otherwise
pub seen : {A : Type 0} (G H : Grammar A) (ts whole : List Lexeme) (r : Result (A × List Lexeme) Stuck) → ((a : A) (rest : List Lexeme) → G a ts rest → H a whole rest) → Found G ts r → Found H whole r
seen G H ts whole (Ok x) f h = f x.0 x.1 h
seen G H ts whole (Err s) f h = tt

-- a mark has to stand at the front, of tokens of which something is known
pub want_next : {B : Type 0} (H : Grammar B) (m : Mark) (ts whole : List Lexeme) (f : List Lexeme → Result (B × List Lexeme) Stuck) (P : List Lexeme → Type 0) → P ts
    → ((t : Lexeme) (rest : List Lexeme) → t.kind ≡ word_of m → P (t ∷ rest) → Found H whole (f rest)) → Found H whole (want m ts >>= f)
unfolding want tokens_behind
want_next H m [] whole f P p k = tt
want_next {B} H m (t ∷ ts) whole f P p k = by (is m t.kind) refl
  where
    by : (b : Bool) → is m t.kind ≡ b → Found H whole (option_map_or (λ rest. Ok rest) (cond b (Some ts) None) (Err (stuck (t ∷ ts))) >>= f)
    by true e = k t ts (is_word m t.kind e) p
    by false e = tt

-- a mark may stand at the front, of tokens of which something is known
pub behind_next : {B : Type 0} (H : Grammar B) (m : Mark) (ts whole : List Lexeme) (f : List Lexeme → Result (B × List Lexeme) Stuck) (d : Result (B × List Lexeme) Stuck) (P : List Lexeme → Type 0) → P ts
    → ((t : Lexeme) (rest : List Lexeme) → t.kind ≡ word_of m → P (t ∷ rest) → Found H whole (f rest)) → Found H whole d → Found H whole (option_map_or f (tokens_behind m ts) d)
unfolding tokens_behind
behind_next H m [] whole f d P p k h = h
behind_next {B} H m (t ∷ ts) whole f d P p k h = by (is m t.kind) refl
  where
    by : (b : Bool) → is m t.kind ≡ b → Found H whole (option_map_or f (cond b (Some ts) None) d)
    by true e = k t ts (is_word m t.kind e) p
    by false e = h

-- items with commas between them, behind those that were read
pub separated_found : {A : Type 0} (G : Grammar A) (H : Grammar (List A)) (n : ℕ) (item : Parser A) → ((ts : List Lexeme) → Found G ts (item ts))
    → ((done : List A) (a : A) (whole : List Lexeme) (t : Lexeme) (mid rest : List Lexeme) → H done whole (t ∷ mid) → IsPunctuator punctuator.Comma t → G a mid rest → H (done ++ a ∷ []) whole rest)
    → (done : List A) (ts whole : List Lexeme) → H done whole ts → Found H whole (separated n item done ts)
separated_found G H zero item good grow done ts whole h = h
separated_found G H (suc n) item good grow done ts whole h =
    behind_next H mark.Comma ts whole _ _ (λ l. H done whole l) h
    (λ t mid k u. next G H mid whole (item mid) _ (good mid)
    (λ x g. separated_found G H n item good grow (done ++ x.0 ∷ []) x.1 whole (grow done x.0 whole t mid x.1 u k g)))
    h

-- ---- specifiers

-- specifiers behind those that were found, with a word of a type among them
abbrev Further : (p : Place) → SpecifierList → Grammar SpecifierList
Further p before found ts rest = AreSpecifiers p before found ts rest × (is_type found ≡ true)

ended_found : (p : Place) (found : SpecifierList) (ts : List Lexeme) → Found (Further p found) ts (ended found ts)
ended_found p found ts = by_test (Found (Further p found) ts) (is_type found) _ _ (λ e. (none, e)) (λ _. tt)

from_found : (p : Place) (found : SpecifierList) (ts : List Lexeme) → Found (Further p found) ts (specifiers_from p found ts)
from_found p found [] = ended_found p found []
from_found p found (t ∷ ts) =
    by_option P _ (keyword_of_word t.kind) _
    (λ k e. by_option P _ (with_specifier p k found) _
    (λ with_this i. seen (Further p with_this) (Further p found) ts (t ∷ ts) (specifiers_from p with_this ts) (λ all rest h. (more (keyword_there t.kind k e) i h.0, h.1)) (from_found p with_this ts))
    tt)
    (ended_found p found (t ∷ ts))
  where
    P : Result (SpecifierList × List Lexeme) Stuck → Type 0
    P r = Found (Further p found) (t ∷ ts) r

pub specifiers_found : (p : Place) (ts : List Lexeme) → Found (Specify p) ts (specifiers p ts)
unfolding specifiers
specifiers_found p ts = seen (Further p no_specifiers) (Specify p) ts ts (specifiers_from p no_specifiers ts) (λ all rest h. record { words = h.0; type = h.1 }) (from_found p no_specifiers ts)

-- ---- stars

-- so many `*` more than those counted
abbrev Counted : ℕ → List Lexeme → ℕ × List Lexeme → Type 0
Counted count ts x = (n : ℕ) × AreStars n ts x.1 × (x.0 ≡ count + n)

stars_counted : (count : ℕ) (ts : List Lexeme) → Counted count ts (stars_from count ts)
stars_counted count [] = (0, no_star, omega arith)
stars_counted count (t ∷ ts) =
    by_test (Counted count (t ∷ ts)) (is_star t.kind) _ _
    (λ e. let s = stars_counted (count + 1) ts in (suc s.0, star (star_there t.kind e) s.1, s.2 ∙ omega arith))
    (λ _. (0, no_star, omega arith))

pub stars_found : (ts : List Lexeme) → AreStars (stars ts).0 ts (stars ts).1
unfolding stars
stars_found ts = let s = stars_counted 0 ts in subst (λ (n : ℕ). AreStars n ts (stars_from 0 ts).1) (sym (s.2 ∙ omega arith)) s.1

-- ---- at the front of the whole

-- a mark has to stand at the front
pub want_first : {B : Type 0} (H : Grammar B) (m : Mark) (ts : List Lexeme) (f : List Lexeme → Result (B × List Lexeme) Stuck)
    → ((t : Lexeme) (rest : List Lexeme) → t.kind ≡ word_of m → Found H (t ∷ rest) (f rest)) → Found H ts (want m ts >>= f)
want_first {B} H m ts f k = want_next H m ts ts f (λ l. l ≡ ts) refl (λ t rest is same. subst (λ (l : List Lexeme). Found H l (f rest)) same (k t rest is))

-- a mark may stand at the front
pub behind_first : {B : Type 0} (H : Grammar B) (m : Mark) (ts : List Lexeme) (f : List Lexeme → Result (B × List Lexeme) Stuck) (d : Result (B × List Lexeme) Stuck)
    → ((t : Lexeme) (rest : List Lexeme) → t.kind ≡ word_of m → Found H (t ∷ rest) (f rest)) → Found H ts d → Found H ts (option_map_or f (tokens_behind m ts) d)
behind_first {B} H m ts f d k h = behind_next H m ts ts f d (λ l. l ≡ ts) refl (λ t rest is same. subst (λ (l : List Lexeme). Found H l (f rest)) same (k t rest is)) h

-- the same for any answer, of which an error says nothing
pub next_any : {A B : Type 0} (G : Grammar A) (T : Result B Stuck → Type 0) → ((s : Stuck) → T (Err s)) → (ts : List Lexeme) (r : Result (A × List Lexeme) Stuck) (f : A × List Lexeme → Result B Stuck)
    → Found G ts r → ((x : A × List Lexeme) → G x.0 ts x.1 → T (f x)) → T (r >>= f)
next_any G T e ts (Ok x) f h k = k x h
next_any G T e ts (Err s) f h k = e s

pub want_any : {B : Type 0} (T : Result B Stuck → Type 0) → ((s : Stuck) → T (Err s)) → (m : Mark) (ts : List Lexeme) (f : List Lexeme → Result B Stuck) (P : List Lexeme → Type 0) → P ts
    → ((t : Lexeme) (rest : List Lexeme) → t.kind ≡ word_of m → P (t ∷ rest) → T (f rest)) → T (want m ts >>= f)
unfolding want tokens_behind
want_any T e m [] f P p k = e _
want_any {B} T e m (t ∷ ts) f P p k = by (is m t.kind) refl
  where
    by : (b : Bool) → is m t.kind ≡ b → T (option_map_or (λ rest. Ok rest) (cond b (Some ts) None) (Err (stuck (t ∷ ts))) >>= f)
    by true i = k t ts (is_word m t.kind i) p
    by false i = e _
