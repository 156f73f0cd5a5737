-- Entries of places.
use Rattle.std.proofs.Common.{◌≡◌, ◌≢◌, inl, inr, ℕ, zero, suc, ◌+◌, ◌<◌, ◌≤◌, Bool, true, false, Option, Some, None, List, [], ◌∷◌, ◌++◌, length, refl, sym, ap, subst, ◌∙◌, arith, eqb-true, eq-eqb}
use Rattle.std.specs.Prelude.{slice_get, slice_set, IsSomeAnd, ◌==◌, ◌⊎◌, if◌then◌else◌}
use Rattle.std.proofs.lemmas.Bool.Decides.{eqb_tells}
use Rattle.std.proofs.lemmas.Option.{none-some, same_Some, slice_get_within}
use Rattle.currency_notes.proofs.Lists.{get_put_other, get_put_same}
use Rattle.currency_writers.specs.Entries.{AreUpTo, said_in}

-- what is none, and what is not
pub none_tells : {A : Type 0} (o : Option A) → (o ≡ None) ⊎ (o ≢ None)
none_tells None = inl refl
none_tells (Some a) = inr (λ e. none-some a (sym e))

pub some_not : {A : Type 0} (o : Option A) (a : A) → o ≡ Some a → o ≢ None
some_not o a is e = none-some a (sym e ∙ is)

-- what is something of which a fact is so
pub some_and : (o : Option ℕ) (P : ℕ → Type 0) → o ≢ None → ((n : ℕ) → o ≡ Some n → P n) → IsSomeAnd o P
some_and None P some every = absurd (some refl)
some_and (Some n) P some every = every n refl

pub and_some : (o : Option ℕ) (P : ℕ → Type 0) → IsSomeAnd o P → o ≢ None
and_some None P is e = is
and_some (Some n) P is e = none-some n (sym e)

-- an entry of an earlier round says nothing
past_none : {T : Type 0} (round : ℕ) (o : Option (ℕ × T)) → ((e : ℕ × T) → o ≡ Some e → e.0 < round) → said_in round o ≡ None
past_none round None past = refl
past_none {T} round (Some e) past = by_round (e.0 == round) refl
  where
    by_round : (b : Bool) → (e.0 == round) ≡ b → (if b then Some e.1 else None) ≡ None
    by_round true q = (let lt = past e refl in let same = eqb-true e.0 round q in absurd (omega (arith, lt, same)))
    by_round false q = refl

-- in a later round no entry says anything
pub none_later : {T : Type 0} (entries : List (ℕ × T)) (round later : ℕ) → AreUpTo round entries → round < later → (p : ℕ) → said_in later (slice_get entries p) ≡ None
none_later entries round later up lt p = past_none later (slice_get entries p) (λ e is. (let le = up p e is in omega (arith, le, lt)))

pub up_to_on : {T : Type 0} (entries : List (ℕ × T)) (round later : ℕ) → round ≤ later → AreUpTo round entries → AreUpTo later entries
up_to_on entries round later le up p e is = (let below = up p e is in omega (arith, below, le))

last_cases : {A : Type 0} (all : List A) (one z : A) (k : ℕ) → slice_get (all ++ (one ∷ [])) k ≡ Some z → (slice_get all k ≡ Some z) ⊎ (one ≡ z)
last_cases [] one z zero e = inr (same_Some one z e)
last_cases [] one z (suc k) e = absurd (none-some z e)
last_cases (x ∷ all) one z zero e = inl e
last_cases (x ∷ all) one z (suc k) e = last_cases all one z k e

-- one entry more
pub up_to_push : {T : Type 0} (entries : List (ℕ × T)) (value : T) → AreUpTo 0 entries → AreUpTo 0 (entries ++ ((0, value) ∷ []))
up_to_push {T} entries value up p e is = elim (last_cases entries (0, value) e p is) [
  | inl was ↦ up p e was
  | inr same ↦ (let none : 0 ≡ e.0 = ap (λ (x : ℕ × T). x.0) same in omega (arith, none))
]

-- so many entries are of no round
abbrev pub ArePast : {T : Type 0} → (count : ℕ) → List (ℕ × T) → Type 0
ArePast {T} count entries = (p : ℕ) (e : ℕ × T) → p < count → slice_get entries p ≡ Some e → e.0 ≤ 0

pub past_all : {T : Type 0} (entries : List (ℕ × T)) (count : ℕ) → length entries ≤ count → ArePast count entries → AreUpTo 0 entries
past_all entries count le past p e is = (let lt : p < length entries = slice_get_within entries p e is in past p e (omega (arith, lt, le)) is)

-- an entry is put
module _ {T : Type 0} (entries : List (ℕ × T)) (place : ℕ) (one : ℕ × T) (lt : place < length entries) where
  put_at : (p : ℕ) → p ≡ place → slice_get (slice_set entries place one) p ≡ Some one
  put_at p same = ap (λ j. slice_get (slice_set entries place one) j) same ∙ get_put_same entries place one lt

  pub up_to_put : (round : ℕ) → one.0 ≤ round → AreUpTo round entries → AreUpTo round (slice_set entries place one)
  up_to_put round le up p e is = elim (eqb_tells p place) [
    | inl same ↦ subst (λ (x : ℕ × T). x.0 ≤ round) (same_Some one e (sym (put_at p same.1) ∙ is)) le
    | inr other ↦ up p e (sym (get_put_other entries place one p other.1) ∙ is)
  ]

  -- the first entries are of no round
  pub cleared_more : one.0 ≤ 0 → ArePast place entries → ArePast (place + 1) (slice_set entries place one)
  cleared_more le before p e small is = elim (eqb_tells p place) [
    | inl same ↦ subst (λ (x : ℕ × T). x.0 ≤ 0) (same_Some one e (sym (put_at p same.1) ∙ is)) le
    | inr other ↦ (let differ = other.1 in before p e (omega (arith, small, differ)) (sym (get_put_other entries place one p other.1) ∙ is))
  ]

module _ {T : Type 0} (entries : List (ℕ × T)) (place round : ℕ) (value : T) (lt : place < length entries) where
  abbrev after : List (ℕ × T)
  after = slice_set entries place (round, value)

  pub put_there : said_in round (slice_get after place) ≡ Some value
  put_there = ap (said_in round) (get_put_same entries place (round, value) lt) ∙ ap (λ (b : Bool). if b then Some value else None) (eq-eqb round round refl)

  pub put_cases : (p : ℕ) → (said_in round (slice_get after p) ≡ said_in round (slice_get entries p)) ⊎ ((p ≡ place) × (said_in round (slice_get after p) ≡ Some value))
  put_cases p = elim (eqb_tells p place) [
    | inl same ↦ inr (same.1, ap (λ j. said_in round (slice_get after j)) same.1 ∙ put_there)
    | inr other ↦ inl (ap (said_in round) (get_put_other entries place (round, value) p other.1))
  ]
