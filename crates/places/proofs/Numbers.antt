-- The numbers of places as a search comes to them, and the places that it does not come to.
use Rattle.std.proofs.Common.{◌≡◌, ◌≢◌, ℕ, zero, suc, ◌+◌, ◌*◌, ◌<◌, ◌≤◌, ◌⊎◌, Bool, true, false, List, [], ◌∷◌, length, drop, take, get_or, refl, sym, ap, ◌∙◌, inl, inr, arith}
use Rattle.std.specs.Prelude.{◌||◌, ◌&&◌, ◌==◌}
use Rattle.std.proofs.Math.ListN.{set}
use Rattle.std.proofs.lemmas.Bool.Decides.{nat_tests}
use Rattle.std.proofs.lemmas.List.{get_or-set_same, get_or-set_other, get_or-take, length-set}
use Rattle.std.proofs.lemmas.Bool.{cases_eq, cases_lt}
use Rattle.places.specs.declared.flow.Assignment.{Assignment}
use Rattle.places.specs.Flow.{assigns}
use Rattle.places.specs.Search.{state_number}

-- two numbers are one only for one place, before or behind the place to go by
pub state_place : (p q : ℕ) (b c : Bool) → state_number p b ≡ state_number q c → p ≡ q
state_place p q true true e = omega arith
state_place p q true false e = absurd (omega arith)
state_place p q false true e = absurd (omega arith)
state_place p q false false e = omega arith

pub state_passed : (p q : ℕ) (b c : Bool) → state_number p b ≡ state_number q c → b ≡ c
state_passed p q true true e = refl
state_passed p q true false e = absurd (omega arith)
state_passed p q false true e = absurd (omega arith)
state_passed p q false false e = refl

pub state_below : (p n : ℕ) (b : Bool) → 2 * p + 1 < n → state_number p b < n
state_below p n true h = omega arith
state_below p n false h = omega arith

-- the flags of a place are set where an assignment before an index is of the place and the variable
abbrev pub AreBlockedTo : List Assignment → (var i : ℕ) → List Bool → Type 0
AreBlockedTo assignments var i flags =
    (place : ℕ) (passed : Bool) → state_number place passed < length flags
    → (get_or flags (state_number place passed) false || assigns (drop i assignments) place var) ≡ assigns assignments place var

-- the flags of a place are those of its number below an index
abbrev pub AreFlaggedTo : (given : List Bool) → (i : ℕ) → List Bool → Type 0
AreFlaggedTo given i flags =
    (place : ℕ) (passed : Bool) → state_number place passed < length flags → get_or flags (state_number place passed) false ≡ get_or (take i given) place false

-- the flags of the first so many numbers
past_taken : (xs : List Bool) (n p : ℕ) → n ≤ p → get_or (take n xs) p false ≡ false
past_taken [] zero p le = refl
past_taken [] (suc n) p le = refl
past_taken (x ∷ xs) zero p le = refl
past_taken (x ∷ xs) (suc n) zero le = absurd (omega (arith, le))
past_taken (x ∷ xs) (suc n) (suc p) le = past_taken xs n p (omega (arith, le))

taken_other : (xs : List Bool) (k p : ℕ) → p ≢ k → get_or (take (k + 1) xs) p false ≡ get_or (take k xs) p false
taken_other xs k p ne = elim (cases_lt p k) [
  | inl lt ↦ get_or-take (k + 1) xs p false (omega (arith, lt)) ∙ sym (get_or-take k xs p false lt)
  | inr le ↦ past_taken xs (k + 1) p (omega (arith, le, ne)) ∙ sym (past_taken xs k p le)
]

-- one place more
pub flagged_next : (given flags : List Bool) (k : ℕ) (b : Bool) → 2 * k + 1 < length flags → b ≡ get_or given k false → AreFlaggedTo given k flags → AreFlaggedTo given (k + 1) (set (set flags (2 * k) b) (2 * k + 1) b)
flagged_next given flags k b room is before place passed within = elim (cases_eq place k) [
  | inl same ↦ by_passed passed same
  | inr other ↦ get_or-set_other (set flags (2 * k) b) (2 * k + 1) (state_number place passed) b false (apart true other) ∙ get_or-set_other flags (2 * k) (state_number place passed) b false (apart false other)
      ∙ before place passed (omega (arith, within, lengths)) ∙ sym (taken_other given k place other)
]
  where
    lengths : length (set (set flags (2 * k) b) (2 * k + 1) b) ≡ length flags
    lengths = length-set (set flags (2 * k) b) (2 * k + 1) b ∙ length-set flags (2 * k) b

    apart : (c : Bool) → place ≢ k → state_number place passed ≢ state_number k c
    apart c other e = other (state_place place k passed c e)

    value : place ≡ k → b ≡ get_or (take (k + 1) given) place false
    value same = is ∙ sym (get_or-take (k + 1) given k false (omega arith)) ∙ ap (λ p. get_or (take (k + 1) given) p false) (sym same)

    by_passed : (c : Bool) → place ≡ k → get_or (set (set flags (2 * k) b) (2 * k + 1) b) (state_number place c) false ≡ get_or (take (k + 1) given) place false
    by_passed true same =
        ap (λ p. get_or (set (set flags (2 * k) b) (2 * k + 1) b) (2 * p + 1) false) same ∙ get_or-set_same (set flags (2 * k) b) (2 * k + 1) b false (omega (arith, room, length-set flags (2 * k) b)) ∙ value same
    by_passed false same =
        ap (λ p. get_or (set (set flags (2 * k) b) (2 * k + 1) b) (2 * p) false) same ∙ get_or-set_other (set flags (2 * k) b) (2 * k + 1) (2 * k) b false (λ e. omega (arith, e)) ∙ get_or-set_same flags (2 * k) b false (omega (arith, room)) ∙ value same
