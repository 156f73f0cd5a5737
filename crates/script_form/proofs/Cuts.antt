-- Lists cut at the elements that pass a test.
use Rattle.std.proofs.Common.{◌≡◌, ℕ, ◌+◌, ◌<◌, ◌≤◌, Bool, true, false, List, [], ◌∷◌, length, take, drop, Some, None, refl, sym, ap, ◌∙◌, subst, ⊎_elim, arith}
use Rattle.std.specs.Prelude.{position, if◌then◌else◌}
use Rattle.std.specs.List.{slice_split, onto_first, position_or_len, All}
use Rattle.std.proofs.lemmas.Bool.{cases_lt, lt-ltb, le-ltb}
use Rattle.std.proofs.lemmas.List.Elements.{All-from_get_or}
use Rattle.std.proofs.lemmas.List.Splits.{slice_split_first, slice_split_none}
use Rattle.std.proofs.lemmas.List.Sums.{fails_before_first}

-- The index of the first element that passes is how many stand before it.
pub position_is : (p : ℕ → Bool) (text : List ℕ) (end : ℕ) → position p text ≡ Some end → (position_or_len p text ≡ end) × (end < length text)
position_is p text end found = ⊎_elim
    (λ (inside : position_or_len p text < length text).
    let test = lt-ltb (position_or_len p text) (length text) inside in
    let some : Some (position_or_len p text) ≡ Some end = rw test at found in
    let same : position_or_len p text ≡ end = cc in
    (same, subst (λ k. k < length text) same inside))
    (λ (outside : length text ≤ position_or_len p text).
    let test = le-ltb (position_or_len p text) (length text) outside in
    let none : None ≡ Some end = rw test at found in
    cc)
    (cases_lt (position_or_len p text) (length text))

-- where there is none, no element passes
pub position_none : (p : ℕ → Bool) (text : List ℕ) → position p text ≡ None → All (λ x. p x ≡ false) text
position_none p text none = ⊎_elim
    (λ (inside : position_or_len p text < length text).
    let test = lt-ltb (position_or_len p text) (length text) inside in
    let some : Some (position_or_len p text) ≡ None = rw test at none in
    cc)
    (λ (outside : length text ≤ position_or_len p text).
    All-from_get_or (λ x. p x ≡ false) text 0 (λ i within. fails_before_first p text i 0 (omega arith)))
    (cases_lt (position_or_len p text) (length text))

-- the parts of a list that is cut at its first element that passes
pub parts_at : (p : ℕ → Bool) (text : List ℕ) (end : ℕ) → position p text ≡ Some end
    → slice_split p text ≡ take end text ∷ slice_split p (drop (end + 1) text)
parts_at p text end found =
    let there = position_is p text end found in
    let inside : position_or_len p text < length text = subst (λ k. k < length text) (sym there.0) there.1 in
    slice_split_first p text 0 inside ∙ ap (λ k. take k text ∷ slice_split p (drop (k + 1) text)) there.0

-- the parts of a list in which none passes
pub parts_whole : (p : ℕ → Bool) (text : List ℕ) → position p text ≡ None → slice_split p text ≡ text ∷ []
parts_whole p text none = slice_split_none p text (position_none p text none)

-- there is at least one part
pub record HasParts (parts : List (List ℕ)) : Type 0 where
  pub first : List ℕ
  pub others : List (List ℕ)
  pub whole : parts ≡ first ∷ others

onto_has_parts : (x : ℕ) (parts : List (List ℕ)) → HasParts (onto_first x parts)
onto_has_parts x [] = record { first = x ∷ []; others = []; whole = refl }
onto_has_parts x (part ∷ parts) = record { first = x ∷ part; others = parts; whole = refl }

cut_has_parts : (b : Bool) (x : ℕ) (parts : List (List ℕ)) → HasParts (if b then [] ∷ parts else onto_first x parts)
cut_has_parts true x parts = record { first = []; others = parts; whole = refl }
cut_has_parts false x parts = onto_has_parts x parts

pub has_parts : (p : ℕ → Bool) (text : List ℕ) → HasParts (slice_split p text)
has_parts p [] = record { first = []; others = []; whole = refl }
has_parts p (x ∷ text) = cut_has_parts (p x) x (slice_split p text)
