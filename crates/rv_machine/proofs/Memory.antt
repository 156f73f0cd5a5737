-- Words in bytes: what was written is read, and other words stay.
use Rattle.std.proofs.Common.{◌≡◌, ℕ, ◌+◌, ◌/◌, ◌%◌, ◌<◌, ◌≤◌, ◌⊎◌, ⊎_elim, ◌∙◌, arith, List, length}
use Rattle.std.specs.Prelude.{slice_index, slice_set}
use Rattle.std.proofs.Math.ListN.{length-set}
use Rattle.std.proofs.lemmas.List.{get_or-set_same, get_or-set_other}
use Rattle.rv_machine.specs.Memory.{with_word}

pub length_with_word : (xs : List ℕ) (i v : ℕ) → length (with_word xs i v) ≡ length xs
unfolding with_word
length_with_word xs i v =
    length-set _ (i + 3) (v / 16777216 % 256) ∙ length-set _ (i + 2) (v / 65536 % 256) ∙ length-set _ (i + 1) (v / 256 % 256) ∙ length-set xs i (v % 256)

-- a byte that is none of the four stays
pub byte_other : (xs : List ℕ) (i j v : ℕ) → (j < i) ⊎ (i + 4 ≤ j) → slice_index (with_word xs i v) j ≡ slice_index xs j
unfolding with_word
byte_other xs i j v apart =
    get_or-set_other _ (i + 3) j _ 0 (λ e. ⊎_elim (λ (h : j < i). omega arith) (λ (h : i + 4 ≤ j). omega arith) apart)
    ∙ get_or-set_other _ (i + 2) j _ 0 (λ e. ⊎_elim (λ (h : j < i). omega arith) (λ (h : i + 4 ≤ j). omega arith) apart)
    ∙ get_or-set_other _ (i + 1) j _ 0 (λ e. ⊎_elim (λ (h : j < i). omega arith) (λ (h : i + 4 ≤ j). omega arith) apart)
    ∙ get_or-set_other xs i j _ 0 (λ e. ⊎_elim (λ (h : j < i). omega arith) (λ (h : i + 4 ≤ j). omega arith) apart)

-- the four bytes of a word that was written
pub written_bytes : (xs : List ℕ) (i v : ℕ) → i + 3 < length xs →
    (slice_index (with_word xs i v) i ≡ v % 256) × (slice_index (with_word xs i v) (i + 1) ≡ v / 256 % 256)
    × (slice_index (with_word xs i v) (i + 2) ≡ v / 65536 % 256) × (slice_index (with_word xs i v) (i + 3) ≡ v / 16777216 % 256)
unfolding with_word
written_bytes xs i v lt =
    let l0 = length-set xs i (v % 256) in
    let l1 = length-set (slice_set xs i (v % 256)) (i + 1) (v / 256 % 256) in
    let l2 = length-set (slice_set (slice_set xs i (v % 256)) (i + 1) (v / 256 % 256)) (i + 2) (v / 65536 % 256) in (
      get_or-set_other _ (i + 3) i _ 0 (λ e. omega arith) ∙ get_or-set_other _ (i + 2) i _ 0 (λ e. omega arith) ∙ get_or-set_other _ (i + 1) i _ 0 (λ e. omega arith) ∙ get_or-set_same xs i _ 0 (omega arith),
      get_or-set_other _ (i + 3) (i + 1) _ 0 (λ e. omega arith) ∙ get_or-set_other _ (i + 2) (i + 1) _ 0 (λ e. omega arith) ∙ get_or-set_same _ (i + 1) _ 0 (omega arith),
      get_or-set_other _ (i + 3) (i + 2) _ 0 (λ e. omega arith) ∙ get_or-set_same _ (i + 2) _ 0 (omega arith),
      get_or-set_same _ (i + 3) _ 0 (omega arith),
    )
