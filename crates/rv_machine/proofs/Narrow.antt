-- Bytes and halfwords in bytes: what was written is read, and what lies elsewhere stays.
use Rattle.std.proofs.Common.{◌≡◌, ◌≢◌, ℕ, ◌+◌, ◌%◌, ◌<◌, ◌≤◌, ◌⊎◌, ⊎_elim, ◌∙◌, arith, List, length}
use Rattle.std.specs.Prelude.{slice_index}
use Rattle.std.proofs.lemmas.List.{get_or-set_same, get_or-set_other}
use Rattle.rv_machine.specs.Memory.{byte_in, with_byte, with_half}

-- ---- Bytes

-- The byte that was written.
pub byte_in_with_byte : (xs : List ℕ) (i v : ℕ) → i < length xs → byte_in (with_byte xs i v) i ≡ v % 256
byte_in_with_byte xs i v lt = get_or-set_same xs i (v % 256) 0 lt

-- Another byte.
pub byte_in_other : (xs : List ℕ) (i j v : ℕ) → j ≢ i → byte_in (with_byte xs i v) j ≡ byte_in xs j
byte_in_other xs i j v apart = get_or-set_other xs i j (v % 256) 0 apart

-- ---- Halfwords

-- A byte that is none of the two.
pub byte_in_with_half_other : (xs : List ℕ) (i j v : ℕ) → (j < i) ⊎ (i + 2 ≤ j) → slice_index (with_half xs i v) j ≡ slice_index xs j
unfolding with_half
byte_in_with_half_other xs i j v apart =
    get_or-set_other _ (i + 1) j _ 0 (λ e. ⊎_elim (λ (h : j < i). omega arith) (λ (h : i + 2 ≤ j). omega arith) apart)
    ∙ get_or-set_other xs i j _ 0 (λ e. ⊎_elim (λ (h : j < i). omega arith) (λ (h : i + 2 ≤ j). omega arith) apart)
