-- The longest front of a text whose bytes all pass.
use Rattle.std.proofs.Common.{◌≡◌, ℕ, zero, suc, ◌+◌, ◌<◌, get_or, Bool, true, false, cond, List, [], ◌∷◌, length, take, drop, refl, arith}
use Rattle.std.specs.List.{list_all, prefix_len}
pub use Rattle.base_laws.proofs.Booleans.{and_left, and_right}

-- what passes makes a front of at least one byte
pub some_front : (p : ℕ → Bool) (text : List ℕ) (at : ℕ) → at < length text → p (get_or text at 0) ≡ true → 0 < prefix_len p (drop at text)
some_front p [] at lt h = absurd (omega arith)
some_front p (b ∷ text) zero lt h = rw h (omega arith)
some_front p (b ∷ text) (suc at) lt h = some_front p text at (omega arith) h

-- the longest front that passes passes
pub all_of_prefix : (p : ℕ → Bool) (text : List ℕ) → list_all p (take (prefix_len p text) text) ≡ true
all_of_prefix p [] = refl
all_of_prefix p (b ∷ text) = by_test (p b) refl (all_of_prefix p text)
  where
    by_test : (t : Bool) → p b ≡ t → list_all p (take (prefix_len p text) text) ≡ true → list_all p (take (cond t (1 + prefix_len p text) 0) (b ∷ text)) ≡ true
    by_test true e behind = let next : 1 + prefix_len p text ≡ suc (prefix_len p text) = omega arith in rw (next, e) behind
    by_test false e behind = refl
