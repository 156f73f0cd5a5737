-- The mask of registers, register after register.
use Rattle.std.proofs.Common.{◌≡◌, ℕ, zero, suc, ◌+◌, ◌^◌, ◌<◌, ◌≤◌, Bool, true, false, cond, List, [], ◌∷◌, ◌++◌, length, get_or, take, refl, ap, ◌∙◌, add-one, arith}
use Rattle.std.specs.Prelude.{filter}
use Rattle.std.specs.List.{AllByRecursion}
use Rattle.std.proofs.Math.Seq.{take-suc}
use Rattle.std.proofs.lemmas.List.Sums.{sum_by-cons}
use Rattle.image_form_sections.specs.Masks.{home_registers, is_in_mask, mask_of}

filter_more : (test : ℕ → Bool) (xs : List ℕ) (y : ℕ) → mask_of (filter test (xs ++ y ∷ [])) ≡ mask_of (filter test xs) + cond (test y) (2 ^ y) 0
filter_more test [] y = go (test y)
  where
    go : (b : Bool) → mask_of (cond b (y ∷ []) []) ≡ 0 + cond b (2 ^ y) 0
    go true = omega arith
    go false = refl
filter_more test (x ∷ xs) y = go (test x) (filter_more test xs y)
  where
    go : (b : Bool) → mask_of (filter test (xs ++ y ∷ [])) ≡ mask_of (filter test xs) + cond (test y) (2 ^ y) 0
        → mask_of (cond b (x ∷ filter test (xs ++ y ∷ [])) (filter test (xs ++ y ∷ []))) ≡ mask_of (cond b (x ∷ filter test xs) (filter test xs)) + cond (test y) (2 ^ y) 0
    go true later = omega (arith, later, sum_by-cons (λ (r : ℕ). 2 ^ r) x (filter test (xs ++ y ∷ [])), sum_by-cons (λ (r : ℕ). 2 ^ r) x (filter test xs))
    go false later = later

-- One register more.
pub mask_next : (mask i : ℕ) → i < 15
    → mask_of (filter (is_in_mask mask) (take (i + 1) home_registers)) ≡ mask_of (filter (is_in_mask mask) (take i home_registers)) + cond (is_in_mask mask (get_or home_registers i 0)) (2 ^ get_or home_registers i 0) 0
mask_next mask i low =
    let longer : take (i + 1) home_registers ≡ take i home_registers ++ get_or home_registers i 0 ∷ [] = rw add-one (take-suc home_registers i 0 low) in
    ap (λ (rs : List ℕ). mask_of (filter (is_in_mask mask) rs)) longer ∙ filter_more (is_in_mask mask) (take i home_registers) (get_or home_registers i 0)

at_all : (P : ℕ → Type 0) (xs : List ℕ) (i : ℕ) → AllByRecursion P xs → i < length xs → P (get_or xs i 0)
at_all P [] i all low = absurd (omega (arith, low))
at_all P (x ∷ xs) zero all low = all.0
at_all P (x ∷ xs) (suc i) all low = at_all P xs i all.1 (omega (arith, low))

-- The bit of a register that keeps scalars is a number of 32 bits.
pub bit_small : (i : ℕ) → i < 15 → 2 ^ get_or home_registers i 0 ≤ 2 ^ 32
bit_small i low = at_all (λ r. 2 ^ r ≤ 2 ^ 32) home_registers i bits low
  where
    bits : AllByRecursion (λ r. 2 ^ r ≤ 2 ^ 32) home_registers
    bits = (omega arith, (omega arith, (omega arith, (omega arith, (omega arith, (omega arith, (omega arith, (omega arith, (omega arith, (omega arith, (omega arith, (omega arith, (omega arith, (omega arith, (omega arith, tt)))))))))))))))
