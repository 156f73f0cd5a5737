-- The numbers from a first one on, as a loop that counts up meets them.
use Rattle.std.proofs.Common.{◌≡◌, ℕ, suc, ◌+◌, ◌-◌, ◌<◌, ◌≤◌, ◌∷◌, [], ◌++◌, List, ap, sym, ◌∙◌, append_assoc, arith}
use Rattle.c_places.specs.Places.{numbers_from}

-- the next of so many numbers
pub next_number : (least i count : ℕ) → i < count → numbers_from (least + i) (count - i) ≡ (least + i) ∷ numbers_from (least + (i + 1)) (count - (i + 1))
next_number least i count lt =
    let left : count - i ≡ suc (count - (i + 1)) = omega arith in
    let on : least + i + 1 ≡ least + (i + 1) = omega arith in
    rw left (ap (λ n. (least + i) ∷ numbers_from n (count - (i + 1))) on)

-- there is none behind the last
pub no_number : (least i count : ℕ) → count ≤ i → numbers_from (least + i) (count - i) ≡ []
no_number least i count le = let left : count - i ≡ 0 = omega arith in rw left

-- a list that the numbers from a number on complete is completed, with that number at its end, by those behind it
pub counted_on : (least i count : ℕ) (xs ys : List ℕ) → i < count → ys ≡ xs ++ (least + i) ∷ [] → xs ++ numbers_from (least + i) (count - i) ≡ numbers_from least count
    → ys ++ numbers_from (least + (i + 1)) (count - (i + 1)) ≡ numbers_from least count
counted_on least i count xs ys lt longer so_far =
    rw longer (append_assoc xs ((least + i) ∷ []) (numbers_from (least + (i + 1)) (count - (i + 1))) ∙ sym (ap (λ r. xs ++ r) (next_number least i count lt)) ∙ so_far)
