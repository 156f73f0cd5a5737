-- Sums over lists, and sums that stop at the greatest number.
use Rattle.std.proofs.Common.{◌≡◌, ◌≤◌, ℕ, ◌+◌, ◌-◌, ◌%◌, List, [], ◌∷◌, length, take, refl, ap, arith, ◌∙◌, sym}
use Rattle.std.specs.Prelude.{map, sum_by}
use Rattle.std.proofs.lemmas.List.{take_all}
use Rattle.std.proofs.lemmas.List.Sums.{sum_by-cons}
use Rattle.c_type_rules.specs.Integers.{room}
use Rattle.c_type_bounds.specs.Counts.{capped}

sum_map : {X Y : Type 0} (f : Y → ℕ) (g : X → Y) (xs : List X) → sum_by f (map g xs) ≡ sum_by (λ x. f (g x)) xs
sum_map f g [] = refl
sum_map f g (x ∷ xs) = sum_by-cons f (g x) (map g xs) ∙ ap (λ n. f (g x) + n) (sum_map f g xs) ∙ sym (sum_by-cons (λ y. f (g y)) x xs)

-- the sum so far, where it is of all
pub sum_whole : {X Y : Type 0} (f : Y → ℕ) (g : X → Y) (xs : List X) (i : ℕ) → length xs ≤ i → sum_by (λ x. f (g x)) (take i xs) ≡ sum_by f (map g xs)
sum_whole f g xs i all = ap (sum_by (λ x. f (g x))) (take_all i xs all) ∙ sym (sum_map f g xs)

-- rounded up in two parts
pub room_in_parts : (n : ℕ) → (n - n % 4611686018427387904) + room (n % 4611686018427387904) ≡ room n
room_in_parts n = omega arith

-- a sum that goes on
pub capped_more : (total n rest : ℕ) → capped (capped (total + n) + rest) ≡ capped (total + (n + rest))
capped_more total n rest = omega arith

pub capped_more_of : (total n rest : ℕ) → capped (capped (total + capped n) + rest) ≡ capped (total + (n + rest))
capped_more_of total n rest = omega arith
