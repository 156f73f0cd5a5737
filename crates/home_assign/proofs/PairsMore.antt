-- What one pair more makes of a set of pairs.
use Rattle.std.proofs.Common.{◌≡◌, ℕ, ◌==◌, ◌&&◌, ◌||◌, cond, Bool, true, false, nat_cmp, ◌∙◌, refl}
use Rattle.std.specs.Ordering.{is_eq}
use Rattle.home_assign.specs.Pairs.{pair_cmp}
use Rattle.base_laws.proofs.Numbers.{is_eq-ordering_then as is_eq-then, same_number_again as same_number}

-- two pairs compare as equal where their numbers are equal
pub same_pair : (a b x y : ℕ) → is_eq (pair_cmp (a, b) (x, y)) ≡ ((a == x) && (b == y))
same_pair a b x y = is_eq-then (nat_cmp a x) (nat_cmp b y) ∙ rw (same_number a x, same_number b y) refl

pub cond_or : (b c : Bool) → cond b true c ≡ (c || b)
cond_or true true = refl
cond_or true false = refl
cond_or false true = refl
cond_or false false = refl
