-- Numbers in order.
use Rattle.std.specs.Prelude.{ℕ, ◌+◌, ◌==◌, ◌&&◌, nat_le, nat_lt, Bool, true, List, [], ◌∷◌}

-- each number is greater than the one before it, the first one than a number
abbrev pub ascends_behind : ℕ → List ℕ → Bool
ascends_behind last [] = true
ascends_behind last (next ∷ more) = nat_lt last next && ascends_behind next more

-- each number is greater than the one before it
abbrev pub ascends : List ℕ → Bool
ascends [] = true
ascends (first ∷ more) = ascends_behind first more

-- no number is less than the one before it, nor the first one than a number
abbrev pub never_falls : ℕ → List ℕ → Bool
never_falls last [] = true
never_falls last (next ∷ more) = nat_le last next && never_falls next more

-- the numbers from one on, each greater by one than the one before it
abbrev pub is_numbered : ℕ → List ℕ → Bool
is_numbered next [] = true
is_numbered next (number ∷ more) = number == next && is_numbered (next + 1) more
