-- Sets of numbers.
use Rattle.std.specs.Prelude.{◌≡◌, ℕ, zero, suc, ◌≤◌, false}
use Rattle.std.specs.Ordering.{nat_cmp}
use Rattle.std.specs.FinSet.{FinSet, contains, difference, empty, insert, union}

-- a set of numbers: what contracts see of a `Facts`
abbrev pub Numbers : Type 0
Numbers = FinSet nat_cmp

-- the numbers of the set lie below the width
abbrev pub IsBelow : (width : ℕ) → Numbers → Type 0
IsBelow width s = (q : ℕ) → width ≤ q → contains s q ≡ false

-- all numbers below the width
abbrev pub numbers_below : (width : ℕ) → Numbers
numbers_below zero = empty
numbers_below (suc n) = insert (numbers_below n) n

-- what a block makes of a set: the numbers that it makes, and those of the set that it does not lose
abbrev pub made_of : (made lost given : Numbers) → Numbers
made_of made lost given = union made (difference given lost)
