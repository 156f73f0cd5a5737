-- Sets of pairs of numbers.
use Rattle.std.specs.Prelude.{ℕ, Bool}
use Rattle.std.specs.declared.cmp.Ordering.{Ordering}
use Rattle.std.specs.Ordering.{nat_cmp, ordering_then}
use Rattle.std.specs.BTreeSet.{contains}
use Rattle.home_assign.specs.declared.pairs.Pairs.{Pairs}

-- the order of pairs
abbrev pub pair_cmp : ℕ × ℕ → ℕ × ℕ → Ordering
pair_cmp x y = ordering_then (nat_cmp x.0 y.0) (nat_cmp x.1 y.1)

-- a pair is in a set
abbrev pub has : Pairs → (a b : ℕ) → Bool
has pairs a b = contains pair_cmp pairs.all (a, b)
