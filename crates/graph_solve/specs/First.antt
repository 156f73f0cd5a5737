-- The first bits of values.
use Rattle.std.specs.Prelude.{ℕ, ◌==◌, ◌&&◌, if◌then◌else◌, nat_lt, Bool, true, false, not, List, length, slice_index_or}
use Rattle.std.specs.FinSet.{contains}
use Rattle.graph_solve_problem.specs.Numbers.{Numbers}

-- whether paths begin at a block: at the entry, or at the ends
abbrev pub is_first : (ends : List Bool) (forward : Bool) (block : ℕ) → Bool
is_first ends true block = block == 0
is_first ends false block = slice_index_or ends block false

-- whether a fact is first in the value of a block: as in the edge's value where paths begin, and else where it is in
-- that of which nothing is known
abbrev pub first_bit : (ends : List Bool) (forward unites : Bool) (edge : Numbers) (block fact : ℕ) → Bool
first_bit ends forward unites edge block fact =
    if nat_lt block (length ends) && is_first ends forward block then contains edge fact else not unites
