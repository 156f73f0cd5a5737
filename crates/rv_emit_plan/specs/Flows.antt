-- Where the ends of blocks lead.
use Rattle.std.specs.Prelude.{ℕ, ◌==◌, nat_lt, if◌then◌else◌, Some, None, List, slice_get}
use Rattle.std.specs.Option.{option_map_or}
use Rattle.graph_core.specs.Graphs.{End, Jump, Branch, Return}
use Rattle.rv_emit_plan.specs.declared.flow.Ways.{Ways}

-- no block
abbrev pub no_ways : Ways
no_ways = record { first = None; second = None }

-- the blocks to which an end leads, each once
abbrev pub ways_of : End → Ways
ways_of (Jump l) = record { first = Some l; second = None }
ways_of (Branch c a b l m) = record { first = Some l; second = if l == m then None else Some m }
ways_of (Return a) = no_ways

-- The blocks to which a block leads, of these by block; none where there is no such block.
abbrev pub ways_at : List Ways → (block : ℕ) → Ways
ways_at all n = option_map_or (λ w. w) (slice_get all n) no_ways

-- How many of eight runs of a block take a way that leads to this depth of loops, where the other leads to that one: a
-- way deeper into loops is taken seven times, one out of them once.
abbrev pub share : (depth other : ℕ) → ℕ
share d e = if nat_lt d e then 1 else if nat_lt e d then 7 else 4
