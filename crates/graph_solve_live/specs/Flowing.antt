-- Live names as facts that flow from block to block.
use Rattle.std.specs.Prelude.{ℕ, ◌&&◌, ◌||◌, Bool, true, false, not, Option, Some, None, List, [], ◌∷◌, slice_get}
use Rattle.graph_core.specs.Graphs.{Instruction, Block}
use Rattle.graph_core.specs.Paths.{reads, writes}
use Rattle.graph_paths.specs.Flood.{Course}
use Rattle.graph_solve_live.specs.Live.{end_reads}

-- whether a name is live before instructions of a block, from whether it is behind them
abbrev pub is_live_along : (x : ℕ) → List Instruction → (behind : Bool) → Bool
is_live_along x [] behind = behind
is_live_along x (i ∷ rest) behind = reads x i || (not (writes x i) && is_live_along x rest behind)

-- whether it is at the start of a block, from whether it is at its end
abbrev pub is_live_at_start : (x : ℕ) → Block → (behind : Bool) → Bool
is_live_at_start x b behind = is_live_along x b.instructions (end_reads x b.end || behind)

abbrev pub is_live_at_some : (x : ℕ) → Option Block → (behind : Bool) → Bool
is_live_at_some x None behind = false
is_live_at_some x (Some b) behind = is_live_at_start x b behind

-- HOW LIVE NAMES FLOW: against execution, through all blocks.
abbrev pub living : List Block → (names : ℕ) → Course
living blocks names =
    record {
      blocks = blocks;
      is_open = λ n. true;
      forward = false;
      width = names;
      does = λ n x behind. is_live_at_some x (slice_get blocks n) behind;
    }
