-- How many instructions stand in code that is made.
use Rattle.std.specs.Prelude.{ℕ, ◌+◌, List}
use Rattle.graph_core.specs.Graphs.{Block}
use Rattle.graph_core.specs.Validity.{total, counts}
use Rattle.graph_build_steps.specs.Drafts.{Made, Goal, To, Unused, Either}

-- how many instructions of blocks are counted
abbrev pub counted : List Block → ℕ
counted all = total (λ (b : Block). total counts b.instructions) all

-- those of a block that is being built, and of the inner blocks that stand
abbrev pub made_counts : Made → ℕ
made_counts m = total counts m.ops + counted m.inner

-- those that stand when code is made for a goal
abbrev pub goal_counts : Goal → ℕ
goal_counts (To want m) = made_counts m
goal_counts (Unused m) = made_counts m
goal_counts (Either one other inner) = counted inner
