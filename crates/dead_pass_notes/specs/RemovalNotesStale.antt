-- What is known of stale names while a graph is gone over block by block.
use Rattle.std.specs.Prelude.{◌≡◌, ℕ, ◌<◌, List, length}
use Rattle.graph_core.specs.Graphs.{Instruction}
use Rattle.dead_pass_rule.specs.Asking.{is_going}
use Rattle.dead_pass_rule.specs.Walks.{turn_of}
use Rattle.graph_paths.specs.PathMarksTable.{bits_of}
use Rattle.dead_pass_notes.specs.Rows.{AreStale, AreAll, stale_behind}
use Rattle.dead_pass_notes.specs.declared.idle_graph.IdleGraph.{IdleGraph}
use Rattle.dead_pass_notes.specs.declared.notes.Notes.{Notes}
use Rattle.dead_pass_notes.specs.Idle.{assignments_of, graph_of}

-- What is told of names at the starts of the blocks that paths reach: just those are told that some path brings there
-- stale.
pub record AreKnown (idle : IdleGraph) (notes : Notes) : Type 0 where
  pub blocks : notes.blocks ≡ length (graph_of idle).blocks
  pub names : notes.names ≡ (graph_of idle).name_count
  pub stale : AreStale (assignments_of idle) (graph_of idle) (graph_of idle).name_count notes.stale
  pub all : AreAll (graph_of idle) (is_going (turn_of idle.turns.items)) (bits_of idle.reached 0)
      (graph_of idle).name_count (bits_of notes.stale)

-- The walk has come behind these instructions of a block, and so many are left.
abbrev pub HasComeBehind : IdleGraph → Notes → (n : ℕ) → List Instruction → (left : ℕ) → Type 0
HasComeBehind idle notes n before left =
    (x : ℕ) → x < (graph_of idle).name_count
    → bits_of notes.stale notes.blocks x
    ≡ stale_behind (is_going (turn_of idle.turns.items) n) x (bits_of notes.stale n x) before left

-- Only the searches along ways are others.
pub record HasOtherWays (old new : Notes) : Type 0 where
  pub stale : new.stale ≡ old.stale
  pub blocks : new.blocks ≡ old.blocks
  pub names : new.names ≡ old.names
  pub removed : new.removed ≡ old.removed

-- The searches along ways and the changes are the same.
pub record HasSameWays (old new : Notes) : Type 0 where
  pub ways : new.ways ≡ old.ways
  pub removed : new.removed ≡ old.removed
