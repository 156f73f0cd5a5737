use Rattle.std.proofs.Common.{◌≡◌, ◌+◌, List, length, map}
use Rattle.graph_core.specs.Graphs.{Logged, block_view}
use Rattle.graph_paths.specs.PathMarksTable.{bits_of}
use Rattle.dead_pass_rule.specs.Asking.{is_going}
use Rattle.dead_pass_rule.specs.Walks.{turn_of}
use Rattle.dead_pass_notes.specs.Idle.{graph_of}
use Rattle.dead_pass.specs.Noted.{IsReady}
use Rattle.dead_pass.proofs.Leaving.{AreAhead}
use Rattle.dead_pass.proofs.Saying.{AreUnderWay}
use Rattle.dead_pass.proofs.notes.blocks_left.Given as goal

abbrev pub invariant-loop-ahead : goal.invariant-loop-ahead
invariant-loop-ahead l = record {
  counted : l.number + length l.ahead ≡ length l.fn.blocks;
  left : AreAhead (is_going (turn_of l.idle.turns.items)) (bits_of l.idle.reached 0) (map block_view l.fn.blocks) (map block_view l.ahead) l.number (map block_view l.left.items);
  said : (log : List Logged) → IsReady log l.idle l.fn.notes → (graph_of l.idle).blocks ≡ map block_view l.fn.blocks → AreUnderWay log l.idle l.notes l.number (map block_view l.ahead) (map block_view l.left.items);
}

abbrev pub decreases-loop-ahead : goal.decreases-loop-ahead
decreases-loop-ahead l = length l.ahead
