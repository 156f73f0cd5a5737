use Rattle.std.proofs.Common.{◌≡◌, List, length, map}
use Rattle.graph_core.specs.Graphs.{Block, Logged, instruction_view}
use Rattle.dead_pass_rule.specs.Asking.{is_going}
use Rattle.dead_pass_rule.specs.Walks.{turn_of}
use Rattle.dead_pass_notes.specs.Points.{placed}
use Rattle.dead_pass.specs.Noted.{IsReady, IsVisited}
use Rattle.dead_pass.proofs.Leaving.{IsAhead}
use Rattle.dead_pass.proofs.Noting.{IsUnderWay}
use Rattle.dead_pass.proofs.notes.left_of.Given as goal

abbrev pub invariant-loop-ahead : goal.invariant-loop-ahead
invariant-loop-ahead l = record {
  left : IsAhead (is_going (turn_of l.idle.turns.items) l.number) (map instruction_view l.fn.instructions) (map instruction_view l.ahead) (map instruction_view l.left.items);
  ready : (log : List Logged) → IsReady log l.idle l.fn.notes → IsReady log l.idle l.notes;
  said : (log : List Logged) (b : Block) → IsReady log l.idle l.fn.notes → IsVisited l.idle l.number b → b.place ≡ placed l.fn.kept_place → b.instructions ≡ map instruction_view l.fn.instructions
      → IsUnderWay log l.idle l.number b l.notes (placed l.place) (map instruction_view l.ahead) (map instruction_view l.left.items);
}

abbrev pub decreases-loop-ahead : goal.decreases-loop-ahead
decreases-loop-ahead l = length l.ahead
