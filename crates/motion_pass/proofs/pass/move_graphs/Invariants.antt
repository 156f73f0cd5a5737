use Rattle.std.proofs.Common.{◌≡◌, ◌++◌, drop, length, map}
use Rattle.graph_core.specs.Graphs.{graph_view}
use Rattle.pass_law.proofs.OfFunctions.{AreCasesBelow}
use Rattle.motion_pass_placement.specs.Moves.{IsMovedAssignment}
use Rattle.motion_pass.specs.Amounts.{IsAmount}
use Rattle.motion_pass.proofs.Functions.{IsAhead}
use Rattle.motion_pass.proofs.pass.move_graphs.Given as goal

abbrev pub invariant-loop-number : goal.invariant-loop-number
invariant-loop-number l = record {
  count : length (map graph_view l.moved.items) ≡ l.number;
  amount : IsAmount l.amount (map graph_view l.moved.items ++ drop l.number (map graph_view l.graphs));
  ahead : IsAhead l.room (map graph_view l.graphs) l.number (map graph_view l.moved.items);
  cases : AreCasesBelow IsMovedAssignment (map graph_view l.graphs) (map graph_view l.moved.items) l.number l.cases.items;
}
