use Rattle.std.proofs.Common.{◌≡◌, ◌+◌, ◌++◌, ◌≤◌, length}
use Rattle.std.specs.List.{filter}
use Rattle.graph_core.specs.Graphs.{graph_view}
use Rattle.graph_homes.specs.Frames.{is_written}
use Rattle.rv_emit_storage.specs.Kept.{home_in, saved_in}
use Rattle.rv_emit_storage.proofs.frame.saved_of.Given as goal

abbrev pub invariant-loop-left : goal.invariant-loop-left
invariant-loop-left l = record {
  saved : l.saved.items ++ filter (is_written (home_in l.fn.homes) (graph_view l.fn.graph)) l.left ≡ saved_in l.fn.homes (graph_view l.fn.graph);
  few : length l.saved.items + length l.left ≤ 15;
}

abbrev pub decreases-loop-left : goal.decreases-loop-left
decreases-loop-left l = length l.left
