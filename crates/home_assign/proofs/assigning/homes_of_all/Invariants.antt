use Rattle.std.proofs.Common.{length, map}
use Rattle.std.specs.List.{AllByRecursion}
use Rattle.debug_records.specs.Change.{changes}
use Rattle.graph_core.specs.Graphs.{graph_view, logged}
use Rattle.home_assign.specs.Homes.{homes_listed}
use Rattle.home_assign.specs.Changes.{homes_pass}
use Rattle.home_assign.specs.Units.{IsHomeable}
use Rattle.home_assign.proofs.Units.{Left, Logs}
use Rattle.home_assign.proofs.assigning.homes_of_all.Given as goal

abbrev pub invariant-loop-left : goal.invariant-loop-left
invariant-loop-left l = record {
  may : AllByRecursion IsHomeable (map graph_view l.left);
  homes : Left l.mode (map graph_view l.fn.graphs) (homes_listed l.homes.items) (map graph_view l.left);
  changes : Logs (map logged (changes l.fn.log)) homes_pass (map graph_view l.fn.graphs) (homes_listed l.homes.items) (map graph_view l.left) (map logged (changes l.fn.log)) (map logged (changes l.log));
}

abbrev pub decreases-loop-left : goal.decreases-loop-left
decreases-loop-left l = length l.left
