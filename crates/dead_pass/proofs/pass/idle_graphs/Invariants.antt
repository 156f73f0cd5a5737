use Rattle.std.proofs.Common.{◌≡◌, map, take}
use Rattle.std.specs.List.{AllByRecursion}
use Rattle.graph_core.specs.Graphs.{graph_view}
use Rattle.dead_pass_notes.specs.Idle.{IsBorneOut, IsOf, graph_of}
use Rattle.dead_pass.proofs.pass.idle_graphs.Given as goal

abbrev pub invariant-loop-graph : goal.invariant-loop-graph
invariant-loop-graph l = record {
  graphs : map graph_of l.all.items ≡ map graph_view (take l.graph-index l.graphs);
  assignments : AllByRecursion (IsOf l.flow.assignments.items) l.all.items;
  borne_out : AllByRecursion IsBorneOut l.all.items;
}
