use Rattle.std.proofs.Common.{List, length, map}
use Rattle.std.specs.List.{AllByRecursion}
use Rattle.places.specs.declared.flow.Assignment.{Assignment}
use Rattle.graph_core.specs.Graphs.{Logged, UnitForm, graph_view}
use Rattle.graph_core.specs.Validity.{IsGraph}
use Rattle.dead_pass_rule.specs.Removing.{IsReduced}
use Rattle.pass_law.proofs.Functions.{Left}
use Rattle.dead_pass_notes.specs.Idle.{IsBorneOut, IsOf, graph_of}
use Rattle.dead_pass_notes.specs.Said.{SaysWhatItShall}
use Rattle.dead_pass_writes.specs.RemovedChangesTelling.{AreToldOf}
use Rattle.dead_pass.proofs.pass.graphs_left.Given as goal

abbrev pub invariant-loop-ahead : goal.invariant-loop-ahead
invariant-loop-ahead l = record {
  left : (assignments : List Assignment) → AllByRecursion (IsOf assignments) l.fn.idle
      → AllByRecursion (IsOf assignments) l.ahead × Left (IsReduced assignments) (map graph_of l.fn.idle) (map graph_view l.left.items) (map graph_of l.ahead);
  borne_out : AllByRecursion IsBorneOut l.ahead;
  notes : (log : List Logged) (u : UnitForm) → AreToldOf log l.removed → AllByRecursion (IsGraph u) (map graph_of l.fn.idle) → (assignments : List Assignment) → AllByRecursion (IsOf assignments) l.fn.idle
      → AllByRecursion (λ idle. IsGraph u (graph_of idle)) l.ahead × Left (SaysWhatItShall assignments log) (map graph_of l.fn.idle) (map graph_view l.left.items) (map graph_of l.ahead);
}

abbrev pub decreases-loop-ahead : goal.decreases-loop-ahead
decreases-loop-ahead l = length l.ahead
