use Rattle.std.proofs.Common.{List}
use Rattle.places.specs.declared.flow.Assignment.{Assignment}
use Rattle.dead_pass_rule.specs.Asking.{is_going}
use Rattle.dead_pass_rule.specs.Certified.{AreIdle}
use Rattle.dead_pass_rule.specs.Walks.{turn_of}
use Rattle.graph_core.specs.Graphs.{graph_view}
use Rattle.pass_law.specs.Changes.{Adds, Below}
use Rattle.dead_pass_notes.specs.Writes.{IsRemovedWrite}
use Rattle.dead_pass_notes.proofs.OfBlocks.{block_of}
use Rattle.dead_pass_notes.proofs.graphs.removed_writes.Given as goal

abbrev pub invariant-loop-number : goal.invariant-loop-number
invariant-loop-number l = (assignments : List Assignment) → AreIdle assignments (graph_view l.graph) (is_going (turn_of l.turns)) → Adds (Below (IsRemovedWrite assignments (graph_view l.graph)) block_of l.number) l.fn.cases.items l.cases.items
