use Rattle.graph_core.specs.Graphs.{graph_view}
use Rattle.pass_law.specs.Changes.{Adds, Below}
use Rattle.motion_pass_placement.specs.Moves.{IsReadingAssignment}
use Rattle.motion_pass.proofs.Along.{block_of}
use Rattle.motion_pass.proofs.cases.add_moved.Given as goal

abbrev pub invariant-loop-number : goal.invariant-loop-number
invariant-loop-number l = Adds (Below (IsReadingAssignment (graph_view l.graph)) block_of l.number) l.fn.cases.items l.cases.items
