use Rattle.graph_core.specs.Graphs.{graph_view}
use Rattle.pass_law.specs.Changes.{Adds, Below}
use Rattle.copy_pass.specs.Reads.{IsReplacedRead}
use Rattle.copy_pass.proofs.OfBlocks.{block_of}
use Rattle.copy_pass.proofs.replaced_reads_graphs.add_graph.Given as goal

abbrev pub invariant-loop-number : goal.invariant-loop-number
invariant-loop-number l = Adds (Below (IsReplacedRead (graph_view l.was) (graph_view l.is)) block_of l.number) l.fn.cases.items l.cases.items
