use Rattle.std.proofs.Common.{arith}
use Rattle.std.proofs.lemmas.List.{length-map}
use Rattle.graph_core.specs.Graphs.{block_view, graph_view}
use Rattle.copy_pass.proofs.OfBlocks.{block_next, blocks_done, blocks_first}
use Rattle.copy_pass.proofs.replaced_reads_graphs.add_graph.Goals as goal

pub loop-number-init : goal.loop-number-init
loop-number-init c = blocks_first (graph_view c.args.was.now) (graph_view c.args.is.now) _

pub loop-number-preserved : goal.loop-number-preserved
loop-number-preserved c = block_next (graph_view c.args.was.now) (graph_view c.args.is.now) c.loop-number.number _ _ _ c.loop-number.invariant c.in_ok-add_block_of.ensures

pub returns : goal.returns
returns c = blocks_done (graph_view c.args.was.now) (graph_view c.args.is.now) c.loop-number.number _ _ (let long = length-map c.args.was.now.blocks.items block_view in omega (arith, long)) c.loop-number.invariant
