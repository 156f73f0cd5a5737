use Rattle.graph_core.specs.Graphs.{block_view, graph_view}
use Rattle.home_assign.proofs.Joined.{blocks_done, first_told}
use Rattle.home_assign.proofs.joins.first_joined.Goals as goal

pub returns-clause-each : goal.returns-clause-each
returns-clause-each c = (first_told (graph_view c.args.graph.now) c.loop-left.first.items (blocks_done block_view c.loop-left.left.now c.loop-left.first.items _ c.in_default.len_below c.loop-left.invariant)).0

pub returns-clause-first : goal.returns-clause-first
returns-clause-first c = (first_told (graph_view c.args.graph.now) c.loop-left.first.items (blocks_done block_view c.loop-left.left.now c.loop-left.first.items _ c.in_default.len_below c.loop-left.invariant)).1
