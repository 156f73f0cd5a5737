use Rattle.std.proofs.Common.{◌≡◌, ◌<◌, true, Some, length, map, sym, ◌∙◌, arith}
use Rattle.std.specs.Prelude.{slice_get}
use Rattle.graph_core.specs.Graphs.{block_view}
use Rattle.graph_paths.proofs.Leading.{block_there}
use Rattle.graph_paths.proofs.Flooding.{edge_there, edge_leads}
use Rattle.graph_paths.proofs.flood.visit.Goals as goal

pub lead-requires-clause-edges : goal.lead-requires-clause-edges
lead-requires-clause-edges g c =
    let course = g.T.Transfer.course c.args.transfer.now in
    let bs = map block_view c.args.blocks.now in
    let b = c.index-blocks-number.result in
    let within : c.args.number < length c.args.blocks.now = omega (arith, c.if-number-count.false, c.requires.few) in
    let at : slice_get bs c.args.number ≡ Some (block_view b) = block_there block_view c.args.blocks.now c.args.number b within c.index-blocks-number.is in
    let is_open : course.is_open c.args.number ≡ true = sym c.is_open.ensures ∙ c.if-not-is_open.false in
    λ l among. edge_there course bs (block_view b) c.args.number l c.requires.blocks at is_open among

pub returns-clause-closed : goal.returns-clause-closed
returns-clause-closed g c =
    let course = g.T.Transfer.course c.args.transfer.now in
    let bs = map block_view c.args.blocks.now in
    let b = c.index-blocks-number.result in
    let within : c.args.number < length c.args.blocks.now = omega (arith, c.if-number-count.false, c.requires.few) in
    let at : slice_get bs c.args.number ≡ Some (block_view b) = block_there block_view c.args.blocks.now c.args.number b within c.index-blocks-number.is in
    λ q to edge. c.in_ok-is_new.ensures.closed q to (edge_leads course bs (block_view b) c.args.number to c.requires.blocks at edge)
