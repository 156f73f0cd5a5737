use Rattle.std.proofs.Common.{◌<◌, ◌+◌, ◌-◌, ◌≡◌, get_or, length, arith}
use Rattle.std.proofs.lemmas.List.{length-map}
use Rattle.std.proofs.lemmas.Option.{slice_get-get_or}
use Rattle.graph_core.specs.Graphs.{block_view, graph_view}
use Rattle.motion_pass.proofs.Entering.{next_entered}
use Rattle.motion_pass.proofs.times.is_entered.Goals as goal

pub returns : goal.returns
returns c =
    let g = c.args.graph.now in
    let path = c.args.path.now in
    let k = c.args.index in
    let inside : k < length path = c.requires in
    let long = length-map g.blocks.items block_view in
    let first = c.if-index-eq0.false in
    let next : (k - 1) + 1 ≡ k = omega (arith, first) in
    let n = get_or path k 0 in
    let is_block : n < length (graph_view g).blocks = omega (arith, c.if-number-len.false, c.len.ensures, long) in
    next_entered (graph_view g).blocks path k (k - 1) (get_or path (k - 1) 0) n next (slice_get-get_or path (k - 1) 0 (omega (arith, inside))) (slice_get-get_or path k 0 inside) is_block c.leads_to.result c.leads_to.ensures
