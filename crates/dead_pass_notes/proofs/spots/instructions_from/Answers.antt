use Rattle.std.proofs.Common.{◌≡◌, ◌-◌, suc, sym, ◌∙◌, arith}
use Rattle.graph_core.specs.Graphs.{block_view, graph_view}
use Rattle.dead_pass_notes.proofs.Coming.{left_is, there}
use Rattle.dead_pass_notes.proofs.spots.instructions_from.Goals as goal

pub returns-in-Some : goal.returns-in-Some
returns-in-Some c =
    let longer = c.saturating_sub-longer.ensures in
    let less = c.saturating_sub-from.ensures in
    let offset : c.saturating_sub-from.result ≡ c.len.result - suc c.args.left = omega (arith, longer, less) in
    left_is (graph_view c.args.graph.now) c.args.block (suc c.args.left) c.in-Some.found.now c.deref-in-Some.result.now c.len.result c.saturating_sub-from.result
    (there block_view c.deref.result.now c.args.graph.now.blocks.items c.args.block c.in-Some.found.now c.deref.ensures.value c.in-Some.ensures.lookup.3.0 c.in-Some.ensures.lookup.1)
    c.deref-in-Some.ensures.value (c.len.ensures ∙ sym c.deref-in-Some.ensures.len) offset
