use Rattle.std.proofs.Common.{◌≡◌, ◌<◌, length, map, take, arith, ◌+◌, ◌++◌, [], ◌∷◌, Some, sym, ap, ◌∙◌, subst}
use Rattle.std.specs.Prelude.{option_map, slice_get}
use Rattle.std.specs.List.{sum_by}
use Rattle.std.proofs.lemmas.List.{take_more, take_all, length-append, length-map}
use Rattle.std.proofs.lemmas.List.Sums.{sum_by_push}
use Rattle.std.proofs.lemmas.Option.{slice_get-map, slice_get_within, get_or_from_slice_get}
use Rattle.graph_core.specs.Graphs.{Block}
use Rattle.graph_core.specs.Uses.{targets_of}
use Rattle.graph_solve.specs.GraphFlow.{edge_from}
use Rattle.graph_core.specs.Graphs.{block_view, graph_view}
use Rattle.graph_solve.specs.GraphFlow.{AreFlow, is_return}
use Rattle.graph_solve.proofs.Carrying.{flow_more}
use Rattle.graph_solve_problem.proofs.Relaxing.{read}
use Rattle.graph_solve.proofs.graph.flow_graph.Goals as goal

pub loop-from-preserved : goal.loop-from-preserved
loop-from-preserved c =
    let graph = graph_view c.args.graph.now in
    let block = block_view c.block-item.result in
    let n = c.loop-from.from in
    let at_item : slice_get c.deref-block-items.result.now n ≡ Some c.block-item.result = read c.deref-block-items.result.now n c.block-item.result c.loop-from-test.true c.block-item.is in
    let at : slice_get graph.blocks n ≡ Some block =
    slice_get-map block_view c.args.graph.now.blocks.items n ∙ ap (option_map block_view) (ap (λ bs. slice_get bs n) (sym c.deref-block-items.ensures.value) ∙ at_item) in
    let ends : c.loop-from.ends.items ++ is_return block.end ∷ [] ≡ c.push.new.self.items = ap (λ e. c.loop-from.ends.items ++ e ∷ []) (sym c.returns.ensures) ∙ sym c.in_ok-push.ensures.items in
    let made : c.push_edges.new.edges.items ≡ c.loop-from.edges.items ++ map (edge_from n) (targets_of block.end) = c.in_ok-push_edges.ensures in
    let inside : n < length graph.blocks = slice_get_within graph.blocks n block at in
    let more : take (n + 1) graph.blocks ≡ take n graph.blocks ++ block ∷ [] = take_more graph.blocks n block inside ∙ ap (λ b. take n graph.blocks ++ b ∷ []) (get_or_from_slice_get graph.blocks n block block at) in
    record {
      are = subst (λ es. AreFlow graph (n + 1) es c.push_edges.new.edges.items) ends
          (subst (λ es. AreFlow graph (n + 1) (c.loop-from.ends.items ++ is_return block.end ∷ []) es) (sym c.in_ok-push_edges.ensures)
          (flow_more graph n block at c.loop-from.ends.items c.loop-from.edges.items c.loop-from.invariant.are));
      count = ap length made ∙ length-append c.loop-from.edges.items (map (edge_from n) (targets_of block.end))
          ∙ ap (λ m. length c.loop-from.edges.items + m) (length-map (targets_of block.end) (edge_from n)) ∙ ap (λ m. m + length (targets_of block.end)) c.loop-from.invariant.count
          ∙ sym (ap (sum_by (λ (b : Block). length (targets_of b.end))) more ∙ sum_by_push (λ (b : Block). length (targets_of b.end)) (take n graph.blocks) block);
    }

pub returns-clause-count : goal.returns-clause-count
returns-clause-count c =
    let graph = graph_view c.args.graph.now in
    c.loop-from.invariant.count ∙ ap (sum_by (λ (b : Block). length (targets_of b.end))) (take_all c.loop-from.from graph.blocks (omega (arith, length-map c.args.graph.now.blocks.items block_view, ap length c.deref-block-items.ensures.value, c.loop-from-test.false)))

pub returns-clause-are : goal.returns-clause-are
returns-clause-are c =
    let graph = graph_view c.args.graph.now in
    let e : c.loop-from.from ≡ length c.args.graph.now.blocks.items = omega (arith, ap length c.deref-block-items.ensures.value, c.loop-from-test.false, c.loop-from.auto.from-end) in
    subst (λ n. AreFlow graph n c.loop-from.ends.items c.loop-from.edges.items) e c.loop-from.invariant.are
