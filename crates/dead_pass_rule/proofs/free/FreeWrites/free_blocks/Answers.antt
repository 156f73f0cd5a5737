use Rattle.std.proofs.Common.{◌≡◌, ◌+◌, ◌∷◌, [], ℕ, List, Option, Some, length, map, ap, ◌∙◌, arith}
use Rattle.std.specs.Prelude.{slice_get, Bool}
use Rattle.std.specs.declared.vec.Vec.{Vec}
use Rattle.std.specs.declared.alloc.Global.{Global}
use Rattle.std.proofs.lemmas.List.{length-append, length-map}
use Rattle.std.proofs.lemmas.Option.{slice_get_within}
use Rattle.graph_core.specs.Graphs.{Block, block_view, graph_view}
use Rattle.dead_pass_rule.specs.Free.{AreFreeOnce}
use Rattle.dead_pass_rule.proofs.BlockRows.{rows_more}
use Rattle.dead_pass_rule.proofs.free.FreeWrites.free_blocks.Goals as goal

pub loop-block-preserved : goal.loop-block-preserved
loop-block-preserved c =
    let told = c.loop-block.told.items in
    let k = c.loop-block.block-index in
    let grown = c.in_ok-push.ensures.items in
    record {
      count = (let now = ap (λ (l : List (Vec Bool Global)). length l) grown in let was = c.loop-block.invariant.count in let sum = length-append told (c.in_ok-free_block.field-0 ∷ []) in omega (arith, now, was, sum));
      are = rows_more block_view (λ (o : Option (Vec Bool Global)) (b : Block). AreFreeOnce c.args.self.now.flow.now.assignments.items (graph_view c.args.self.now.graph.now) b o) c.args.blocks.now told _ k c.block-item.result _ c.loop-block.invariant.count grown
          c.loop-block-test.true c.block-item.is c.in_ok-free_block.ensures c.loop-block.invariant.are;
    }

pub returns : goal.returns
returns c = λ n b at. c.loop-block.invariant.are n b (let lt = slice_get_within (map block_view c.args.blocks.now) n b at in let size = length-map c.args.blocks.now block_view in omega (arith, lt, size, c.loop-block-test.false)) at
