use Rattle.std.proofs.Common.{◌≡◌, ◌<◌, List, Some, [], length, map, refl, sym, ap, ◌∙◌, subst, arith}
use Rattle.std.specs.Prelude.{option_map, slice_get}
use Rattle.std.proofs.lemmas.List.{length-append, length-map, map-append}
use Rattle.std.proofs.lemmas.Option.{slice_get-map, slice_get_read}
use Rattle.graph_core.specs.declared.block.Block as declared-block
use Rattle.graph_core.specs.Graphs.{block_view}
use Rattle.motion_pass.specs.Placing.{blocks_of, first_of, treated_in}
use Rattle.motion_pass.proofs.Moved.{AreBehind, blocks_none, blocks_one, blocks_all, end_short}
use Rattle.motion_pass.proofs.moving.Moving.blocks.Goals as goal

pub loop-number-init : goal.loop-number-init
loop-number-init c =
    let m = c.args.self.now in
    let start = length (blocks_of m) in
    let none : length c.new-added.result.items ≡ 0 = ap length c.new-added.ensures.items in
    record {
      count = omega (arith, none);
      moved = subst (λ (xs : List declared-block.Block). AreBehind (blocks_of m) (first_of m) (treated_in m) (blocks_of m) start 0 (map block_view xs) (map block_view c.new-added.result.items)) (sym c.new-moved.ensures.items)
          (subst (λ (xs : List declared-block.Block). AreBehind (blocks_of m) (first_of m) (treated_in m) (blocks_of m) start 0 [] (map block_view xs)) (sym c.new-added.ensures.items) (blocks_none (blocks_of m) (first_of m) (treated_in m) (blocks_of m) start));
    }

pub loop-number-preserved : goal.loop-number-preserved
loop-number-preserved c =
    let m = c.args.self.now in
    let xs = m.graph.now.blocks.items in
    let k = c.loop-number.number in
    let b = c.index-block.result.now in
    let inside : k < length xs = omega (arith, c.loop-number-test.true) in
    let there : slice_get (blocks_of m) k ≡ Some (block_view b) = slice_get-map block_view xs k ∙ ap (option_map block_view) (slice_get_read xs (length xs) k b refl inside c.index-block.ensures) in
    let made = c.in_ok-made.ensures in
    let short = end_short (blocks_of m) (first_of m) (treated_in m) made.is.end in
    let grown = ap length made.grown ∙ length-append (map block_view c.loop-number.added.items) made.own in
    let old = length-map c.loop-number.added.items block_view in
    let new = length-map c.block.new.added.items block_view in
    record {
      count = omega (arith, short, grown, old, new, c.loop-number.invariant.count);
      moved = blocks_one (blocks_of m) (first_of m) (treated_in m) (blocks_of m) (length (blocks_of m)) k (block_view b) (block_view c.in_ok-made.made) made.own _ _ _ _ there made.is (ap (λ ys. map block_view ys) c.in_ok-push.ensures.items ∙ map-append block_view _ _) made.grown c.loop-number.invariant.moved;
    }

pub returns : goal.returns
returns c =
    let m = c.args.self.now in
    let xs = m.graph.now.blocks.items in
    let long = length-map xs block_view in
    record {
      moved = map block_view c.loop-number.moved.items;
      own = map block_view c.loop-number.added.items;
      blocks = blocks_all (blocks_of m) (first_of m) (treated_in m) (blocks_of m) (length (blocks_of m)) c.loop-number.number _ _ (omega (arith, long, c.loop-number-test.false)) c.loop-number.invariant.moved;
      are = ap (λ ys. map block_view ys) c.in_ok-append.ensures.items ∙ map-append block_view _ _;
    }
