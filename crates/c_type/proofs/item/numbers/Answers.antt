use Rattle.std.proofs.Common.{◌≡◌, ◌+◌, [], ◌∷◌, ◌++◌, take, map, refl, sym}
use Rattle.std.proofs.lemmas.List.{take_more, map-append, append-nil, length-append}
use Rattle.c_tree.specs.Trees.{item_view}
use Rattle.c_type.specs.Functions.{defined, defined_by}
use Rattle.c_type.proofs.Items.{defined_append}
use Rattle.c_type.proofs.item.numbers.Goals as goal

pub loop-item-preserved : goal.loop-item-preserved
loop-item-preserved c =
    let xs = c.args.items.now in
    let i = c.loop-item.item-index in
    let x = c.item-item.result in
    let done = defined (map item_view (take i xs)) in
    let all : defined (map item_view (take (i + 1) xs)) ≡ done ++ defined_by (item_view x) =
    rw (take_more xs i x c.loop-item-test.true, sym c.item-item.is, map-append item_view (take i xs) (x ∷ []), defined_append (map item_view (take i xs)) (item_view x ∷ []), append-nil (defined_by (item_view x))) refl in
    record {
      numbering = λ q. rw all (c.in_ok-count.ensures.numbering done (sym c.loop-item.invariant.counted) c.loop-item.invariant.numbering q);
      counted = rw (all, length-append done (defined_by (item_view x)), sym c.loop-item.invariant.counted) c.in_ok-count.ensures.counted;
    }
