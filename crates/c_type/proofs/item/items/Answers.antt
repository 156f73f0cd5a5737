use Rattle.std.proofs.Common.{◌+◌, drop, map, ap, sym, ◌∙◌}
use Rattle.c_tree.specs.Programs.{function_view}
use Rattle.c_tree.specs.Trees.{item_view}
use Rattle.c_type_declarations.specs.Progress.{progress_view}
use Rattle.c_type_declarations.proofs.Loops.{drop_item}
use Rattle.c_type.proofs.Items.{items_step}
use Rattle.c_type.proofs.item.items.Goals as goal

pub loop-one-preserved : goal.loop-one-preserved
loop-one-preserved c = λ names numbering.
    let xs = c.args.items.now in
    let i = c.loop-one.one-index in
    sym (items_step names (map function_view c.loop-one.functions.items) (map function_view c.item.new.functions.items) (item_view c.one-item.result) (map item_view (drop (i + 1) xs)) (progress_view c.loop-one.progress) (progress_view c.item.new.progress) (c.in_ok-item.ensures names numbering))
    ∙ (rw (ap (λ ys. map item_view ys) (drop_item xs i c.one-item.result c.loop-one-test.true c.one-item.is)) at (c.loop-one.invariant names numbering))
