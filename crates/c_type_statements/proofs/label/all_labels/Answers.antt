use Rattle.std.proofs.Common.{◌+◌, drop, map, sym, ap, ◌∙◌}
use Rattle.c_tree.specs.Statements.{label_view}
use Rattle.c_type_declarations.specs.Progress.{progress_view}
use Rattle.c_type_declarations.proofs.Loops.{drop_item}
use Rattle.c_type_statements.specs.Switches.{labels_view, part_view}
use Rattle.c_type_statements.proofs.Loops.{labels_step, labels_end}
use Rattle.c_type_statements.proofs.label.all_labels.Goals as goal

pub loop-label-preserved : goal.loop-label-preserved
loop-label-preserved c =
    let xs = c.args.all.now in
    let i = c.loop-label.label-index in
    sym (labels_step c.args.kind (label_view c.label-item.result) (map label_view (drop (i + 1) xs)) (map part_view c.loop-label.parts.items) (map part_view c.labeled.new.parts.items) (labels_view c.loop-label.known) (labels_view c.labeled.new.labels) (progress_view c.loop-label.progress) (progress_view c.labeled.new.progress) c.in_ok-labeled.ensures)
    ∙ (rw (ap (λ ys. map label_view ys) (drop_item xs i c.label-item.result c.loop-label-test.true c.label-item.is)) at c.loop-label.invariant)

pub returns : goal.returns
returns c =
    sym (labels_end c.args.kind label_view c.args.all.now c.loop-label.label-index (map part_view c.loop-label.parts.items) (labels_view c.loop-label.known) (progress_view c.loop-label.progress) c.loop-label-test.false) ∙ c.loop-label.invariant
