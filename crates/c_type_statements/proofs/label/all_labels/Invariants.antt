use Rattle.std.proofs.Common.{◌≡◌, drop}
use Rattle.std.specs.Prelude.{map}
use Rattle.c_tree.specs.Statements.{label_view}
use Rattle.c_type_declarations.specs.Progress.{next_met, progress_view}
use Rattle.c_type_statements.specs.Chains.{labels_met}
use Rattle.c_type_statements.specs.Switches.{behind, labels_view, part_view}
use Rattle.c_type_statements.proofs.label.all_labels.Given as goal

abbrev pub invariant-loop-label : goal.invariant-loop-label
invariant-loop-label l =
    next_met (labels_met l.kind (map label_view (drop l.label-index l.all)) (labels_view l.known) (progress_view l.progress)) (behind (map part_view l.parts.items)) ≡ next_met (labels_met l.kind (map label_view l.all) (labels_view l.fn.known) (progress_view l.fn.progress)) (behind (map part_view l.fn.parts.items))
