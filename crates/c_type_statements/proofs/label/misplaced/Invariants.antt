use Rattle.std.proofs.Common.{◌≡◌, drop}
use Rattle.std.specs.Prelude.{map}
use Rattle.c_tree.specs.Statements.{label_view}
use Rattle.c_type_declarations.specs.Progress.{progress_view}
use Rattle.c_type_statements.specs.Chains.{misplaced}
use Rattle.c_type_statements.proofs.label.misplaced.Given as goal

abbrev pub invariant-loop-label : goal.invariant-loop-label
invariant-loop-label l = misplaced (map label_view (drop l.label-index l.labels)) (progress_view l.progress) ≡ misplaced (map label_view l.labels) (progress_view l.fn.progress)
