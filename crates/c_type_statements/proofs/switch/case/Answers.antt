use Rattle.std.specs.Prelude.{map}
use Rattle.c_tree.specs.Expressions.{expression_view}
use Rattle.c_type_declarations.specs.Progress.{progress_view}
use Rattle.c_type_statements.specs.Switches.{labels_view, part_view}
use Rattle.c_type_statements.proofs.Labels.{case_valueless}
use Rattle.c_type_statements.proofs.switch.case.Goals as goal

pub returns-in-None : goal.returns-in-None
returns-in-None c =
    case_valueless c.args.kind c.args.extent (expression_view c.args.e.now) (labels_view c.args.labels.now) (map part_view c.args.parts.now.items) (progress_view c.args.progress.now) (progress_view c.value.new.self) (rw c.in-None.is at c.in_ok-value.ensures)
