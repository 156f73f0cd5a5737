use Rattle.std.proofs.Common.{◌≤◌, length}
use Rattle.image_form.specs.Views.{viewed}
use Rattle.stop_engine_tables.proofs.VariableListLaws.{AreLinked}
use Rattle.stop_engine_tables.proofs.variable_lists.link.Given as goal

abbrev pub invariant-loop-left : goal.invariant-loop-left
invariant-loop-left l = (l.left ≤ length (viewed l.image).variables) × AreLinked (viewed l.image).variables l.left l.first l.next

abbrev pub decreases-loop-left : goal.decreases-loop-left
decreases-loop-left l = l.left
