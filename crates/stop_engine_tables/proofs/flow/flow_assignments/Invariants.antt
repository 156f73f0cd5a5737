use Rattle.std.proofs.Common.{◌≡◌, map, take}
use Rattle.image_form.specs.Views.{viewed}
use Rattle.stop_engine_view.specs.Evidence.{assignment_of}
use Rattle.stop_engine_tables.proofs.flow.flow_assignments.Given as goal

abbrev pub invariant-loop-number : goal.invariant-loop-number
invariant-loop-number l = l.assignments.items ≡ map assignment_of (take l.number (viewed l.image).assigned)
