use Rattle.std.proofs.Common.{◌≡◌, map, take}
use Rattle.image_form.specs.Views.{viewed}
use Rattle.stop_engine_view.specs.Evidence.{step_of}
use Rattle.stop_engine_tables.proofs.flow.flow_steps.Given as goal

abbrev pub invariant-loop-number : goal.invariant-loop-number
invariant-loop-number l = l.steps.items ≡ map step_of (take l.number (viewed l.image).flow)
