use Rattle.image_form.specs.Views.{viewed}
use Rattle.stop_engine_view.specs.Evidence.{assignment_of}
use Rattle.stop_engine_tables.proofs.Records.{made_of_more}
use Rattle.stop_engine_tables.proofs.flow.flow_assignments.Goals as goal

pub loop-number-preserved : goal.loop-number-preserved
loop-number-preserved c = made_of_more assignment_of (viewed c.args.image.now).assigned c.loop-number.number c.assigned_at-pair.result _ _ c.loop-number.invariant c.assigned_at-pair.ensures c.in_ok-push.ensures.items
