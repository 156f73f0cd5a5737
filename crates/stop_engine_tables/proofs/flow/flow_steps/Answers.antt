use Rattle.image_form.specs.Views.{viewed}
use Rattle.stop_engine_view.specs.Evidence.{step_of}
use Rattle.stop_engine_tables.proofs.Records.{made_of_more}
use Rattle.stop_engine_tables.proofs.flow.flow_steps.Goals as goal

pub loop-number-preserved : goal.loop-number-preserved
loop-number-preserved c = made_of_more step_of (viewed c.args.image.now).flow c.loop-number.number c.flow_at-pair.result _ _ c.loop-number.invariant c.flow_at-pair.ensures c.in_ok-push.ensures.items
