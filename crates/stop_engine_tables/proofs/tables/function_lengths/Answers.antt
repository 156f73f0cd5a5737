use Rattle.image_form.specs.declared.tables.Function.{Function}
use Rattle.image_form.specs.Views.{viewed}
use Rattle.stop_engine_tables.proofs.Records.{made_of_more}
use Rattle.stop_engine_tables.proofs.tables.function_lengths.Goals as goal

pub loop-number-preserved : goal.loop-number-preserved
loop-number-preserved c =
    made_of_more (λ (x : Function). x.name_length) (viewed c.args.image.now).functions c.loop-number.number c.function_at.result _ _ c.loop-number.invariant c.function_at.ensures c.in_ok-push.ensures.items
