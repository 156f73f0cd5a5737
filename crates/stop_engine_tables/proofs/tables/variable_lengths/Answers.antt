use Rattle.image_form.specs.declared.variables.Variable.{Variable}
use Rattle.image_form.specs.Views.{viewed}
use Rattle.stop_engine_tables.proofs.Records.{made_of_more}
use Rattle.stop_engine_tables.proofs.tables.variable_lengths.Goals as goal

pub loop-number-preserved : goal.loop-number-preserved
loop-number-preserved c =
    made_of_more (λ (x : Variable). x.name_length) (viewed c.args.image.now).variables c.loop-number.number c.variable_at.result _ _ c.loop-number.invariant c.variable_at.ensures c.in_ok-push.ensures.items
