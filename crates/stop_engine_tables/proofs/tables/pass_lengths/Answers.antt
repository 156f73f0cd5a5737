use Rattle.image_form.specs.declared.tables.Change.{Change}
use Rattle.image_form.specs.Views.{viewed}
use Rattle.stop_engine_tables.proofs.Records.{made_of_more}
use Rattle.stop_engine_tables.proofs.tables.pass_lengths.Goals as goal

pub loop-number-preserved : goal.loop-number-preserved
loop-number-preserved c =
    made_of_more (λ (x : Change). x.pass_length) (viewed c.args.image.now).changes c.loop-number.number c.change_at.result _ _ c.loop-number.invariant c.change_at.ensures c.in_ok-push.ensures.items
