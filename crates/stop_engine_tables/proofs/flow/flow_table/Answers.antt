use Rattle.std.proofs.Common.{sym, subst}
use Rattle.image_form.specs.Views.{viewed}
use Rattle.places.specs.Flow.{AreInOrder}
use Rattle.stop_engine_view.proofs.FlowOrder.{steps_in_order}
use Rattle.stop_engine_tables.proofs.flow.flow_table.Goals as goal

pub returns-clause-order : goal.returns-clause-order
returns-clause-order c = subst AreInOrder (sym c.in_ok-steps.ensures) (steps_in_order (viewed c.args.image.now).flow c.requires.flow.ascend)
