use Rattle.stop_engine.proofs.ActivationLaws.{none_nowhere}
use Rattle.stop_engine.proofs.engine.Engine.frames.Goals as goal

pub returns-clause-none : goal.returns-clause-none
returns-clause-none c = rw (← c.self.view_is) (none_nowhere c.self.inside.run c.in-Some.stop c.in_ok-activations.field-0.items c.in-Some.ensures.some c.in_ok-activations.ensures)
