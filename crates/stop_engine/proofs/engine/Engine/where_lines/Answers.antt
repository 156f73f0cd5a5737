use Rattle.std.proofs.Common.{◌<◌, ap, length, map, subst, sym, ◌∙◌}
use Rattle.image_form.specs.Views.{viewed}
use Rattle.stop_engine.specs.Activations.{activation_lines, activation_of}
use Rattle.stop_engine.proofs.ActivationLaws.{activations_few, where_said}
use Rattle.stop_engine.proofs.engine.Engine.where_lines.Goals as goal

pub activation_lines-requires : goal.activation_lines-requires
activation_lines-requires c =
    subst (λ l. length l < 4294967296) (sym c.deref.ensures.value)
    (activations_few (viewed c.in-Some.stop.image) c.in-Some.stop.machine.now c.in-Some.stop.place c.in_ok-frames.frames.items c.in_ok-frames.ensures)

pub returns : goal.returns
returns c =
    rw (← c.self.view_is) (where_said c.self.inside.run c.in-Some.stop c.in_ok-frames.frames.items _ c.in-Some.ensures.some c.in_ok-frames.ensures
    (c.in_ok-activation_lines.ensures ∙ ap (λ l. activation_lines 0 (map activation_of l)) c.deref.ensures.value))
