use Rattle.std.proofs.Common.{◌≡◌, map, take}
use Rattle.c_meaning.specs.CActivationsViews.{activation_view}
use Rattle.c_meaning_values.specs.Views.{object_view}
use Rattle.c_meaning_steps.specs.Views.{shown_view}
use Rattle.c_meaning.specs.Activations.{shown}
use Rattle.c_meaning.proofs.activation.Activation.shown_at.Given as goal

abbrev pub invariant-loop-variable : goal.invariant-loop-variable
invariant-loop-variable l =
    map shown_view l.shown.items ≡ map (shown (activation_view l.self) (map object_view l.memory)) (take l.variable-index l.variable-items)
