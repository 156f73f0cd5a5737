use Rattle.std.proofs.Common.{◌≡◌, ◌++◌, drop, map}
use Rattle.image_form.specs.Views.{viewed}
use Rattle.stop_engine.specs.Activations.{activation_at, activation_of}
use Rattle.stop_engine.proofs.activations.activations_at.Given as goal

abbrev pub invariant-loop-place : goal.invariant-loop-place
invariant-loop-place l =
    map activation_of l.frames.items ++ map (activation_at (viewed l.image)) (drop l.place-index l.places) ≡ map (activation_at (viewed l.image)) l.places
