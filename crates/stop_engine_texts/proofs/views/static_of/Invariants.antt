use Rattle.std.proofs.Common.{◌≡◌, drop}
use Rattle.image_form.specs.Views.{viewed}
use Rattle.stop_engine_texts.specs.Shown.{static_of}
use Rattle.stop_engine_texts.proofs.views.static_of.Given as goal

abbrev pub invariant-loop-number : goal.invariant-loop-number
invariant-loop-number l =
    static_of (viewed l.image) l.position l.name l.number (drop l.number (viewed l.image).variables) ≡ static_of (viewed l.image) l.position l.name 0 (viewed l.image).variables
