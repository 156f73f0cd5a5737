use Rattle.std.proofs.Common.{◌≡◌, ◌≤◌, drop}
use Rattle.image_form.specs.Views.{viewed}
use Rattle.stop_engine_view.specs.Pointers.{static_target}
use Rattle.stop_engine_texts.proofs.pointers.static_target.Given as goal

abbrev pub invariant-loop-index : goal.invariant-loop-index
invariant-loop-index l =
    (l.count ≤ l.index)
    × (static_target l.address l.index l.count (drop l.index (viewed l.image).variables) ≡ static_target l.address 0 0 (viewed l.image).variables)
