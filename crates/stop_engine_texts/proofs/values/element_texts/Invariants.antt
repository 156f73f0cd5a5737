use Rattle.std.proofs.Common.{◌≡◌, ℕ, ◌++◌, map}
use Rattle.std.specs.Prelude.{Vec}
use Rattle.std.specs.Global.{Global}
use Rattle.image_form.specs.Views.{viewed}
use Rattle.stop_engine_view.specs.Values.{element_texts}
use Rattle.stop_engine_texts.proofs.values.element_texts.Given as goal

abbrev pub invariant-loop-left : goal.invariant-loop-left
invariant-loop-left l =
    map (λ (t : Vec ℕ Global). t.items) l.texts.items ++ element_texts (viewed l.image) l.machine l.place l.element l.left l.at
    ≡ element_texts (viewed l.image) l.machine l.place l.element l.fn.count l.fn.address

abbrev pub decreases-loop-left : goal.decreases-loop-left
decreases-loop-left l = l.left
