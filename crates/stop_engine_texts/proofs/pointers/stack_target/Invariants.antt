use Rattle.std.proofs.Common.{◌≡◌}
use Rattle.image_form.specs.Views.{viewed}
use Rattle.image_form.specs.RulesOfFunctions.{IsPlaceNumber}
use Rattle.rv_machine.specs.State.{reg}
use Rattle.stop_engine_view.specs.Pointers.{stack_target}
use Rattle.stop_engine_view.specs.Reading.{depth, greatest_depth}
use Rattle.stop_engine_texts.proofs.pointers.stack_target.Given as goal

abbrev pub invariant-loop-left : goal.invariant-loop-left
invariant-loop-left l = IsPlaceNumber (viewed l.image) l.at
    × (stack_target l.left (viewed l.image) l.machine l.address l.at l.frame l.deep ≡ stack_target greatest_depth (viewed l.image) l.machine l.address l.fn.place (reg l.machine 2) (depth l.machine))

abbrev pub decreases-loop-left : goal.decreases-loop-left
decreases-loop-left l = l.left
