use Rattle.std.proofs.Common.{◌-◌}
use Rattle.image_form.specs.Views.{viewed}
use Rattle.stop_engine.proofs.PlaceFunctions.{place_function}
use Rattle.stop_engine.proofs.lines.halt_line.Goals as goal

-- src/lines.rt:31:17
pub function-function-requires-clause-number : goal.function-function-requires-clause-number
function-function-requires-clause-number c =
    place_function (viewed c.args.image.now) (c.in-At.place - 1) c.place_at-at.result c.requires.image c.place_at-at.ensures
