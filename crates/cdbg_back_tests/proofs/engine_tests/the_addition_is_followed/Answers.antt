use Rattle.std.proofs.Common.{sym, subst}
use Rattle.image_form.specs.Rules.{IsImage}
use Rattle.cdbg_back_tests.proofs.AdditionImage.{is_image}
use Rattle.cdbg_back_tests.proofs.engine_tests.the_addition_is_followed.Goals as goal

pub lines_of-requires : goal.lines_of-requires
lines_of-requires g c = subst IsImage (sym c.in_ok-image.ensures) is_image
