use Rattle.std.proofs.Common.{sym, subst}
use Rattle.image_form.specs.Rules.{IsImage}
use Rattle.cdbg_back_tests.proofs.AdditionImage.{is_image}
use Rattle.cdbg_back_tests.proofs.engine_tests.a_run_has_its_own_output.Goals as goal

pub write-requires : goal.write-requires
write-requires g c = subst IsImage (sym c.in_ok-image.ensures) is_image
