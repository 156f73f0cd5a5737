use Rattle.std.proofs.Common.{sym, subst, arith}
use Rattle.image_form.specs.Rules.{IsImage}
use Rattle.cdbg_back_tests.proofs.CallingImage.{is_image}
use Rattle.cdbg_back_tests.proofs.engine_tests.assert_session.Goals as goal

pub lines_of-requires : goal.lines_of-requires
lines_of-requires g c = subst IsImage (sym c.in_ok-image.ensures) (is_image _ _ _ (omega arith) (omega arith) (omega arith))
