use Rattle.std.proofs.Common.{sym, subst}
use Rattle.cdbg_middle_tests.specs.Passing.{HasShape}
use Rattle.cdbg_middle_tests.proofs.Shapes.{met_shape}
use Rattle.cdbg_middle_tests.proofs.solve_tests.meet.Goals as goal

pub returns : goal.returns
returns c = subst (HasShape 2 70) (sym c.meet_into.ensures.met) (met_shape c.args.unite c.args.rows.now c.requires.shape)
