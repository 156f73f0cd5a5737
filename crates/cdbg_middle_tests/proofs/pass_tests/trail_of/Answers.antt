use Rattle.std.proofs.Common.{sym, subst}
use Rattle.graph_core.specs.WellMarked.{AreWellMarked}
use Rattle.pass_law.proofs.WorkedBuilt.{built_is_marked}
use Rattle.cdbg_middle_tests.proofs.pass_tests.trail_of.Goals as goal

pub run_list-requires-clause-marked : goal.run_list-requires-clause-marked
run_list-requires-clause-marked g c = subst AreWellMarked (sym c.in_ok-unit.ensures) built_is_marked
