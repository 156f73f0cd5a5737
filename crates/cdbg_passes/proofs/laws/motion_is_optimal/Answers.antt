use Rattle.motion_pass_laws.proofs.Unplaced.{optimal_no_more}
use Rattle.cdbg_passes.proofs.ComputedOnce.{are_optimal}
use Rattle.cdbg_passes.proofs.laws.motion_is_optimal.Goals as goal

pub returns : goal.returns
returns c = record { optimal = are_optimal; more = optimal_no_more }
