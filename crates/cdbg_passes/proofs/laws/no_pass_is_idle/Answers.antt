use Rattle.cdbg_passes.proofs.ComputedOnce.{nothing_again, no_more_often, once_more_at_most}
use Rattle.cdbg_passes.proofs.LeftForBounds.{left_for_bounds}
use Rattle.cdbg_passes.proofs.NoCopies.{no_copies_left}
use Rattle.cdbg_passes.proofs.NoDeadCounts.{no_dead_left}
use Rattle.cdbg_passes.proofs.laws.no_pass_is_idle.Goals as goal

pub returns : goal.returns
returns c = record { copy = no_copies_left; dead = no_dead_left; left = left_for_bounds; again = nothing_again; more = no_more_often; ahead = once_more_at_most }
