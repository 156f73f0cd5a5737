use Rattle.cdbg_passes.proofs.CopiesEarned.{copies_earned}
use Rattle.cdbg_passes.proofs.DeadEarned.{dead_earned}
use Rattle.cdbg_passes.proofs.MotionEarned.{motion_earned}
use Rattle.cdbg_passes.proofs.laws.changes_are_earned.Goals as goal

pub returns : goal.returns
returns c = record { copy = copies_earned; motion = motion_earned; dead = dead_earned }
