use Rattle.cdbg_passes.proofs.WorkedLeft.{are_refused}
use Rattle.cdbg_passes.proofs.laws.what_is_left_is_refused.Goals as goal

pub returns : goal.returns
returns c = are_refused
