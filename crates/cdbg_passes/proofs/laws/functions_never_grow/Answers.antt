use Rattle.cdbg_passes.proofs.NeverGrow.{copies_never_grow, dead_never_grow}
use Rattle.cdbg_passes.proofs.laws.functions_never_grow.Goals as goal

pub returns : goal.returns
returns c = record { copy = copies_never_grow; dead = dead_never_grow }
