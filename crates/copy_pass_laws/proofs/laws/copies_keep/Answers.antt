use Rattle.copy_pass_laws.proofs.Whole.{propagated_runs}
use Rattle.copy_pass_laws.proofs.Keeping.{copies_valid, copies_keep}
use Rattle.copy_pass_laws.proofs.laws.copies_keep.Goals as goal

pub returns : goal.returns
returns c = record { runs = propagated_runs; valid = copies_valid; keeps = copies_keep }
