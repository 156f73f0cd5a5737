use Rattle.pass_law.proofs.WorkedCopy.{are_borne_out}
use Rattle.pass_law.proofs.WorkedRefusals.{are_not_borne_out}
use Rattle.pass_law.proofs.laws.changes_are_borne_out.Goals as goal

pub returns : goal.returns
returns c = record { met = are_borne_out; refused = are_not_borne_out }
