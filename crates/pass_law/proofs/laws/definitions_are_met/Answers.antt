use Rattle.pass_law.proofs.WorkedPass.{are_worked}
use Rattle.pass_law.proofs.WorkedNot.{are_not_worked}
use Rattle.pass_law.proofs.laws.definitions_are_met.Goals as goal

pub returns : goal.returns
returns c = record { met = are_worked; refused = are_not_worked }
