use Rattle.graph_build_laws.proofs.Whole.{valid}
use Rattle.graph_build_laws.proofs.graph_program_laws.units_are_valid.Goals as goal

pub returns : goal.returns
returns c = valid
