use Rattle.graph_build_laws.proofs.Converting.{is_converting}
use Rattle.graph_build_laws.proofs.laws.nodes_are_too_few.Goals as goal

pub returns : goal.returns
returns c = is_converting
