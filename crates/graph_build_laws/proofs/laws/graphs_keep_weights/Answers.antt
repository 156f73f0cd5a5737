use Rattle.graph_build_laws.proofs.Keeping.{keep_weights}
use Rattle.graph_build_laws.proofs.laws.graphs_keep_weights.Goals as goal

pub returns : goal.returns
returns c = keep_weights
