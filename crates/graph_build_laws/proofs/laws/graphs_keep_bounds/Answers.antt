use Rattle.graph_build_laws.proofs.Keeping.{keep_bounds}
use Rattle.graph_build_laws.proofs.laws.graphs_keep_bounds.Goals as goal

pub returns : goal.returns
returns c = keep_bounds
