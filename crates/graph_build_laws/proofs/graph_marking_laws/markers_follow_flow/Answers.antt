use Rattle.graph_build_laws.proofs.Following.{follow_flow}
use Rattle.graph_build_laws.proofs.graph_marking_laws.markers_follow_flow.Goals as goal

pub returns : goal.returns
returns c = follow_flow
