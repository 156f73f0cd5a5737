use Rattle.graph_build_laws.proofs.Worked.{computes_between}
use Rattle.graph_build_laws.proofs.graph_marking_laws.notes_may_wait.Goals as goal

pub returns : goal.returns
returns c = computes_between
