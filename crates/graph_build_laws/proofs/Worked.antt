-- The code of the worked expression.
use Rattle.std.proofs.Common.{refl}
use Rattle.graph_build_laws.specs.GraphMarkingWorked.{ComputesBetween}

pub computes_between : ComputesBetween
computes_between = refl
