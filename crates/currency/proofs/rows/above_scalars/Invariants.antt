use Rattle.std.proofs.Common.{◌<◌, ◌≤◌, take}
use Rattle.graph_core.specs.Paths.{Among}
use Rattle.graph_core.specs.declared.graph.Scalar as declared-scalar
use Rattle.currency.proofs.rows.above_scalars.Given as goal

abbrev pub invariant-loop-scalar : goal.invariant-loop-scalar
invariant-loop-scalar l = record { least : l.least ≤ l.count; above : (s : declared-scalar.Scalar) → Among s (take l.scalar-index l.scalars) → s.var.0 < l.count }
