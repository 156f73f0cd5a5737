use Rattle.std.proofs.Common.{◌<◌, take}
use Rattle.graph_core.specs.Paths.{Among}
use Rattle.graph_core.specs.declared.graph.Graph as declared-graph
use Rattle.graph_core.specs.declared.graph.Scalar as declared-scalar
use Rattle.currency.proofs.rows.variable_count.Given as goal

abbrev pub invariant-loop-graph : goal.invariant-loop-graph
invariant-loop-graph l = (g : declared-graph.Graph) → Among g (take l.graph-index l.homed.unit.graphs.items) → (s : declared-scalar.Scalar) → Among s g.scalars.items → s.var.0 < l.count
