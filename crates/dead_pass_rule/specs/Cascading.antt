-- A graph of which writes go, in a unit of assignments.
use Rattle.std.specs.Prelude.{◌≡◌, ◌+◌, ◌<◌, ◌^◌, List, length}
use Rattle.places.specs.declared.flow.Assignment.{Assignment}
use Rattle.graph_core.specs.Graphs.{Graph, graph_view}
use Rattle.graph_paths.specs.PathMarksTable.{bits_of}
use Rattle.graph_paths.specs.Reached.{AreLed}
use Rattle.dead_pass_rule.specs.Free.{AreAllFree, AreNamed}
use Rattle.dead_pass_rule.specs.declared.cascade.FreeGraph.{FreeGraph}

-- the graph
abbrev pub graph_of : FreeGraph → Graph
graph_of free = graph_view free.graph.now

-- the assignments of its unit
abbrev pub assignments_of : FreeGraph → List Assignment
assignments_of free = free.flow.now.assignments.items

-- What is told of the graph is so: how many blocks it has, to which of these ways lead, how many names it has, and
-- which writes may go.
pub record IsTold (free : FreeGraph) : Type 0 where
  pub blocks : free.count ≡ length (graph_of free).blocks
  pub few : free.count + 2 < 2 ^ 32
  pub led : AreLed (graph_of free).blocks (bits_of free.reached.now 0)
  pub named : AreNamed (graph_of free).blocks (graph_of free).name_count
  pub may_go : AreAllFree (assignments_of free) (graph_of free) free.may_go.items
