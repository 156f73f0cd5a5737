-- Graphs of which something goes.
use Rattle.std.specs.Prelude.{◌≡◌, List}
use Rattle.places.specs.declared.flow.Assignment.{Assignment}
use Rattle.dead_pass_notes.specs.declared.idle_graph.IdleGraph.{IdleGraph}
use Rattle.graph_core.specs.Graphs.{Graph, graph_view}
use Rattle.dead_pass_rule.specs.Asking.{is_going}
use Rattle.dead_pass_rule.specs.Certified.{AreIdle}
use Rattle.dead_pass_rule.specs.Walks.{turn_of}
use Rattle.graph_paths.specs.Reached.{AreLed}
use Rattle.graph_paths.specs.PathMarksTable.{bits_of}
use Rattle.dead_pass_writes.specs.Telling.{Tells}

-- the graph as it was
abbrev pub graph_of : IdleGraph → Graph
graph_of idle = graph_view idle.graph.now

-- the assignments of its unit
abbrev pub assignments_of : IdleGraph → List Assignment
assignments_of idle = idle.flow.now.assignments.items

-- its unit has these assignments
abbrev pub IsOf : List Assignment → IdleGraph → Type 0
IsOf assignments idle = assignments_of idle ≡ assignments

-- What is told of a graph is so: just the writes go which shall, of each block it is told whether some way leads to it,
-- and of each name where a place writes it once.
pub record IsBorneOut (idle : IdleGraph) : Type 0 where
  pub goes : AreIdle (assignments_of idle) (graph_of idle) (is_going (turn_of idle.turns.items))
  pub led : AreLed (graph_of idle).blocks (bits_of idle.reached 0)
  pub writes : Tells (graph_of idle) idle.writes
