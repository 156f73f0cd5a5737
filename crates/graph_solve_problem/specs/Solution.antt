-- What solves a problem of data flow over a graph.
use Rattle.std.specs.Prelude.{◌≡◌, ℕ, ◌<◌, Bool, true, false, List, length, Some, slice_get}
use Rattle.std.specs.List.{All, Contains}
use Rattle.graph_solve_problem.specs.declared.flow_graph.Edge.{Edge}
use Rattle.graph_solve_problem.specs.declared.flow_graph.FlowGraph.{FlowGraph}
use Rattle.graph_solve_problem.specs.Numbers.{Numbers}
use Rattle.graph_solve_problem.specs.Problem.{DataFlow}
use Rattle.graph_solve_problem.specs.Paths.{ControlFlow, Comes, Leaves}
use Rattle.graph_solve_problem.specs.Meets.{IsMeetOf}

-- Each block's value is the meet over all paths to the block of what comes along them.
abbrev pub AreMet : DataFlow → ControlFlow → List Numbers → Type 0
AreMet flow control values =
    (block : ℕ) (value : Numbers) → slice_get values block ≡ Some value
    → IsMeetOf flow.meet (Comes flow control block) value

-- Each block's value is the meet over all paths to the block of what the block makes of what comes along them.
abbrev pub AreMetBehind : DataFlow → ControlFlow → List Numbers → Type 0
AreMetBehind flow control values =
    (block : ℕ) (value : Numbers) → slice_get values block ≡ Some value
    → IsMeetOf flow.meet (Leaves flow control block) value

-- Paths come to a block at its start and leave it at its end; those against execution come to its end and leave it at
-- its start.
abbrev pub AreMetBySides : DataFlow → ControlFlow → (forward : Bool) → (starts ends : List Numbers) → Type 0
AreMetBySides flow control true starts ends = AreMet flow control starts × AreMetBehind flow control ends
AreMetBySides flow control false starts ends = AreMet flow control ends × AreMetBehind flow control starts

-- The values at the starts and at the ends of this many blocks solve the problem.
pub record IsSolution (flow : DataFlow) (control : ControlFlow) (blocks : ℕ) (starts ends : List Numbers) : Type 0 where
  pub starts_each : length starts ≡ blocks
  pub ends_each : length ends ≡ blocks
  pub met : AreMetBySides flow control flow.forward starts ends

-- the edge stands in the list
abbrev pub HasEdge : List Edge → (from to : ℕ) → Type 0
HasEdge edges from to = Contains edges (record { from = from; to = to })

-- execution goes along the edges of the graph
abbrev pub control_flow : FlowGraph → ControlFlow
control_flow graph =
    record { Goes = HasEdge graph.edges.items; Ends = λ block. slice_get graph.ends.items block ≡ Some true }

-- each edge leads from one of so many blocks to one of them
abbrev pub AreWithin : (blocks : ℕ) → List Edge → Type 0
AreWithin blocks edges = All (λ (edge : Edge). (edge.from < blocks) × (edge.to < blocks)) edges
