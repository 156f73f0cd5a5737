-- How values fall to the solution, edge by edge.
use Rattle.std.specs.Prelude.{◌≡◌, ◌≢◌, ◌⊎◌, ℕ, ◌<◌, ◌+◌, ◌-◌, Bool, true, false, List, [], ◌∷◌, length, Some, slice_get, slice_set}
use Rattle.std.specs.List.{All}
use Rattle.graph_solve_problem.specs.declared.flow_graph.Edge.{Edge}
use Rattle.graph_solve_problem.specs.Numbers.{Numbers}
use Rattle.graph_solve_problem.specs.Problem.{DataFlow, Falls}
use Rattle.graph_solve_problem.specs.Paths.{ControlFlow, Begins, Leads, Comes}
use Rattle.graph_solve_problem.specs.Meets.{SomeMeet}
use Rattle.graph_solve_problem.specs.Solution.{HasEdge}

-- These edges are those of the graph, in the direction of the problem's paths.
pub record AreDirected (control : ControlFlow) (forward : Bool) (edges : List Edge) : Type 0 where
  pub only : (from to : ℕ) → HasEdge edges from to → Leads control forward from to
  pub all : (from to : ℕ) → Leads control forward from to → HasEdge edges from to

-- The values fell as often as the counts say.
pub record AreCounted (flow : DataFlow) (values : List Numbers) (counts : List ℕ) : Type 0 where
  pub lengths : length values ≡ length counts
  pub value : (block : ℕ) (x : Numbers) → slice_get values block ≡ Some x → flow.IsValue x
  pub chain : (block count : ℕ) (x : Numbers) → slice_get values block ≡ Some x → slice_get counts block ≡ Some count
      → Falls flow.IsValue flow.meet count x

-- Each value is the meet over some paths, and below the edge's value where paths begin.
pub record AreFalling (flow : DataFlow) (control : ControlFlow) (values : List Numbers) (counts : List ℕ) : Type 0 where
  pub counted : AreCounted flow values counts
  pub below_edge : (block : ℕ) (x : Numbers) → Begins control flow.forward block → slice_get values block ≡ Some x
      → flow.meet x flow.edge ≡ x
  pub made : (block : ℕ) (x : Numbers) → slice_get values block ≡ Some x
      → SomeMeet flow.meet (Comes flow control block) x

-- The value behind the edge lies below what comes along it.
abbrev pub IsSettled : DataFlow → List Numbers → Edge → Type 0
IsSettled flow values edge =
    (x y : Numbers) → slice_get values edge.from ≡ Some x → slice_get values edge.to ≡ Some y
    → flow.meet y (flow.transfer edge.from x) ≡ y

-- each edge is settled
abbrev pub AreAllSettled : DataFlow → List Edge → List Numbers → Type 0
AreAllSettled flow edges values = All (IsSettled flow values) edges

-- The value behind the edge fell to its meet with what comes along it.
pub record HasFallen (flow : DataFlow) (edge : Edge) (values : List Numbers) (counts : List ℕ)
    (new_values : List Numbers) (new_counts : List ℕ) : Type 0 where
  pub from_value : Numbers
  pub to_value : Numbers
  pub count : ℕ
  pub from_at : slice_get values edge.from ≡ Some from_value
  pub to_at : slice_get values edge.to ≡ Some to_value
  pub count_at : slice_get counts edge.to ≡ Some count
  pub differs : flow.meet to_value (flow.transfer edge.from from_value) ≢ to_value
  pub falls : new_values ≡ slice_set values edge.to (flow.meet to_value (flow.transfer edge.from from_value))
  pub counts_it : new_counts ≡ slice_set counts edge.to (count + 1)

-- An edge was followed: a value fell, or nothing changed since the edge is settled.
abbrev pub IsRelaxed : DataFlow → Edge
    → (values : List Numbers) (counts : List ℕ) (new_values : List Numbers) (new_counts : List ℕ) → (changed : Bool)
    → Type 0
IsRelaxed flow edge values counts new_values new_counts true = HasFallen flow edge values counts new_values new_counts
IsRelaxed flow edge values counts new_values new_counts false =
    (new_values ≡ values) × (new_counts ≡ counts) × IsSettled flow values edge

-- Edges of the list were followed, one after another.
pub data Follows (flow : DataFlow) (edges : List Edge) (values : List Numbers) (counts : List ℕ) : List Numbers → List ℕ
    → Type 0 where
  rests : Follows flow edges values counts values counts
  relaxes : {mid_values : List Numbers} {mid_counts : List ℕ} {new_values : List Numbers} {new_counts : List ℕ}
      (edge : Edge) →
      Follows flow edges values counts mid_values mid_counts → HasEdge edges edge.from edge.to
      → HasFallen flow edge mid_values mid_counts new_values new_counts →
      Follows flow edges values counts new_values new_counts

-- how many falls may still come, at this height
abbrev pub falls_left : ℕ → List ℕ → ℕ
falls_left height [] = 0
falls_left height (count ∷ counts) = (height - count) + falls_left height counts

-- The first of so many values: the edge's where paths begin, and the top elsewhere.
pub record AreFirst (flow : DataFlow) (control : ControlFlow) (blocks : ℕ) (values : List Numbers) : Type 0 where
  pub each : length values ≡ blocks
  pub at : (block : ℕ) (x : Numbers) → slice_get values block ≡ Some x
      → (Begins control flow.forward block × (x ≡ flow.edge))
      ⊎ ((Begins control flow.forward block → ⊥) × (x ≡ flow.top))

-- These are values of the problem.
abbrev pub AreValues : DataFlow → List Numbers → Type 0
AreValues flow values = All flow.IsValue values

-- The first blocks, so many, made these of their values.
pub record AreMade (flow : DataFlow) (values : List Numbers) (blocks : ℕ) (made : List Numbers) : Type 0 where
  pub each : length made ≡ blocks
  pub at : (block : ℕ) (x : Numbers) → block < blocks → slice_get values block ≡ Some x
      → slice_get made block ≡ Some (flow.transfer block x)

-- the edge as paths lead along it: as it is, or turned
abbrev pub directed : (forward : Bool) → Edge → Edge
directed true edge = edge
directed false edge = record { from = edge.to; to = edge.from }
