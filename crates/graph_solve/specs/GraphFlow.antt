-- Where execution goes in the graph of a function.
use Rattle.std.specs.Prelude.{◌≡◌, ℕ, ◌<◌, ◌&&◌, Bool, true, false, nat_lt, List, [], ◌∷◌, length, Some, slice_get}
use Rattle.std.specs.List.{All, Contains, sum_by}
use Rattle.graph_core.specs.Graphs.{Block, End, Jump, Branch, Return, Graph}
use Rattle.graph_core.specs.Uses.{targets_of}
use Rattle.graph_solve_problem.specs.declared.flow_graph.Edge.{Edge}
use Rattle.graph_solve_problem.specs.Paths.{ControlFlow}
use Rattle.graph_solve_problem.specs.Solution.{HasEdge}

-- whether the function ends there
abbrev pub is_return : End → Bool
is_return (Jump l) = false
is_return (Branch c a b l m) = false
is_return (Return a) = true

-- Execution goes from a block to those that its end names; the function ends where the end returns.
abbrev pub graph_flow : Graph → ControlFlow
graph_flow g = record {
  Goes = λ from to. (b : Block) × (slice_get g.blocks from ≡ Some b) × Contains (targets_of b.end) to;
  Ends = λ n. (b : Block) × (slice_get g.blocks n ≡ Some b) × (is_return b.end ≡ true);
}

-- Each end names blocks of the graph.
abbrev pub AreTargetsWithin : Graph → Type 0
AreTargetsWithin g = All (λ (b : Block). All (λ to. to < length g.blocks) (targets_of b.end)) g.blocks

-- whether all these blocks are below the number
abbrev pub leads_within : (blocks : ℕ) → List ℕ → Bool
leads_within blocks [] = true
leads_within blocks (to ∷ more) = nat_lt to blocks && leads_within blocks more

-- whether the ends of these blocks name only blocks below the number
abbrev pub lead_within : (blocks : ℕ) → List Block → Bool
lead_within blocks [] = true
lead_within blocks (b ∷ more) = leads_within blocks (targets_of b.end) && lead_within blocks more

-- how many edges there are, one for each block that an end names
abbrev pub edge_count : Graph → ℕ
edge_count g = sum_by (λ (b : Block). length (targets_of b.end)) g.blocks

-- the edge from one block to another
abbrev pub edge_from : (from to : ℕ) → Edge
edge_from from to = record { from = from; to = to }

-- These are the ends of the first blocks, so many, and the edges from them.
pub record AreFlow (g : Graph) (blocks : ℕ) (ends : List Bool) (edges : List Edge) : Type 0 where
  pub each : length ends ≡ blocks
  pub at : (n : ℕ) (b : Block) → n < blocks → slice_get g.blocks n ≡ Some b → slice_get ends n ≡ Some (is_return b.end)
  pub only : (from to : ℕ) → HasEdge edges from to → (from < blocks) × (graph_flow g).Goes from to
  pub all : (from to : ℕ) → from < blocks → (graph_flow g).Goes from to → HasEdge edges from to
