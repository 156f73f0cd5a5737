-- How values fall to the solution, block by block, each waiting block once for each fall.
use Rattle.std.specs.Prelude.{◌≡◌, ◌⊎◌, ℕ, zero, suc, ◌+◌, ◌*◌, ◌-◌, ◌^◌, ◌<◌, ◌==◌, if◌then◌else◌, Bool, true, false, List, [], ◌∷◌, length, map, slice_index_or}
use Rattle.std.specs.List.{All, Contains}
use Rattle.std.specs.declared.vec.Vec.{Vec}
use Rattle.std.specs.declared.alloc.Global.{Global}
use Rattle.bit_rows.specs.Grid.{row_at}
use Rattle.graph_solve_problem.specs.declared.flow_graph.Edge.{Edge}
use Rattle.graph_solve_problem.specs.declared.flow_graph.FlowGraph.{FlowGraph}
use Rattle.graph_solve.specs.declared.solving.Tables.{Tables}
use Rattle.graph_solve.specs.declared.task.Task.{Task}
use Rattle.graph_solve.specs.declared.work.Work.{Work}
use Rattle.graph_solve.specs.First.{first_bit}
use Rattle.graph_solve_problem.specs.Problem.{DataFlow}
use Rattle.graph_solve_problem.specs.Paths.{ControlFlow}
use Rattle.graph_solve_problem.specs.Solution.{AreWithin, HasEdge, control_flow}
use Rattle.graph_solve_problem.specs.Rounds.{AreFalling, directed}
use Rattle.graph_solve.specs.Rows.{set_at, sets_at, table}

-- where edges lead from a block, in the order of the edges
abbrev pub targets_from : (block : ℕ) → List Edge → List ℕ
targets_from block [] = []
targets_from block (edge ∷ more) =
    if edge.from == block then edge.to ∷ targets_from block more else targets_from block more

-- For each block, so many, where the edges lead from it.
pub record AreTargets (edges : List Edge) (blocks : ℕ) (targets : List (Vec ℕ Global)) : Type 0 where
  pub each : length targets ≡ blocks
  pub at : (block : ℕ) (d : Vec ℕ Global) → block < blocks
      → (slice_index_or targets block d).items ≡ targets_from block edges

-- the edges as paths lead along them
abbrev pub edges_of : DataFlow → FlowGraph → List Edge
edges_of flow graph = map (directed flow.forward) graph.edges.items

-- The rows of a problem over a graph are what the problem tells of each block and fact.
pub record AreTables (flow : DataFlow) (graph : FlowGraph) (tables : Tables) : Type 0 where
  pub kept : tables.kept ≡ table (length graph.ends.items) flow.width flow.kept
  pub written : tables.written ≡ table (length graph.ends.items) flow.width flow.written
  pub first : tables.first
      ≡ table (length graph.ends.items + length graph.ends.items) flow.width
      (first_bit graph.ends.items flow.forward flow.unites flow.edge)

-- What the solver knows of the problem and the graph.
pub record IsTask (flow : DataFlow) (graph : FlowGraph) (task : Task) : Type 0 where
  pub few : length graph.ends.items + length graph.ends.items < 2 ^ 32
  pub blocks : task.blocks ≡ length graph.ends.items
  pub height : task.height ≡ flow.height
  pub height_fits : task.height < 2 ^ 32
  pub unites : task.unites ≡ flow.unites
  pub kept : task.kept ≡ table task.blocks flow.width flow.kept
  pub written : task.written ≡ table task.blocks flow.width flow.written
  pub within : AreWithin task.blocks (edges_of flow graph)
  pub targets : AreTargets (edges_of flow graph) task.blocks task.targets.items

-- The state of the work: the first rows are the values, the further ones what the blocks make of them. A block that
-- does not wait has made its row of its value, and its edges are settled, but of one block those that are left to
-- follow.
pub record IsState (flow : DataFlow) (control : ControlFlow) (edges : List Edge) (blocks : ℕ)
    (values : List (List Bool)) (queue : List ℕ) (waiting : List Bool) (counts : List ℕ) (block : ℕ) (left : List ℕ)
    : Type 0 where
  pub rows : length values ≡ blocks + blocks
  pub widths : (row : ℕ) → row < blocks + blocks → length (row_at values row) ≡ flow.width
  pub falling : AreFalling flow control (sets_at values 0 blocks) counts
  pub queued : All (λ b. b < blocks) queue
  pub waits : length waiting ≡ blocks
  pub listed : (b : ℕ) → slice_index_or waiting b false ≡ true → Contains queue b
  pub made : (b : ℕ) → b < blocks → slice_index_or waiting b true ≡ false
      → set_at values (blocks + b) ≡ flow.transfer b (set_at values b)
  pub settled : (from to : ℕ) → HasEdge edges from to → slice_index_or waiting from true ≡ false
      → (flow.meet (set_at values to) (flow.transfer from (set_at values from)) ≡ set_at values to)
      ⊎ ((from ≡ block) × Contains left to)

-- the work is in this state
abbrev pub IsWork : DataFlow → FlowGraph → Work → (block : ℕ) → (left : List ℕ) → Type 0
IsWork flow graph work block left =
    IsState flow (control_flow graph) (edges_of flow graph) (length graph.ends.items)
    work.values work.queue.items work.waiting.items work.counts.items block left

-- a block's further row is what it makes of its value
abbrev pub IsMadeAt : DataFlow → FlowGraph → Work → (block : ℕ) → Type 0
IsMadeAt flow graph work block =
    set_at work.values (length graph.ends.items + block) ≡ flow.transfer block (set_at work.values block)

-- how many falls may still come, each weighed by its block, from a block on
abbrev pub falls_to_come : (weight : ℕ → ℕ) (height block : ℕ) (counts : List ℕ) → ℕ
falls_to_come weight height block [] = 0
falls_to_come weight height block (count ∷ counts) =
    weight block * (height - count) + falls_to_come weight height (suc block) counts

-- the blocks of the queue, each weighed
abbrev pub weighed : (weight : ℕ → ℕ) (queue : List ℕ) → ℕ
weighed weight [] = 0
weighed weight (block ∷ queue) = weight block + weighed weight queue

-- what is still to come at most: the queue, and a block for each fall
abbrev pub to_come : (weight : ℕ → ℕ) (height : ℕ) → Work → ℕ
to_come weight height work = falls_to_come weight height 0 work.counts.items + weighed weight work.queue.items

-- of how many edges a block is the start
abbrev pub edges_from : Task → ℕ → ℕ
edges_from task block = length (slice_index_or (map (λ (v : Vec ℕ Global). v.items) task.targets.items) block [])

-- the sum of the first weights, so many
abbrev pub sum_to : (weight : ℕ → ℕ) → (count : ℕ) → ℕ
sum_to weight zero = 0
sum_to weight (suc count) = sum_to weight count + weight count
