-- Paths through the blocks of a graph, and what flows along them.
use Rattle.std.specs.Prelude.{◌≡◌, ℕ, Bool, true, false}
use Rattle.graph_solve_problem.specs.Numbers.{Numbers}
use Rattle.graph_solve_problem.specs.Problem.{DataFlow}

-- Where execution goes in a function. Its blocks have numbers; block 0 is the entry.
pub record ControlFlow : Type 1 where
  -- execution may go from the end of the one block to the start of the other
  pub Goes : (from to : ℕ) → Type 0
  -- the function may end at the block's end
  pub Ends : (block : ℕ) → Type 0

-- Paths begin at the entry; those against execution begin at the ends.
abbrev pub Begins : ControlFlow → (forward : Bool) → (block : ℕ) → Type 0
Begins control true block = block ≡ 0
Begins control false block = control.Ends block

-- Paths lead from block to block as execution goes, or against it.
abbrev pub Leads : ControlFlow → (forward : Bool) → (from to : ℕ) → Type 0
Leads control true from to = control.Goes from to
Leads control false from to = control.Goes to from

-- A path to a block, of finitely many steps. It begins where paths begin, or at any block.
pub data Path (control : ControlFlow) (forward : Bool) : ℕ → Type 0 where
  first : {block : ℕ} → Begins control forward block → Path control forward block
  anywhere : (block : ℕ) → Path control forward block
  next : {from to : ℕ} → Path control forward from → Leads control forward from to → Path control forward to

-- What comes to the path's last block along it: first the edge's value, or the top where the path begins anywhere;
-- and each block that the path leaves makes of it what it does.
abbrev pub along : (flow : DataFlow) (control : ControlFlow) {block : ℕ} → Path control flow.forward block → Numbers
along flow control (first begins) = flow.edge
along flow control (anywhere block) = flow.top
along flow control (next {from} {to} path leads) = flow.transfer from (along flow control path)

-- this value comes to the block along some path
abbrev pub Comes : DataFlow → ControlFlow → (block : ℕ) → Numbers → Type 0
Comes flow control block value = (path : Path control flow.forward block) × (value ≡ along flow control path)

-- the block makes this value of one that comes to it along some path
abbrev pub Leaves : DataFlow → ControlFlow → (block : ℕ) → Numbers → Type 0
Leaves flow control block value =
    (path : Path control flow.forward block) × (value ≡ flow.transfer block (along flow control path))
