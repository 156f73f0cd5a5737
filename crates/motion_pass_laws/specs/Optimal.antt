-- CODE MOTION IS COMPUTATIONALLY OPTIMAL (Knoop, Rüthing and Steffen 1992): no safe way to place a computation does it
-- less often on any path.
use Rattle.std.specs.Prelude.{◌≡◌, ℕ, ◌+◌, ◌≤◌, ◌&&◌, ◌||◌, not, Bool, true, false, if◌then◌else◌, Option, List, [], ◌∷◌, length}
use Rattle.graph_core.specs.Graphs.{Operand, Instruction, End, Return, Graph}
use Rattle.graph_core.specs.Paths.{History, Way, stays, passes, goes, Path, path}
use Rattle.graph_core.specs.Computations.{Computation}
use Rattle.motion_pass_points.specs.Computing.{spoils}
use Rattle.motion_pass_points.specs.Ways.{Point, within, along, does_at, IsUnsafe, IsUnhad}
use Rattle.motion_pass_laws.specs.Often.{times, AreOnePath}

-- A PLACEMENT of a computation: at which points of a graph, in blocks and on edges, it is inserted, to be done into a
-- temporary, and at which an instruction that does it reads the temporary instead.
pub record Placement : Type 0 where
  pub inserts : Point → Bool
  pub reads : Point → Bool

-- A graph, a computation, and a placement of this.
module _ (g : Graph) (e : Computation) (l : Placement) where
  -- The temporary has the value behind a way: the computation was inserted at a point that the way left, and no operand
  -- was written since. What is inserted at a point is done before the instruction there.
  abbrev pub has_along : {from : ℕ} {rest : List Instruction} {end : End} {history : History} {n : ℕ}
      {left : List Instruction} {f : End}
      → Way g from rest end history n left f → Bool
  has_along stays = false
  has_along (passes {n = n} {i = i} {left = left} {e = f} way v) =
      not (spoils e i) && (l.inserts (within n (i ∷ left) f) || has_along way)
  has_along (goes {n = n} {l = to} {e = f} way among b at) =
      l.inserts (along n to) || (l.inserts (within n [] f) || has_along way)

  -- on this path a placement has the value where the path comes to
  abbrev pub has_on : {history : History} {n : ℕ} {rest : List Instruction} {f : End} → Path g history n rest f → Bool
  has_on (path b at way) = has_along way

  -- A PLACEMENT IS SAFE: it inserts only where the computation is down-safe or up-safe; and where it reads, the
  -- temporary has the value on each path to there, or gets it at the point itself.
  pub record IsSafe : Type 0 where
    pub safe : (p : Point) → l.inserts p ≡ true → IsUnsafe g.blocks e p → IsUnhad g.blocks e p → ⊥
    pub ready : (n : ℕ) (rest : List Instruction) (f : End) → does_at e (within n rest f) ≡ true
        → l.reads (within n rest f) ≡ true → (history : History) (way : Path g history n rest f)
        → (l.inserts (within n rest f) || has_on way) ≡ true

  -- How often a placement does the computation at a point: once if it is inserted, and once if the instruction there
  -- does it and does not read the temporary.
  abbrev pub spent_at : Point → ℕ
  spent_at p = (if l.inserts p then 1 else 0) + (if does_at e p && not (l.reads p) then 1 else 0)

  -- and at all points that a way left
  abbrev pub spent_along : {from : ℕ} {rest : List Instruction} {end : End} {history : History} {n : ℕ}
      {left : List Instruction} {f : End}
      → Way g from rest end history n left f → ℕ
  spent_along stays = 0
  spent_along (passes {n = n} {i = i} {left = left} {e = f} way v) = spent_along way + spent_at (within n (i ∷ left) f)
  spent_along (goes {n = n} {l = to} {e = f} way among b at) =
      (spent_along way + spent_at (within n [] f)) + spent_at (along n to)

  -- how often a placement does the computation on this path
  abbrev pub spent_on : {history : History} {n : ℕ} {rest : List Instruction} {f : End} → Path g history n rest f → ℕ
  spent_on (path b at way) = spent_along way

-- the blocks that a way entered along edges, the latest first
abbrev pub entered_along : {g : Graph} {from : ℕ} {rest : List Instruction} {end : End} {history : History} {n : ℕ}
    {left : List Instruction} {f : End}
    → Way g from rest end history n left f → List ℕ
entered_along stays = []
entered_along (passes way v) = entered_along way
entered_along (goes {l = to} way among b at) = to ∷ entered_along way

-- the blocks that a path entered along edges, the latest first
abbrev pub entered : {g : Graph} {history : History} {n : ℕ} {rest : List Instruction} {f : End}
    → Path g history n rest f → List ℕ
entered (path b at way) = entered_along way

-- THE SAME BLOCKS are entered before and after, but for those after that the graph before has not.
pub data AreSameBlocks (g : Graph) : (before after : List ℕ) → Type 0 where
  none_entered : AreSameBlocks g [] []
  both_entered : {to : ℕ} {before after : List ℕ} → AreSameBlocks g before after
      → AreSameBlocks g (to ∷ before) (to ∷ after)
  own_entered : {to : ℕ} {before after : List ℕ} → length g.blocks ≤ to → AreSameBlocks g before after
      → AreSameBlocks g before (to ∷ after)

-- A path to an end of the function before is one with a path after, along the same blocks; and on it no safe placement
-- does any computation less often than that.
pub record DoesLeast (g : Graph) (after : History) (blocks : List ℕ) (n : ℕ) (a : Option Operand) : Type 0 where
  pub before : History
  pub way : Path g before n [] (Return a)
  pub one : AreOnePath g before after
  pub same : AreSameBlocks g (entered way) blocks
  pub least : (e : Computation) (l : Placement) → IsSafe g e l → times e after ≤ spent_on g e l way

-- A GRAPH IS COMPUTATIONALLY OPTIMAL among all that safe placements make of another: to each path of it, from the entry
-- to an end of the function, there is the same path of the graph before, and on it every safe placement does each
-- computation at least as often.
abbrev pub IsOptimal : (g h : Graph) → Type 0
IsOptimal g h =
    (after : History) (n : ℕ) (a : Option Operand) (way : Path h after n [] (Return a))
    → DoesLeast g after (entered way) n a
