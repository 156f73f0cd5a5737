-- What instructions of a graph cost, in whatever is counted, and what the way from a point of the graph to the next
-- marker costs.
use Rattle.std.specs.Prelude.{ℕ, zero, suc, ◌+◌, Bool, true, false, if◌then◌else◌, List, [], ◌∷◌, length, slice_get}
use Rattle.std.specs.Option.{option_map_or}
use Rattle.graph_core.specs.Graphs.{Instruction, Block, Graph}
use Rattle.graph_core.specs.Paths.{is_marker}

-- What instructions cost, in a state that goes on from each to the next: the state in which each block begins, the one
-- behind an instruction, what an instruction costs, and what the end of each block does.
pub record Costs (S : Type 0) : Type 0 where
  pub first : (block : ℕ) → S
  pub next : Instruction → S → S
  pub cost : Instruction → S → ℕ
  pub last : (block : ℕ) → ℕ

-- one of these instructions is a marker
abbrev pub has_marker : List Instruction → Bool
has_marker [] = false
has_marker (i ∷ more) = if is_marker i then true else has_marker more

-- the sum of a number for each index below a bound
abbrev pub sum_below : (ℕ → ℕ) → (bound : ℕ) → ℕ
sum_below f zero = 0
sum_below f (suc n) = f n + sum_below f n

module _ {S : Type 0} (c : Costs S) where
  -- the state behind instructions
  abbrev pub state_behind : List Instruction → S → S
  state_behind [] s = s
  state_behind (i ∷ more) s = state_behind more (c.next i s)

  -- what instructions cost together
  abbrev pub cost_of_all : List Instruction → S → ℕ
  cost_of_all [] s = 0
  cost_of_all (i ∷ more) s = c.cost i s + cost_of_all more (c.next i s)

  -- what they cost up to the first marker and with it
  abbrev pub cost_to_marker : List Instruction → S → ℕ
  cost_to_marker [] s = 0
  cost_to_marker (i ∷ more) s = c.cost i s + (if is_marker i then 0 else cost_to_marker more (c.next i s))

  -- what a block costs with its end
  abbrev pub cost_of_block : Graph → (block : ℕ) → ℕ
  cost_of_block g l =
      option_map_or (λ (b : Block). cost_of_all b.instructions (c.first l) + c.last l) (slice_get g.blocks l) 0

  -- what all blocks of a graph cost
  abbrev pub cost_of_graph : Graph → ℕ
  cost_of_graph g = sum_below (cost_of_block g) (length g.blocks)
