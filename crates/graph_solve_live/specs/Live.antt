-- Names that are read later, before they are written (Hennessy 1982).
use Rattle.std.specs.Prelude.{◌≡◌, ℕ, ◌<◌, ◌==◌, ◌↔◌, Bool, true, false, if◌then◌else◌, nat_lt, Option, Some, None, List, [], ◌∷◌, length, slice_get}
use Rattle.std.specs.List.{Contains, list_any}
use Rattle.std.specs.FinSet.{contains, insert, remove}
use Rattle.graph_core.specs.Graphs.{Instruction, End, Block, Graph}
use Rattle.graph_core.specs.Uses.{reads_of, reads_of_end, target_of, targets_of}
use Rattle.graph_core.specs.Paths.{reads, writes}
use Rattle.graph_solve_problem.specs.Numbers.{Numbers}

-- the end of a block reads a name
abbrev pub end_reads : ℕ → End → Bool
end_reads x end = list_any (λ y. y == x) (reads_of_end end)

-- From a point of a graph on, some path reads the name before it writes it. A point is what is left of a block, and the
-- block's end.
pub data IsReadFirst (g : Graph) (x : ℕ) : List Instruction → End → Type 0 where
  -- the next instruction reads it
  read : {i : Instruction} {left : List Instruction} {end : End} → reads x i ≡ true → IsReadFirst g x (i ∷ left) end
  -- the end reads it
  read_at_end : {end : End} → end_reads x end ≡ true → IsReadFirst g x [] end
  -- the next instruction does not write it, and it is read first from behind this instruction on
  passed : {i : Instruction} {left : List Instruction} {end : End} → writes x i ≡ false → IsReadFirst g x left end
      → IsReadFirst g x (i ∷ left) end
  -- the end leads to a block from whose start on it is read first
  onward : {end : End} (to : ℕ) (b : Block) → Contains (targets_of end) to → slice_get g.blocks to ≡ Some b
      → IsReadFirst g x b.instructions b.end → IsReadFirst g x [] end

-- from the start of the block on it is read first
abbrev pub IsLiveAtStart : Graph → (x n : ℕ) → Type 0
IsLiveAtStart g x n = (b : Block) × (slice_get g.blocks n ≡ Some b) × IsReadFirst g x b.instructions b.end

-- it is read first from the start of a block on to which the block's end leads
abbrev pub IsLiveAtEnd : Graph → (x n : ℕ) → Type 0
IsLiveAtEnd g x n =
    (b : Block) × (slice_get g.blocks n ≡ Some b) × ((to : ℕ) × Contains (targets_of b.end) to × IsLiveAtStart g x to)

-- At the start and at the end of each block just those names of the graph are live that some path from there on reads
-- before it writes them.
pub record AreLive (g : Graph) (starts ends : List Numbers) : Type 0 where
  pub starts_each : length starts ≡ length g.blocks
  pub ends_each : length ends ≡ length g.blocks
  pub at_starts : (n x : ℕ) (live : Numbers) → slice_get starts n ≡ Some live
      → (contains live x ≡ true) ↔ ((x < g.name_count) × IsLiveAtStart g x n)
  pub at_ends : (n x : ℕ) (live : Numbers) → slice_get ends n ≡ Some live
      → (contains live x ≡ true) ↔ ((x < g.name_count) × IsLiveAtEnd g x n)

-- with these names, as far as they lie below the width
abbrev pub with_names : (width : ℕ) → List ℕ → Numbers → Numbers
with_names width [] live = live
with_names width (x ∷ more) live = with_names width more (if nat_lt x width then insert live x else live)

-- without what is written
abbrev pub without : Option ℕ → Numbers → Numbers
without None live = live
without (Some x) live = remove live x

-- the names that are live before an instruction, from those behind it
abbrev pub before_one : (width : ℕ) → Instruction → Numbers → Numbers
before_one width i live = with_names width (reads_of i) (without (target_of i) live)

abbrev pub before_all : (width : ℕ) → List Instruction → Numbers → Numbers
before_all width [] live = live
before_all width (i ∷ more) live = before_one width i (before_all width more live)
