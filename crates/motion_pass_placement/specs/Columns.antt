-- The computations of a graph, 64 after the other.
use Rattle.std.specs.Prelude.{◌≡◌, ℕ, ◌/◌, ◌<◌, ◌≤◌, ◌^◌, Bool, true, false, Option, Some, List, [], length, map, slice_get, slice_index_or}
use Rattle.std.specs.Option.{option_map_or}
use Rattle.std.specs.Global.{Vec}
use Rattle.graph_core.specs.Bounds.{most_instructions_of_function}
use Rattle.graph_core.specs.Graphs.{Block, block_view}
use Rattle.graph_core.specs.Computations.{Computation}
use Rattle.motion_pass_points.specs.declared.columns.Column.{Column}
use Rattle.motion_pass_points.specs.declared.columns.Local.{Local}
use Rattle.motion_pass_points.specs.MotionPointsComputing.{nothing, told_along}
use Rattle.motion_pass_points.specs.Columns.{AreNumbersAlong, IsColumn, told_in}
use Rattle.motion_pass_points.specs.Named.{AreNamed}
use Rattle.motion_pass_points.specs.Numbers.{AreNumbers, views_of}
use Rattle.motion_pass_problems.specs.Flowing.{HasEdge, is_at}
use Rattle.motion_pass_problems.specs.Facts.{AreFacts, AreReached}
use Rattle.motion_pass_problems.specs.declared.problems.Facts.{Facts}
use Rattle.motion_pass_placement.specs.declared.fates.Fate.{Fate}
use Rattle.motion_pass_placement.specs.declared.columns.Placing.{Placing}
use Rattle.motion_pass_placement.specs.declared.columns.Solved.{Solved}
use Rattle.motion_pass_problems.specs.Problems.{local_of}
use Rattle.motion_pass_placement.specs.Fates.{AreLate, AreUsed}

-- a row of numbers
abbrev pub row_of : List (Vec (Option ℕ)) → ℕ → List (Option ℕ)
row_of rows n = option_map_or (λ v. v.items) (slice_get rows n) []

-- a row of what is so
abbrev pub fates_of : List (Vec Fate) → ℕ → List Fate
fates_of rows n = option_map_or (λ v. v.items) (slice_get rows n) []

-- the words of a column tell just what is so of the computation of a number by the rule
abbrev pub HasFacts : (blocks : List Block) (reached : ℕ → Bool) (e : Computation) (k : ℕ) → Facts → Type 0
HasFacts blocks reached e k f =
    AreFacts blocks reached e (is_at f.unsafe_starts.items k) (is_at f.past_starts.items k) (is_at f.past_ends.items k)
    (is_at f.used_starts.items k) (is_at f.used_ends.items k)

-- where a block does a computation, it is told just what is so of it by the rule
pub record AreFated (blocks : List Block) (n : ℕ) (b : Block) (numbers : List (Option ℕ)) (k : ℕ) (e : Computation)
    (fates : List Fate) : Type 0 where
  pub late : AreLate blocks n b numbers k e fates
  pub used : AreUsed blocks n b numbers k e fates

-- each row has the numbers of what a block computes that paths reach, and no others are there
pub record AreRows (blocks : List Block) (reached : ℕ → Bool) (all : List Computation) (rows : List (Vec (Option ℕ)))
    : Type 0 where
  pub along : (n : ℕ) (b : Block) → slice_get blocks n ≡ Some b → reached n ≡ true
      → AreNumbersAlong all b.instructions (row_of rows n)
  pub none : (n : ℕ) → reached n ≡ false → row_of rows n ≡ []

-- the blocks of a graph, and which of them are told as reached
abbrev pub blocks_in : Placing → List Block
blocks_in p = map block_view p.graph.now.blocks.items

abbrev pub reached_in : Placing → ℕ → Bool
reached_in p n = slice_index_or p.reached.now n false

abbrev pub all_in : Placing → List Computation
all_in p = views_of p.computations.now

-- What is placed is a graph, with just the blocks told that paths reach, none of which leads to the first, and with the
-- numbers of its computations, which are few and made of its names.
pub record IsPlacing (p : Placing) : Type 0 where
  pub few : length (blocks_in p) < 2 ^ 32
  pub reached : AreReached (blocks_in p) (reached_in p)
  pub once : (m : ℕ) → HasEdge (blocks_in p) (reached_in p) m 0 → ⊥
  pub known : AreNumbers p.computations.now
  pub computed : length (all_in p) ≤ most_instructions_of_function
  pub named : AreNamed p.graph.now.name_count (all_in p)
  pub rows : AreRows (blocks_in p) (reached_in p) (all_in p) p.numbers.now

-- words for blocks tell what they do to the computations of a column
abbrev pub AreLocalsOf : Placing → Column → List Local → Type 0
AreLocalsOf p column locals =
    IsColumn (all_in p) column.index column.spoiled.items → (k : ℕ) (e : Computation) → k / 64 ≡ column.index
    → slice_get (all_in p) k ≡ Some e
    → (n : ℕ) (b : Block) → slice_get (blocks_in p) n ≡ Some b → reached_in p n ≡ true
    → told_in (local_of locals n) k ≡ told_along e b.instructions nothing

-- A COLUMN IS SOLVED: it is told just what is so of its computations.
pub record IsSolved (p : Placing) (index : ℕ) (s : Solved) : Type 0 where
  pub of : s.column.index ≡ index
  pub marked : IsColumn (all_in p) s.column.index s.column.spoiled.items
  pub facts : (k : ℕ) (e : Computation) → k / 64 ≡ index → slice_get (all_in p) k ≡ Some e
      → HasFacts (blocks_in p) (reached_in p) e k s.facts

-- All are.
pub record AreSolved (p : Placing) (columns : List Solved) : Type 0 where
  pub few : length columns < 4294967296
  pub each : (index : ℕ) (s : Solved) → slice_get columns index ≡ Some s → IsSolved p index s
  pub enough : (k : ℕ) (e : Computation) → slice_get (all_in p) k ≡ Some e → k / 64 < length columns

-- what is so where a block that paths reach does computations
abbrev pub AreRowFates : Placing → (n : ℕ) → List Fate → Type 0
AreRowFates p n fates =
    (b : Block) → slice_get (blocks_in p) n ≡ Some b → reached_in p n ≡ true → (k : ℕ) (e : Computation)
    → slice_get (all_in p) k ≡ Some e → AreFated (blocks_in p) n b (row_of p.numbers.now n) k e fates

abbrev pub AreAllFates : Placing → List (Vec Fate) → Type 0
AreAllFates p rows = (n : ℕ) → AreRowFates p n (fates_of rows n)

-- there is a row for each block, with as many as it has instructions
pub record AreSizes (blocks : List Block) (rows : List (Vec Fate)) : Type 0 where
  pub count : length rows ≡ length blocks
  pub each : (n : ℕ) (b : Block) → slice_get blocks n ≡ Some b → length (fates_of rows n) ≡ length b.instructions
