-- Facts that flow from block to block, with a word of 64 of them for each.
use Rattle.std.specs.Prelude.{◌≡◌, ◌↔◌, ℕ, ◌<◌, ◌&&◌, ◌||◌, Bool, true, false, List, length, map, slice_index_or}
use Rattle.graph_core.specs.Graphs.{block_view}
use Rattle.graph_paths.specs.Flood.{Course}
use Rattle.motion_pass_points.specs.Words.{has}
use Rattle.motion_pass_problems.specs.declared.flow.Passage.{Passage}
use Rattle.motion_pass_problems.specs.declared.flow.Flow.{Flow}
pub use Rattle.graph_paths.specs.Flood.{HasEdge, FlowsBy}

-- Some way brings a fact to a block: it begins there, or flows there from a block that makes it, or that lets it pass
-- and to which some way brings it.
pub data IsBrought (Flows : (from to : ℕ) → Type 0) (made passed begins : ℕ → Bool) : ℕ → Type 0 where
  begin : {n : ℕ} → begins n ≡ true → IsBrought Flows made passed begins n
  made_by : {m n : ℕ} → Flows m n → made m ≡ true → IsBrought Flows made passed begins n
  passed_by : {m n : ℕ} → Flows m n → passed m ≡ true → IsBrought Flows made passed begins m
      → IsBrought Flows made passed begins n

-- of no block
abbrev pub no_passage : Passage
no_passage = record { made = 0; passed = 0 }

abbrev pub makes : List Passage → (k n : ℕ) → Bool
makes passages k n = has (slice_index_or passages n no_passage).made k

abbrev pub lets_pass : List Passage → (k n : ℕ) → Bool
lets_pass passages k n = has (slice_index_or passages n no_passage).passed k

-- whether a fact is in the word of a block
abbrev pub is_at : (words : List ℕ) (k n : ℕ) → Bool
is_at words k n = has (slice_index_or words n 0) k

abbrev pub Flows : Flow → (from to : ℕ) → Type 0
Flows flow = FlowsBy (map block_view flow.blocks.now) (λ n. slice_index_or flow.reached.now n false) flow.forward

-- how the facts flow: a block makes some, and lets some pass
abbrev pub course_of : Flow → Course
course_of flow = record {
  blocks = map block_view flow.blocks.now;
  is_open = λ n. slice_index_or flow.reached.now n false;
  forward = flow.forward;
  width = 64;
  does = λ n k before. makes flow.passages.now k n || (before && lets_pass flow.passages.now k n);
}

-- WHAT SOME WAY BRINGS. To each block of a graph come just the facts that some way brings to it, where these begin.
abbrev pub AreBroughtThere : Flow → (begins words : List ℕ) → Type 0
AreBroughtThere flow begins words =
    (k n : ℕ) → n < length words
    → (is_at words k n ≡ true) ↔ IsBrought (Flows flow) (makes flow.passages.now k) (lets_pass flow.passages.now k)
    (is_at begins k) n
