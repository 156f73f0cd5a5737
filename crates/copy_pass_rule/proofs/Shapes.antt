-- Blocks and graphs that are alike but for what they read have the same counts, markers, places and edges.
use Rattle.std.proofs.Common.{◌≡◌, ℕ, Option, Some, List, [], ◌∷◌, ◌++◌, length, refl, sym, ap, ap₂, ◌∙◌, subst}
use Rattle.std.specs.Prelude.{slice_get}
use Rattle.event_runs.specs.Agreement.{Pairs}
use Rattle.graph_core.specs.Graphs.{Instruction, End, Block, Graph}
use Rattle.graph_core.specs.Uses.{is_computation, target_of, targets_of}
use Rattle.graph_core.specs.Validity.{total, counts, instructions_of, arguments_in, arguments_of, markers_in, markers_of_blocks, markers_of, place_behind, place_at_end, KeepsPlace, IsKept, HasPlace}
use Rattle.copy_pass_rule.specs.Alike.{IsReadFor, AreAlikeOperands, AreAlikeInstructions, marker, call, AreAlikeEnds, jump, AreAlikeBlocks, AreAlike}
use Rattle.copy_pass_rule.proofs.Lists.{as_many, same_total, carried_at}

module _ (Reads : (x read : ℕ) → Type 0) where
  -- ---- Instructions

  -- They count the same.
  pub same_count : (i j : Instruction) → AreAlikeInstructions Reads i j → counts j ≡ counts i
  same_count i j marker = refl
  same_count i j _ = refl

  -- They have as many arguments.
  pub same_arguments : (i j : Instruction) → AreAlikeInstructions Reads i j → arguments_in j ≡ arguments_in i
  same_arguments i j (call {all} {others} pairs) = as_many (AreAlikeOperands Reads) all others pairs
  same_arguments i j _ = refl

  -- They write the same name.
  pub same_target : (i j : Instruction) → AreAlikeInstructions Reads i j → target_of j ≡ target_of i
  same_target i j marker = refl
  same_target i j _ = refl

  -- They are computations, or are none.
  pub same_computation : (i j : Instruction) → AreAlikeInstructions Reads i j → is_computation j ≡ is_computation i
  same_computation i j marker = refl
  same_computation i j _ = refl

  -- One more instruction on each side begins the same place, or both begin none.
  markers_next : (i j : Instruction) → AreAlikeInstructions Reads i j → (is js : List Instruction) → markers_in js ≡ markers_in is → markers_in (j ∷ js) ≡ markers_in (i ∷ is)
  markers_next i j (marker {p}) is js e = ap (λ (l : List ℕ). p ∷ l) e
  markers_next i j _ is js e = e

  -- Markers are of the same places, in the same order.
  pub same_markers : (is js : List Instruction) → Pairs (AreAlikeInstructions Reads) is js → markers_in js ≡ markers_in is
  same_markers [] [] all = refl
  same_markers [] (j ∷ js) all = absurd all
  same_markers (i ∷ is) [] all = absurd all
  same_markers (i ∷ is) (j ∷ js) all = markers_next i j all.0 is js (same_markers is js all.1)

  -- The place in force behind them is the same with one more instruction in front.
  behind_next : (i j : Instruction) → AreAlikeInstructions Reads i j → (is js : List Instruction) (before : Option ℕ) → ((place : Option ℕ) → place_behind js place ≡ place_behind is place) → place_behind (j ∷ js) before ≡ place_behind (i ∷ is) before
  behind_next i j (marker {p}) is js before e = e (Some p)
  behind_next i j _ is js before e = e before

  -- The place in force behind them is the same.
  pub same_behind : (is js : List Instruction) → Pairs (AreAlikeInstructions Reads) is js → (before : Option ℕ) → place_behind js before ≡ place_behind is before
  same_behind [] [] all before = refl
  same_behind [] (j ∷ js) all before = absurd all
  same_behind (i ∷ is) [] all before = absurd all
  same_behind (i ∷ is) (j ∷ js) all before = behind_next i j all.0 is js before (same_behind is js all.1)

  -- A block that begins with an instruction keeps a place, where one does that begins with its like.
  keeps_next : (i j : Instruction) → AreAlikeInstructions Reads i j → (is js : List Instruction) (place kept : Option ℕ) → KeepsPlace (i ∷ is) place kept → KeepsPlace (j ∷ js) place kept
  keeps_next i j marker is js place kept h = tt
  keeps_next i j _ is js place kept h = h

  -- A block of these instructions keeps a place, where one of their likes does.
  pub keeps_place : (is js : List Instruction) → Pairs (AreAlikeInstructions Reads) is js → (place kept : Option ℕ) → KeepsPlace is place kept → KeepsPlace js place kept
  keeps_place [] [] all place kept h = h
  keeps_place [] (j ∷ js) all place kept h = absurd all
  keeps_place (i ∷ is) [] all place kept h = absurd all
  keeps_place (i ∷ is) (j ∷ js) all place kept h = keeps_next i j all.0 is js place kept h

  -- The instructions of a block that begins with an instruction have places, where those do of one that begins with its like.
  has_next : (i j : Instruction) → AreAlikeInstructions Reads i j → (is js : List Instruction) (kept : Option ℕ) → HasPlace (i ∷ is) kept → HasPlace (j ∷ js) kept
  has_next i j marker is js kept h = tt
  has_next i j _ is js kept h = h

  -- Instructions have places, where their likes do.
  pub has_place : (is js : List Instruction) → Pairs (AreAlikeInstructions Reads) is js → (kept : Option ℕ) → HasPlace is kept → HasPlace js kept
  has_place [] [] all kept h = h
  has_place [] (j ∷ js) all kept h = absurd all
  has_place (i ∷ is) [] all kept h = absurd all
  has_place (i ∷ is) (j ∷ js) all kept h = has_next i j all.0 is js kept h

  -- ---- Blocks

  -- The ends lead to the same blocks.
  pub same_targets : (e f : End) → AreAlikeEnds Reads e f → targets_of f ≡ targets_of e
  same_targets e f jump = refl
  same_targets e f _ = refl

  -- The place in force at the end is the same.
  pub same_at_end : (b c : Block) → AreAlikeBlocks Reads b c → place_at_end c ≡ place_at_end b
  same_at_end b c s = same_behind b.instructions c.instructions s.instructions c.place ∙ ap (place_behind b.instructions) s.place

  -- A block keeps the place in force, where its other does.
  pub block_kept : (place : Option ℕ) (b c : Block) → AreAlikeBlocks Reads b c → IsKept place (Some b) → IsKept place (Some c)
  block_kept place b c s h = subst (KeepsPlace c.instructions place) (sym s.place) (keeps_place b.instructions c.instructions s.instructions place b.place h)

  -- The same of blocks by their number.
  pub kept_at : (place : Option ℕ) (bs cs : List Block) → Pairs (AreAlikeBlocks Reads) bs cs → (n : ℕ) → IsKept place (slice_get bs n) → IsKept place (slice_get cs n)
  kept_at place bs cs all n h = carried_at (AreAlikeBlocks Reads) (IsKept place) (IsKept place) (λ none. none) (block_kept place) bs cs all n h

  -- Each instruction of a block has a place, where that is so of its other.
  pub block_has : (b c : Block) → AreAlikeBlocks Reads b c → HasPlace b.instructions b.place → HasPlace c.instructions c.place
  block_has b c s h = subst (HasPlace c.instructions) (sym s.place) (has_place b.instructions c.instructions s.instructions b.place h)

  -- Markers of blocks are of the same places, in the same order.
  pub same_block_markers : (bs cs : List Block) → Pairs (AreAlikeBlocks Reads) bs cs → markers_of_blocks cs ≡ markers_of_blocks bs
  same_block_markers [] [] all = refl
  same_block_markers [] (c ∷ cs) all = absurd all
  same_block_markers (b ∷ bs) [] all = absurd all
  same_block_markers (b ∷ bs) (c ∷ cs) all = ap₂ (λ (front back : List ℕ). front ++ back) (same_markers b.instructions c.instructions all.0.instructions) (same_block_markers bs cs all.1)

-- ---- Graphs

-- Where instructions that are alike count the same, so do graphs that are alike.
same_count_of : (count : Instruction → ℕ) → ((Reads : (x read : ℕ) → Type 0) (i j : Instruction) → AreAlikeInstructions Reads i j → count j ≡ count i) → (g h : Graph) → AreAlike g h
    → total (λ (b : Block). total count b.instructions) h.blocks ≡ total (λ (b : Block). total count b.instructions) g.blocks
same_count_of count same g h s = same_total (AreAlikeBlocks (IsReadFor (length g.scalars))) (λ (b : Block). total count b.instructions) (λ (b : Block). total count b.instructions) one g.blocks h.blocks s.blocks
  where
    one : (b c : Block) → AreAlikeBlocks (IsReadFor (length g.scalars)) b c → total count c.instructions ≡ total count b.instructions
    one b c t = same_total (AreAlikeInstructions (IsReadFor (length g.scalars))) count count (same (IsReadFor (length g.scalars))) b.instructions c.instructions t.instructions

-- They count as many instructions.
pub same_instructions : (g h : Graph) → AreAlike g h → instructions_of h ≡ instructions_of g
same_instructions = same_count_of counts same_count

-- Their calls have as many arguments.
pub same_arguments_of : (g h : Graph) → AreAlike g h → arguments_of h ≡ arguments_of g
same_arguments_of = same_count_of arguments_in same_arguments

-- They have as many blocks.
pub same_blocks : (g h : Graph) → AreAlike g h → length h.blocks ≡ length g.blocks
same_blocks g h s = as_many (AreAlikeBlocks (IsReadFor (length g.scalars))) g.blocks h.blocks s.blocks

-- Markers of graphs are of the same places, in the same order.
pub same_markers_of : (gs hs : List Graph) → Pairs AreAlike gs hs → markers_of hs ≡ markers_of gs
same_markers_of [] [] all = refl
same_markers_of [] (h ∷ hs) all = absurd all
same_markers_of (g ∷ gs) [] all = absurd all
same_markers_of (g ∷ gs) (h ∷ hs) all = ap₂ (λ (front back : List ℕ). front ++ back) (same_block_markers (IsReadFor (length g.scalars)) g.blocks h.blocks all.0.blocks) (same_markers_of gs hs all.1)
