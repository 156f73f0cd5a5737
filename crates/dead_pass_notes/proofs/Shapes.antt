-- Blocks and graphs without some of their writes have no greater counts, and the same markers, places and edges.
use Rattle.std.proofs.Common.{◌≡◌, ◌≢◌, ◌≤◌, ℕ, true, Option, Some, None, List, [], ◌∷◌, ◌++◌, length, refl, sym, ap, ap₂, ◌∙◌, subst, arith}
use Rattle.std.specs.Prelude.{slice_get}
use Rattle.event_runs.specs.Agreement.{Pairs}
use Rattle.graph_core.specs.declared.instruction.Callee.{Callee}
use Rattle.graph_core.specs.Graphs.{Operand, NoteValue, Instruction, Marker, Note, Call, Block, Graph}
use Rattle.graph_core.specs.Uses.{is_computation}
use Rattle.graph_core.specs.Validity.{total, counts, instructions_of, arguments_in, arguments_of, markers_in, markers_of_blocks, markers_of, place_behind, place_at_end, KeepsPlace, IsKept, HasPlace}
use Rattle.dead_pass_notes.specs.Thinned.{AreThinned, ends, goes, forgets, says, stays, IsThinnedBlock, IsThinned}
use Rattle.dead_pass_notes.proofs.Lists.{as_many, less_total, carried_at}
use Rattle.graph_core.proofs.Among.{computed_behind}

-- ---- Computations, which are no markers

-- A computation begins no place,
computed_marks : (i : Instruction) → is_computation i ≡ true → (more : List Instruction) → markers_in (i ∷ more) ≡ markers_in more
computed_marks (Marker p) computed more = cc
computed_marks _ computed more = refl

-- a block that begins with it keeps a place only where that is in force,
computed_keeps : (i : Instruction) → is_computation i ≡ true → (more : List Instruction) (place kept : Option ℕ) → KeepsPlace (i ∷ more) place kept → place ≡ kept
computed_keeps (Marker p) computed more place kept h = cc
computed_keeps _ computed more place kept h = h

-- and its instructions have places only where it keeps one.
computed_has : (i : Instruction) → is_computation i ≡ true → (more : List Instruction) (kept : Option ℕ) → HasPlace (i ∷ more) kept → kept ≢ None
computed_has (Marker p) computed more kept h = cc
computed_has _ computed more kept h = h

-- ---- One instruction more in front of two lists

-- They begin the same places.
marks_next : (i : Instruction) (is js : List Instruction) → markers_in js ≡ markers_in is → markers_in (i ∷ js) ≡ markers_in (i ∷ is)
marks_next (Marker p) is js same = ap (λ (l : List ℕ). p ∷ l) same
marks_next _ is js same = same

-- The same place is in force behind them.
behind_next : (i : Instruction) (is js : List Instruction) (before : Option ℕ) → ((place : Option ℕ) → place_behind js place ≡ place_behind is place) → place_behind (i ∷ js) before ≡ place_behind (i ∷ is) before
behind_next (Marker p) is js before same = same (Some p)
behind_next _ is js before same = same before

-- A block that begins with it keeps a place, whatever stands behind.
keeps_next : (i : Instruction) (is js : List Instruction) (place kept : Option ℕ) → KeepsPlace (i ∷ is) place kept → KeepsPlace (i ∷ js) place kept
keeps_next (Marker p) is js place kept h = tt
keeps_next _ is js place kept h = h

-- Its instructions have places, whatever stands behind.
has_next : (i : Instruction) (is js : List Instruction) (kept : Option ℕ) → HasPlace (i ∷ is) kept → HasPlace (i ∷ js) kept
has_next (Marker p) is js kept h = tt
has_next _ is js kept h = h

-- ---- A block that keeps the place in force

-- It keeps it with any instructions.
any_keeps : (all : List Instruction) (place kept : Option ℕ) → place ≡ kept → KeepsPlace all place kept
any_keeps [] place kept same = same
any_keeps (Marker p ∷ more) place kept same = tt
any_keeps (_ ∷ more) place kept same = same

-- Any instructions have places where it keeps one.
any_has : (all : List Instruction) (kept : Option ℕ) → kept ≢ None → HasPlace all kept
any_has [] kept some = some
any_has (Marker p ∷ more) kept some = tt
any_has (_ ∷ more) kept some = some

-- ---- Counts

-- what is counted of a call is no more without its target, and of a note no more with another value
abbrev CountsNoMore : (count : Instruction → ℕ) → Type 0
CountsNoMore count = ((x : Option ℕ) (f : Callee) (all : List Operand) → count (Call None f all) ≤ count (Call x f all)) × ((x : ℕ) (v w : NoteValue) → count (Note x w) ≤ count (Note x v))

module _ (MaySay : NoteValue → Type 0) where
  -- ---- Instructions

  -- Of what is counted so there is no more.
  less_counted : (count : Instruction → ℕ) → CountsNoMore count → (is js : List Instruction) → AreThinned MaySay is js → total count js ≤ total count is
  less_counted count no_more is js ends = omega (arith)
  less_counted count no_more is js (goes {i} {before} {after} computed later) = omega (arith, less_counted count no_more before after later)
  less_counted count no_more is js (forgets {x} {f} {all} {before} {after} later) = omega (arith, no_more.0 x f all, less_counted count no_more before after later)
  less_counted count no_more is js (says {x} {v} {w} {before} {after} may later) = omega (arith, no_more.1 x v w, less_counted count no_more before after later)
  less_counted count no_more is js (stays {i} {before} {after} later) = omega (arith, less_counted count no_more before after later)

  -- Markers are of the same places, in the same order.
  same_markers : (is js : List Instruction) → AreThinned MaySay is js → markers_in js ≡ markers_in is
  same_markers is js ends = refl
  same_markers is js (goes {i} {before} {after} computed later) = same_markers before after later ∙ sym (computed_marks i computed before)
  same_markers is js (forgets {before} {after} later) = same_markers before after later
  same_markers is js (says {before} {after} may later) = same_markers before after later
  same_markers is js (stays {i} {before} {after} later) = marks_next i before after (same_markers before after later)

  -- The place in force behind them is the same.
  same_behind : (is js : List Instruction) → AreThinned MaySay is js → (place : Option ℕ) → place_behind js place ≡ place_behind is place
  same_behind is js ends place = refl
  same_behind is js (goes {i} {before} {after} computed later) place = same_behind before after later place ∙ sym (computed_behind i computed before place)
  same_behind is js (forgets {before} {after} later) place = same_behind before after later place
  same_behind is js (says {before} {after} may later) place = same_behind before after later place
  same_behind is js (stays {i} {before} {after} later) place = behind_next i before after place (same_behind before after later)

  -- A block of these instructions keeps a place, where one did of those before.
  keeps_place : (is js : List Instruction) → AreThinned MaySay is js → (place kept : Option ℕ) → KeepsPlace is place kept → KeepsPlace js place kept
  keeps_place is js ends place kept h = h
  keeps_place is js (goes {i} {before} computed later) place kept h = any_keeps js place kept (computed_keeps i computed before place kept h)
  keeps_place is js (forgets later) place kept h = h
  keeps_place is js (says may later) place kept h = h
  keeps_place is js (stays {i} {before} {after} later) place kept h = keeps_next i before after place kept h

  -- Instructions have places, where those before had.
  has_place : (is js : List Instruction) → AreThinned MaySay is js → (kept : Option ℕ) → HasPlace is kept → HasPlace js kept
  has_place is js ends kept h = h
  has_place is js (goes {i} {before} computed later) kept h = any_has js kept (computed_has i computed before kept h)
  has_place is js (forgets later) kept h = h
  has_place is js (says may later) kept h = h
  has_place is js (stays {i} {before} {after} later) kept h = has_next i before after kept h

  -- ---- Blocks

  -- The place in force at the end is the same.
  pub same_at_end : (b c : Block) → IsThinnedBlock MaySay b c → place_at_end c ≡ place_at_end b
  same_at_end b c s = same_behind b.instructions c.instructions s.instructions c.place ∙ ap (place_behind b.instructions) s.place

  -- A block keeps the place in force, where it did before.
  block_kept : (place : Option ℕ) (b c : Block) → IsThinnedBlock MaySay b c → IsKept place (Some b) → IsKept place (Some c)
  block_kept place b c s h = subst (KeepsPlace c.instructions place) (sym s.place) (keeps_place b.instructions c.instructions s.instructions place b.place h)

  -- The same of blocks by their number.
  pub kept_at : (place : Option ℕ) (bs cs : List Block) → Pairs (IsThinnedBlock MaySay) bs cs → (n : ℕ) → IsKept place (slice_get bs n) → IsKept place (slice_get cs n)
  kept_at place bs cs all n h = carried_at (IsThinnedBlock MaySay) (IsKept place) (IsKept place) (λ none. none) (block_kept place) bs cs all n h

  -- Each instruction of a block has a place, where that was so before.
  pub block_has : (b c : Block) → IsThinnedBlock MaySay b c → HasPlace b.instructions b.place → HasPlace c.instructions c.place
  block_has b c s h = subst (HasPlace c.instructions) (sym s.place) (has_place b.instructions c.instructions s.instructions b.place h)

  -- Markers of blocks are of the same places, in the same order.
  pub same_block_markers : (bs cs : List Block) → Pairs (IsThinnedBlock MaySay) bs cs → markers_of_blocks cs ≡ markers_of_blocks bs
  same_block_markers [] [] all = refl
  same_block_markers [] (c ∷ cs) all = absurd all
  same_block_markers (b ∷ bs) [] all = absurd all
  same_block_markers (b ∷ bs) (c ∷ cs) all = ap₂ (λ (front back : List ℕ). front ++ back) (same_markers b.instructions c.instructions all.0.instructions) (same_block_markers bs cs all.1)

-- ---- Graphs

module _ (MaySay : Graph → NoteValue → Type 0) where
  -- Where instructions count no more, graphs do not.
  less_count_of : (count : Instruction → ℕ) → CountsNoMore count → (g h : Graph) → IsThinned MaySay g h → total (λ (b : Block). total count b.instructions) h.blocks ≤ total (λ (b : Block). total count b.instructions) g.blocks
  less_count_of count no_more g h s =
      less_total (IsThinnedBlock (MaySay g)) (λ (b : Block). total count b.instructions) (λ (b : Block). total count b.instructions) (λ b c t. less_counted (MaySay g) count no_more b.instructions c.instructions t.instructions) g.blocks h.blocks s.blocks

  -- They count no more instructions.
  pub less_instructions : (g h : Graph) → IsThinned MaySay g h → instructions_of h ≤ instructions_of g
  less_instructions = less_count_of counts (λ x f all. omega (arith), λ x v w. omega (arith))

  -- Their calls have no more arguments.
  pub less_arguments : (g h : Graph) → IsThinned MaySay g h → arguments_of h ≤ arguments_of g
  less_arguments = less_count_of arguments_in (λ x f all. omega (arith), λ x v w. omega (arith))

  -- They have as many blocks.
  pub same_blocks : (g h : Graph) → IsThinned MaySay g h → length h.blocks ≡ length g.blocks
  same_blocks g h s = as_many (IsThinnedBlock (MaySay g)) g.blocks h.blocks s.blocks

  -- Markers of graphs are of the same places, in the same order.
  pub same_markers_of : (gs hs : List Graph) → Pairs (IsThinned MaySay) gs hs → markers_of hs ≡ markers_of gs
  same_markers_of [] [] all = refl
  same_markers_of [] (h ∷ hs) all = absurd all
  same_markers_of (g ∷ gs) [] all = absurd all
  same_markers_of (g ∷ gs) (h ∷ hs) all = ap₂ (λ (front back : List ℕ). front ++ back) (same_block_markers (MaySay g) g.blocks h.blocks all.0.blocks) (same_markers_of gs hs all.1)
