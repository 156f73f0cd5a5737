-- Blocks and graphs with more computations have the same markers and places, and calls with as many arguments.
use Rattle.std.proofs.Common.{◌≡◌, ◌≢◌, ℕ, ◌+◌, true, true≢false, inr, Option, Some, None, List, [], ◌∷◌, ◌++◌, refl, sym, ap, ap₂, ◌∙◌, subst, arith, append_assoc}
use Rattle.std.specs.Prelude.{slice_get}
use Rattle.std.specs.List.{AllByRecursion}
use Rattle.std.proofs.lemmas.List.{append-nil}
use Rattle.std.proofs.lemmas.Option.{none-some}
use Rattle.event_runs.specs.Agreement.{Pairs}
use Rattle.graph_core.specs.Graphs.{Instruction, Marker, Call, Block, Graph}
use Rattle.graph_core.specs.Paths.{Among, front, behind}
use Rattle.graph_core.specs.Uses.{is_computation}
use Rattle.graph_core.specs.Validity.{total, arguments_in, arguments_of, markers_in, markers_of_blocks, markers_of, place_behind, place_at_end, KeepsPlace, IsKept, HasPlace, IsOwnPlace}
use Rattle.motion_pass.specs.Grown.{BeginNoPlace, stays, is_replaced, AreGrown, ends, adds, turns, IsOnEdge, IsGrownBlock, IsGrown}
use Rattle.motion_pass.proofs.Lists.{among_left, among_right, at_left, total_parts, same_total, carried_at}
use Rattle.graph_core.proofs.Among.{computed_behind as place_stays}

-- ---- Computations

-- They begin no place,
marker_free : (i : Instruction) → is_computation i ≡ true → (rest : List Instruction) → markers_in (i ∷ rest) ≡ markers_in rest
marker_free (Marker p) computes rest = absurd (true≢false (sym computes))
marker_free _ computes rest = refl

-- have no arguments,
no_arguments : (i : Instruction) → is_computation i ≡ true → arguments_in i ≡ 0
no_arguments (Call x f all) computes = absurd (true≢false (sym computes))
no_arguments _ computes = refl

-- and are no markers.
pub begins_no_place : (i : Instruction) → is_computation i ≡ true → (rest : List Instruction) → BeginNoPlace (i ∷ rest)
begins_no_place (Marker p) computes rest = absurd (true≢false (sym computes))
begins_no_place _ computes rest = tt

-- ---- The place with which instructions begin

-- Instructions that begin with no marker keep the place in force,
same_place : (is : List Instruction) → BeginNoPlace is → (place kept : Option ℕ) → KeepsPlace is place kept → place ≡ kept
same_place [] none place kept h = h
same_place (Marker p ∷ is) none place kept h = absurd none
same_place (_ ∷ is) none place kept h = h

-- and others do where it is kept.
keeps_same : (is : List Instruction) (place kept : Option ℕ) → place ≡ kept → KeepsPlace is place kept
keeps_same [] place kept h = h
keeps_same (Marker p ∷ is) place kept h = tt
keeps_same (_ ∷ is) place kept h = h

-- Where they have places the block keeps one,
some_place : (is : List Instruction) → BeginNoPlace is → (kept : Option ℕ) → HasPlace is kept → kept ≢ None
some_place [] none kept h = h
some_place (Marker p ∷ is) none kept h = absurd none
some_place (_ ∷ is) none kept h = h

-- and where it keeps one they have places.
has_some : (is : List Instruction) (kept : Option ℕ) → kept ≢ None → HasPlace is kept
has_some [] kept h = h
has_some (Marker p ∷ is) kept h = tt
has_some (_ ∷ is) kept h = h

-- The rest of a block does not matter for the place that it keeps,
keeps_next : (i : Instruction) (is js : List Instruction) (place kept : Option ℕ) → KeepsPlace (i ∷ is) place kept → KeepsPlace (i ∷ js) place kept
keeps_next (Marker p) is js place kept h = tt
keeps_next _ is js place kept h = h

-- nor for whether it has one.
has_next : (i : Instruction) (is js : List Instruction) (kept : Option ℕ) → HasPlace (i ∷ is) kept → HasPlace (i ∷ js) kept
has_next (Marker p) is js kept h = tt
has_next _ is js kept h = h

-- A place in force stays in force, or another one comes,
kept_behind : (is : List Instruction) (place : Option ℕ) → place ≢ None → place_behind is place ≢ None
kept_behind [] place some = some
kept_behind (Marker p ∷ is) place some = kept_behind is (Some p) (λ q. none-some p (sym q))
kept_behind (_ ∷ is) place some = kept_behind is place some

-- so there is one at the end where the instructions have places.
pub has_at_end : (is : List Instruction) (kept : Option ℕ) → HasPlace is kept → place_behind is kept ≢ None
has_at_end [] kept h = h
has_at_end (Marker p ∷ is) kept h = kept_behind is (Some p) (λ q. none-some p (sym q))
has_at_end (_ ∷ is) kept h = kept_behind is kept h

-- The place at the end is a graph's own, where the one before is and those of markers are.
own_behind : (g : Graph) (is : List Instruction) (place : Option ℕ) → ((p : ℕ) → Among p (markers_in is) → Among p (markers_of_blocks g.blocks)) → IsOwnPlace g place → IsOwnPlace g (place_behind is place)
own_behind g [] place all own = own
own_behind g (Marker p ∷ is) place all own = own_behind g is (Some p) (λ q among. all q (behind among)) (inr (all p front))
own_behind g (_ ∷ is) place all own = own_behind g is place all own

-- The markers of a block are among those of all blocks.
markers_among : (bs : List Block) (b : Block) → Among b bs → (p : ℕ) → Among p (markers_in b.instructions) → Among p (markers_of_blocks bs)
markers_among [] b of p among = elim of [ ]
markers_among (c ∷ bs) _ front p among = among_left p (markers_in c.instructions) (markers_of_blocks bs) among
markers_among (c ∷ bs) b (behind later) p among = among_right p (markers_in c.instructions) (markers_of_blocks bs) (markers_among bs b later p among)

-- So the place at the end of a block is its graph's own, where the one that it keeps is.
pub own_at_end : (g : Graph) (b : Block) → Among b g.blocks → IsOwnPlace g b.place → IsOwnPlace g (place_at_end b)
own_at_end g b of own = own_behind g b.instructions b.place (markers_among g.blocks b of) own

-- The markers of two lists of blocks.
markers_parts : (xs ys : List Block) → markers_of_blocks (xs ++ ys) ≡ markers_of_blocks xs ++ markers_of_blocks ys
markers_parts [] ys = refl
markers_parts (x ∷ xs) ys = ap (λ (l : List ℕ). markers_in x.instructions ++ l) (markers_parts xs ys) ∙ sym (append_assoc (markers_in x.instructions) (markers_of_blocks xs) (markers_of_blocks ys))

module _ (May : Instruction → Type 0) where
  -- ---- Instructions

  -- one marker more on both sides
  markers_next : (i : Instruction) (is js : List Instruction) → markers_in js ≡ markers_in is → markers_in (i ∷ js) ≡ markers_in (i ∷ is)
  markers_next (Marker p) is js e = ap (λ (l : List ℕ). p ∷ l) e
  markers_next _ is js e = e

  -- Markers are of the same places, in the same order.
  pub same_markers : (is js : List Instruction) → AreGrown May is js → markers_in js ≡ markers_in is
  same_markers _ _ ends = refl
  same_markers is _ (adds {i} {after = js} added more) = marker_free i added.computes js ∙ same_markers is js more
  same_markers _ _ (turns {before = is} {after = js} (stays {i}) more) = markers_next i is js (same_markers is js more)
  same_markers _ _ (turns {before = is} {after = js} (is_replaced {i} {j} one other may) more) = marker_free j other js ∙ same_markers is js more ∙ sym (marker_free i one is)

  -- one instruction more on both sides
  behind_next : (i : Instruction) (is js : List Instruction) (before : Option ℕ) → ((place : Option ℕ) → place_behind js place ≡ place_behind is place) → place_behind (i ∷ js) before ≡ place_behind (i ∷ is) before
  behind_next (Marker p) is js before e = e (Some p)
  behind_next _ is js before e = e before

  -- The place in force behind them is the same.
  pub same_behind : (is js : List Instruction) → AreGrown May is js → (before : Option ℕ) → place_behind js before ≡ place_behind is before
  same_behind _ _ ends before = refl
  same_behind is _ (adds {i} {after = js} added more) before = place_stays i added.computes js before ∙ same_behind is js more before
  same_behind _ _ (turns {before = is} {after = js} (stays {i}) more) before = behind_next i is js before (same_behind is js more)
  same_behind _ _ (turns {before = is} {after = js} (is_replaced {i} {j} one other may) more) before = place_stays j other js before ∙ same_behind is js more before ∙ sym (place_stays i one is before)

  -- Their calls have as many arguments.
  pub same_arguments : (is js : List Instruction) → AreGrown May is js → total arguments_in js ≡ total arguments_in is
  same_arguments _ _ ends = refl
  same_arguments is _ (adds {i} {after = js} added more) = omega (arith, no_arguments i added.computes, same_arguments is js more)
  same_arguments _ _ (turns {before = is} {after = js} (stays {i}) more) = omega (arith, same_arguments is js more)
  same_arguments _ _ (turns {before = is} {after = js} (is_replaced {i} {j} one other may) more) = omega (arith, no_arguments i one, no_arguments j other, same_arguments is js more)

  -- A block of them keeps a place, where one of those before does.
  pub keeps_place : (is js : List Instruction) → AreGrown May is js → (place kept : Option ℕ) → KeepsPlace is place kept → KeepsPlace js place kept
  keeps_place _ _ ends place kept h = h
  keeps_place is _ (adds {i} {after = js} added more) place kept h = keeps_same (i ∷ js) place kept (same_place is added.begin place kept h)
  keeps_place _ _ (turns {before = is} {after = js} (stays {i}) more) place kept h = keeps_next i is js place kept h
  keeps_place _ _ (turns {before = is} {after = js} (is_replaced {i} {j} one other may) more) place kept h = keeps_same (j ∷ js) place kept (same_place (i ∷ is) (begins_no_place i one is) place kept h)

  -- They have places, where those before do.
  pub has_place : (is js : List Instruction) → AreGrown May is js → (kept : Option ℕ) → HasPlace is kept → HasPlace js kept
  has_place _ _ ends kept h = h
  has_place is _ (adds {i} {after = js} added more) kept h = has_some (i ∷ js) kept (some_place is added.begin kept h)
  has_place _ _ (turns {before = is} {after = js} (stays {i}) more) kept h = has_next i is js kept h
  has_place _ _ (turns {before = is} {after = js} (is_replaced {i} {j} one other may) more) kept h = has_some (j ∷ js) kept (some_place (i ∷ is) (begins_no_place i one is) kept h)

  -- ---- Blocks

  -- A block between has no markers,
  between_markers : (g : Graph) (own : List Block) → AllByRecursion (IsOnEdge May g) own → markers_of_blocks own ≡ []
  between_markers g [] all = refl
  between_markers g (c ∷ own) all = ap₂ (λ (front back : List ℕ). front ++ back) (same_markers [] c.instructions all.0.between.instructions) (between_markers g own all.1)

  -- and its calls no arguments.
  between_arguments : (g : Graph) (own : List Block) → AllByRecursion (IsOnEdge May g) own → total (λ (b : Block). total arguments_in b.instructions) own ≡ 0
  between_arguments g [] all = refl
  between_arguments g (c ∷ own) all = omega (arith, same_arguments [] c.instructions all.0.between.instructions, between_arguments g own all.1)

  module _ (blocks : List Block) where
    -- The place in force at the end is the same.
    pub same_at_end : (b c : Block) → IsGrownBlock May blocks b c → place_at_end c ≡ place_at_end b
    same_at_end b c s = same_behind b.instructions c.instructions s.instructions c.place ∙ ap (place_behind b.instructions) s.place

    -- A block keeps the place in force, where its other does.
    block_kept : (place : Option ℕ) (b c : Block) → IsGrownBlock May blocks b c → IsKept place (Some b) → IsKept place (Some c)
    block_kept place b c s h = subst (KeepsPlace c.instructions place) (sym s.place) (keeps_place b.instructions c.instructions s.instructions place b.place h)

    -- The same of blocks by their number, with others behind.
    pub kept_at : (place : Option ℕ) (bs cs own : List Block) → Pairs (IsGrownBlock May blocks) bs cs → (n : ℕ) → IsKept place (slice_get bs n) → IsKept place (slice_get (cs ++ own) n)
    kept_at place bs cs own all n h = at_left cs own n (IsKept place) (λ none. none) (carried_at (IsGrownBlock May blocks) (IsKept place) (IsKept place) (λ none. none) (block_kept place) bs cs all n h)

    -- Each instruction of a block has a place, where that is so of its other.
    pub block_has : (b c : Block) → IsGrownBlock May blocks b c → HasPlace b.instructions b.place → HasPlace c.instructions c.place
    block_has b c s h = subst (HasPlace c.instructions) (sym s.place) (has_place b.instructions c.instructions s.instructions b.place h)

    -- Markers of blocks are of the same places, in the same order.
    pub same_block_markers : (bs cs : List Block) → Pairs (IsGrownBlock May blocks) bs cs → markers_of_blocks cs ≡ markers_of_blocks bs
    same_block_markers [] [] all = refl
    same_block_markers [] (c ∷ cs) all = absurd all
    same_block_markers (b ∷ bs) [] all = absurd all
    same_block_markers (b ∷ bs) (c ∷ cs) all = ap₂ (λ (front back : List ℕ). front ++ back) (same_markers b.instructions c.instructions all.0.instructions) (same_block_markers bs cs all.1)

    -- Their calls have as many arguments.
    block_arguments : (b c : Block) → IsGrownBlock May blocks b c → total arguments_in c.instructions ≡ total arguments_in b.instructions
    block_arguments b c s = same_arguments b.instructions c.instructions s.instructions

    -- So do those of several blocks.
    same_blocks_arguments : (bs cs : List Block) → Pairs (IsGrownBlock May blocks) bs cs → total (λ (b : Block). total arguments_in b.instructions) cs ≡ total (λ (b : Block). total arguments_in b.instructions) bs
    same_blocks_arguments = same_total (IsGrownBlock May blocks) (λ (b : Block). total arguments_in b.instructions) (λ (b : Block). total arguments_in b.instructions) block_arguments

-- ---- Graphs

module _ (May : Graph → Instruction → Type 0) where
  -- Markers of a graph are of the same places, in the same order.
  pub same_graph_markers : (g h : Graph) → IsGrown May g h → markers_of_blocks h.blocks ≡ markers_of_blocks g.blocks
  same_graph_markers g h s =
      ap markers_of_blocks s.are ∙ markers_parts s.first s.own ∙ ap₂ (λ (front back : List ℕ). front ++ back) (same_block_markers (May h) h.blocks g.blocks s.first s.blocks) (between_markers (May h) g s.own s.edges) ∙ append-nil (markers_of_blocks g.blocks)

  -- Its calls have as many arguments.
  pub same_graph_arguments : (g h : Graph) → IsGrown May g h → arguments_of h ≡ arguments_of g
  same_graph_arguments g h s =
      let count : Block → ℕ = λ b. total arguments_in b.instructions in
      let parts : total count h.blocks ≡ total count s.first + total count s.own = ap (total count) s.are ∙ total_parts count s.first s.own in
      let front : total count s.first ≡ total count g.blocks = same_blocks_arguments (May h) h.blocks g.blocks s.first s.blocks in
      let none : total count s.own ≡ 0 = between_arguments (May h) g s.own s.edges in
      omega (arith, parts, front, none)

  -- Markers of graphs are of the same places, in the same order.
  pub same_markers_of : (gs hs : List Graph) → Pairs (IsGrown May) gs hs → markers_of hs ≡ markers_of gs
  same_markers_of [] [] all = refl
  same_markers_of [] (h ∷ hs) all = absurd all
  same_markers_of (g ∷ gs) [] all = absurd all
  same_markers_of (g ∷ gs) (h ∷ hs) all = ap₂ (λ (front back : List ℕ). front ++ back) (same_graph_markers g h all.0) (same_markers_of gs hs all.1)
