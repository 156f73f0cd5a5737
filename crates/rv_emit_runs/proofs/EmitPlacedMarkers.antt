-- The stops of what is emitted are those of the unit's markers.
use Rattle.std.proofs.Common.{◌≡◌, ◌≢◌, ℕ, suc, ◌+◌, ◌-◌, ◌<◌, ◌≤◌, ◌==◌, not, cond, Bool, true, false, Some, List, [], ◌∷◌, ◌++◌, length, map, slice_get, slice_index, refl, sym, ap, ◌∙◌, subst, arith, append_assoc}
use Rattle.std.specs.Option.{option_map_or}
use Rattle.std.specs.List.{AllByRecursion}
use Rattle.std.proofs.lemmas.List.{length-append, length-map, map-append}
use Rattle.std.proofs.lemmas.Option.{slice_get_within}
use Rattle.memory_map.specs.Maps.{most_words}
use Rattle.rv_emit_runs.proofs.Maps.{emitted_in_reach}
use Rattle.graph_core.specs.Graphs.{Block, Graph}
use Rattle.graph_core.specs.Validity.{markers_in, markers_of_blocks, markers_of, AreAllDifferent, IsValid}
use Rattle.graph_homes.specs.Homed.{HomedForm, homes_in}
use Rattle.rv_emit_tables.specs.declared.emitted.PlacedStop.{PlacedStop}
use Rattle.rv_emit_tables.specs.Emitted.{EmittedForm}
use Rattle.rv_emit_words.specs.declared.piece.PlacedPiece.{PlacedPiece}
use Rattle.rv_emit_runs.specs.Laid.{program_of}
use Rattle.rv_emit_sequence.specs.Sequences.{Ground, SequenceForm, Standing, counted, standing_code, standing_pieces, numbered, first_pieces, last_pieces, IsSequenceOf}
use Rattle.rv_emit_layout.specs.Layouts.{LayoutForm, most_pieces}
use Rattle.rv_emit_layout.specs.Tracing.{piece_address, stop_at, stops_of_block, stops_of_blocks, stops_of_pieces}
use Rattle.rv_emit_layout.specs.Laid.{LaidForm, StaticForm, ground_for, stops_of_all, AreLaid, IsEmittedOf}
use Rattle.rv_emit_runs.specs.EmitPlacedMarkers.{stop_places_in, stop_places, place_of, AreStopsOf}
use Rattle.rv_emit_runs.proofs.EmitPlacedBegun.{begun, begun_by, begun_numbered, block_begun, kept, kept_append}
use Rattle.rv_emit_runs.proofs.EmitPlacedBlocks.{StandsAmong, stands_among}
use Rattle.rv_emit_runs.proofs.Covering.{all_below}
use Rattle.rv_emit_runs.proofs.Functions.{FunctionIn}
use Rattle.rv_emit_runs.proofs.Grounds.{blocks_few}
use Rattle.rv_emit_runs.proofs.UnitPlaced.{HasCode, found}

-- ---- The stops of pieces

piece_at : (before : List PlacedPiece) (x : PlacedPiece) (behind : List PlacedPiece) → slice_get (before ++ x ∷ behind) (length before) ≡ Some x
piece_at [] x behind = refl
piece_at (y ∷ before) x behind = piece_at before x behind

stop_place : (a : ℕ) (x : PlacedPiece) → map place_of (stop_at a x) ≡ begun_by x
stop_place a x = by_flag x.is_stop
  where
    by_flag : (b : Bool) → map place_of (cond b ((record { place = x.owner; address = a }) ∷ []) []) ≡ cond b (x.owner ∷ []) []
    by_flag true = refl
    by_flag false = refl

pieces_places : (s : SequenceForm) (l : LayoutForm) (first i : ℕ) (before some rest : List PlacedPiece) → s.pieces ≡ before ++ (some ++ rest) → length before ≡ i → map place_of (stops_of_pieces s l first i (length some)) ≡ begun some
pieces_places s l first i before [] rest is count = refl
pieces_places s l first i before (x ∷ some) rest is count =
    let at : slice_get s.pieces i ≡ Some x = ap (slice_get s.pieces) (sym count) ∙ ap (λ q. slice_get q (length before)) is ∙ piece_at before x (some ++ rest) in
    let longer : length (before ++ x ∷ []) ≡ i + 1 = let all = length-append before (x ∷ []) in omega (arith, all, count) in
    map-append place_of (option_map_or (stop_at (piece_address l first i)) (slice_get s.pieces i) []) (stops_of_pieces s l first (i + 1) (length some))
    ∙ ap (λ l'. l' ++ map place_of (stops_of_pieces s l first (i + 1) (length some))) (ap (λ o. map place_of (option_map_or (stop_at (piece_address l first i)) o [])) at ∙ stop_place (piece_address l first i) x)
    ∙ ap (λ l'. begun_by x ++ l') (pieces_places s l first (i + 1) (before ++ x ∷ []) some rest (is ∙ sym (append_assoc before (x ∷ []) (some ++ rest))) longer)

-- ---- The stops of functions

blocks_places : (s : SequenceForm) (l : LayoutForm) (first entry b : ℕ) (blocks : List Block) → ((k : ℕ) (x : Block) → slice_get blocks k ≡ Some x → map place_of (stops_of_block s l first (b + k)) ≡ kept entry (markers_in x.instructions))
    → map place_of (stops_of_blocks s l first b (length blocks)) ≡ kept entry (markers_of_blocks blocks)
blocks_places s l first entry b [] each = refl
blocks_places s l first entry b (x ∷ more) each =
    let here : b ≡ b + 0 = omega arith in
    map-append place_of (stops_of_block s l first b) (stops_of_blocks s l first (b + 1) (length more))
    ∙ ap (λ q. q ++ map place_of (stops_of_blocks s l first (b + 1) (length more))) (ap (λ j. map place_of (stops_of_block s l first j)) here ∙ each 0 x refl)
    ∙ ap (λ q. kept entry (markers_in x.instructions) ++ q) (blocks_places s l first entry (b + 1) more (λ k y at. ap (λ j. map place_of (stops_of_block s l first j)) (next k) ∙ each (suc k) y at))
    ∙ sym (kept_append entry (markers_in x.instructions) (markers_of_blocks more))
  where
    next : (k : ℕ) → b + 1 + k ≡ b + suc k
    next k = omega arith

module _ (g : Ground) (f : Graph) (is_main : Bool) (s : SequenceForm) (l : LayoutForm) (first : ℕ) (sequence : IsSequenceOf g f is_main s) (few : length s.pieces ≤ most_pieces) where
  block_places : (k : ℕ) (b : Block) → slice_get f.blocks k ≡ Some b → map place_of (stops_of_block s l first k) ≡ kept g.entry (markers_in b.instructions)
  block_places k b at =
      by_standing
      (stands_among g s f.blocks sequence.at sequence.standing k (first_pieces g f is_main) (all_below (length f.blocks) (map (λ (x : Standing). x.number) sequence.standing) sequence.order.once sequence.order.low sequence.order.all k (slice_get_within f.blocks k b at))
      sequence.blocks sequence.next sequence.labels)
    where
      by_standing : StandsAmong g s f.blocks sequence.at (first_pieces g f is_main) sequence.standing k → map place_of (stops_of_block s l first k) ≡ kept g.entry (markers_in b.instructions)
      by_standing found =
          let x : Standing = found.one in
          let pieces : s.pieces ≡ found.front ++ (standing_pieces g s.numbers x ++ (found.back ++ last_pieces g)) =
          sequence.pieces ∙ ap (λ q. q ++ last_pieces g) found.pieces
          ∙ append_assoc found.front (standing_pieces g s.numbers x ++ found.back) (last_pieces g) ∙ ap (λ q. found.front ++ q) (append_assoc (standing_pieces g s.numbers x) found.back (last_pieces g)) in
          let count : length (standing_pieces g s.numbers x) ≡ length (standing_code g x).pieces = length-map (standing_code g x).pieces (numbered (slice_index s.numbers x.number)) in
          let total = ap (λ (q : List PlacedPiece). length q) pieces ∙ length-append found.front (standing_pieces g s.numbers x ++ (found.back ++ last_pieces g)) in
          let inner = length-append (standing_pieces g s.numbers x) (found.back ++ last_pieces g) in
          let from : slice_index s.labels k ≡ length found.front = ap (λ m. slice_index s.labels m) (sym found.number) ∙ found.label ∙ (omega (arith, total, few)) in
          let to : slice_index s.ends k ≡ length found.front + length (standing_code g x).pieces = ap (λ m. slice_index s.ends m) (sym found.number) ∙ found.end ∙ (omega (arith, total, inner, count, few)) in
          let many : slice_index s.ends k - slice_index s.labels k ≡ length (standing_pieces g s.numbers x) = omega (arith, from, to, count) in
          let block : x.block ≡ b = (let both : Some x.block ≡ Some b = sym found.is.block ∙ ap (λ m. slice_get f.blocks m) found.number ∙ at in cc) in
          ap (λ n. map place_of (stops_of_pieces s l first (slice_index s.labels k) n)) many
          ∙ pieces_places s l first (slice_index s.labels k) found.front (standing_pieces g s.numbers x) (found.back ++ last_pieces g) pieces (sym from)
          ∙ begun_numbered (slice_index s.numbers x.number) (standing_code g x).pieces
          ∙ block_begun g.storage g.entry g.saved g.size g.end x.next x.known x.loads x.block
          ∙ ap (λ (c : Block). kept g.entry (markers_in c.instructions)) block

  function_places : length f.blocks < 4294967295 → map place_of (stops_of_blocks s l first 0 (counted (length s.ends))) ≡ kept g.entry (markers_of_blocks f.blocks)
  function_places short =
      let ends : length s.ends ≡ length f.blocks = sequence.end_count in
      let count : counted (length s.ends) ≡ length f.blocks = omega (arith, ends, short) in
      ap (λ n. map place_of (stops_of_blocks s l first 0 n)) count ∙ blocks_places s l first g.entry 0 f.blocks (λ k b at. ap (λ j. map place_of (stops_of_block s l first j)) (same k) ∙ block_places k b at)
    where
      same : (k : ℕ) → 0 + k ≡ k
      same k = omega arith

-- ---- The stops of a unit

unit_places : (h : HomedForm) (s : StaticForm) (firsts : List ℕ) (f : ℕ) (graphs : List Graph) (all : List LaidForm) → AreLaid h s f graphs all → ((k : ℕ) (g : Graph) → slice_get graphs k ≡ Some g → length g.blocks < 4294967295)
    → ((k : ℕ) (l : LaidForm) → slice_get all k ≡ Some l → length l.sequence.pieces ≤ most_pieces) → map place_of (stops_of_all firsts f all) ≡ stop_places graphs
unit_places h s firsts f [] [] laid short few = refl
unit_places h s firsts f [] (l ∷ more) laid short few = absurd laid
unit_places h s firsts f (g ∷ graphs) [] laid short few = absurd laid
unit_places h s firsts f (g ∷ graphs) (l ∷ more) laid short few =
    map-append place_of (stops_of_blocks l.sequence l.layout (slice_index firsts f) 0 (counted (length l.sequence.ends))) (stops_of_all firsts (counted (f + 1)) more)
    ∙ ap (λ q. q ++ map place_of (stops_of_all firsts (counted (f + 1)) more)) (function_places (ground_for s g (homes_in h f) l) g (f == h.unit.main) l.sequence l.layout (slice_index firsts f) (laid.0.drawn.sequence (short 0 g refl)) (few 0 l refl) (short 0 g refl))
    ∙ ap (λ q. stop_places_in g ++ q) (unit_places h s firsts (counted (f + 1)) graphs more laid.1 (λ k x at. short (suc k) x at) (λ k x at. few (suc k) x at))

-- ---- Each once

-- A number that is none of some is none of those of them that are kept.
kept_other : (entry p : ℕ) (xs : List ℕ) → AllByRecursion (λ q. p ≢ q) xs → AllByRecursion (λ q. p ≢ q) (kept entry xs)
kept_other entry p [] all = tt
kept_other entry p (x ∷ xs) all = by_test (not (x == entry)) (kept_other entry p xs all.1)
  where
    by_test : (b : Bool) → AllByRecursion (λ q. p ≢ q) (kept entry xs) → AllByRecursion (λ q. p ≢ q) (cond b (x ∷ kept entry xs) (kept entry xs))
    by_test true later = (all.0, later)
    by_test false later = later

all_parts : (P : ℕ → Type 0) (xs ys : List ℕ) → AllByRecursion P (xs ++ ys) → AllByRecursion P xs × AllByRecursion P ys
all_parts P [] ys all = (tt, all)
all_parts P (x ∷ xs) ys all = let later = all_parts P xs ys all.1 in ((all.0, later.0), later.1)

all_both : (P : ℕ → Type 0) (xs ys : List ℕ) → AllByRecursion P xs → AllByRecursion P ys → AllByRecursion P (xs ++ ys)
all_both P [] ys one two = two
all_both P (x ∷ xs) ys one two = (one.0, all_both P xs ys one.1 two)

places_other : (p : ℕ) (graphs : List Graph) → AllByRecursion (λ q. p ≢ q) (markers_of graphs) → AllByRecursion (λ q. p ≢ q) (stop_places graphs)
places_other p [] all = tt
places_other p (g ∷ more) all =
    let parts = all_parts (λ q. p ≢ q) (markers_of_blocks g.blocks) (markers_of more) all in
    all_both (λ q. p ≢ q) (stop_places_in g) (stop_places more) (kept_other g.entry p (markers_of_blocks g.blocks) parts.0) (places_other p more parts.1)

-- Those of some numbers that are kept, before those of others.
kept_different : (entry : ℕ) (xs : List ℕ) (graphs : List Graph) → AreAllDifferent (xs ++ markers_of graphs) → AreAllDifferent (stop_places graphs) → AreAllDifferent (kept entry xs ++ stop_places graphs)
kept_different entry [] graphs all later = later
kept_different entry (x ∷ xs) graphs all later = by_test (not (x == entry)) (kept_different entry xs graphs all.1 later)
  where
    by_test : (b : Bool) → AreAllDifferent (kept entry xs ++ stop_places graphs) → AreAllDifferent (cond b (x ∷ kept entry xs) (kept entry xs) ++ stop_places graphs)
    by_test true rest =
        let parts = all_parts (λ q. x ≢ q) xs (markers_of graphs) all.0 in
        (all_both (λ q. x ≢ q) (kept entry xs) (stop_places graphs) (kept_other entry x xs parts.0) (places_other x graphs parts.1), rest)
    by_test false rest = rest

different_behind : (xs ys : List ℕ) → AreAllDifferent (xs ++ ys) → AreAllDifferent ys
different_behind [] ys all = all
different_behind (x ∷ xs) ys all = different_behind xs ys all.1

pub places_different : (graphs : List Graph) → AreAllDifferent (markers_of graphs) → AreAllDifferent (stop_places graphs)
places_different [] all = tt
places_different (g ∷ more) all = kept_different g.entry (markers_of_blocks g.blocks) more all (places_different more (different_behind (markers_of_blocks g.blocks) (markers_of more) all))

-- ---- All of it

module _ (h : HomedForm) (valid : IsValid h.unit) (e : EmittedForm) (emitted : IsEmittedOf h e) (short : length e.code ≤ most_words e.map) where
  has : HasCode h.unit.room (program_of e short) e.owners emitted.coded
  has = record { reach = emitted_in_reach h e emitted; words = emitted.words; own = emitted.owners; stops = ap (λ l. map (λ (x : PlacedStop). x.address) l) emitted.stops }

  pieces_few : (k : ℕ) (l : LaidForm) → slice_get emitted.coded.all k ≡ Some l → length l.sequence.pieces ≤ most_pieces
  pieces_few k l at =
      let functions : length h.unit.graphs ≤ 256 = valid.functions in
      let one : FunctionIn h.unit.room emitted.coded.words emitted.coded.firsts k l = found h emitted.statics emitted.coded emitted.code (program_of e short) e.owners has (omega (arith, functions)) k l at in
      one.few

  blocks_short : (k : ℕ) (g : Graph) → slice_get h.unit.graphs k ≡ Some g → length g.blocks < 4294967295
  blocks_short k g at = let few : length g.blocks ≤ 120000 = blocks_few h.unit valid k g at in omega (arith, few)

  places_are : map place_of e.stops ≡ stop_places h.unit.graphs
  places_are = ap (map place_of) emitted.stops ∙ unit_places h emitted.statics emitted.coded.firsts 0 h.unit.graphs emitted.coded.all emitted.code.laid blocks_short pieces_few

  -- The stops of what is emitted are those of the unit.
  pub emitted_stops : AreStopsOf h.unit e.stops
  emitted_stops = record { places = places_are; once = subst AreAllDifferent (sym places_are) (places_different h.unit.graphs valid.once) }
