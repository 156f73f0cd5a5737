-- What is emitted is code of the unit: it stands where it is to stand, as the run of the code asks.
use Rattle.std.proofs.Common.{◌≡◌, ◌≢◌, ℕ, zero, suc, ◌+◌, ◌-◌, ◌<◌, ◌≤◌, inl, inr, ⊎_elim, ◌==◌, Bool, false, Option, Some, None, List, [], ◌∷◌, ◌++◌, length, map, slice_get, slice_index, get_or, refl, sym, ap, ◌∙◌, subst, arith, append-nil, ◌/◌}
use Rattle.std.specs.List.{AllByRecursion}
use Rattle.std.specs.Option.{option_map_or}
use Rattle.std.proofs.lemmas.Bool.{cases_lt}
use Rattle.std.proofs.lemmas.List.{length-append, length-map}
use Rattle.std.proofs.lemmas.Option.{slice_get_within}
use Rattle.memory_map.specs.declared.map.Map.{Map}
use Rattle.memory_map.specs.Maps.{most_words, stack_end, stub_words, bytes_size}
use Rattle.memory_map.proofs.Facts.{map_facts}
use Rattle.rv_emit_layout.specs.declared.reaching.Reach.TheVariants.{Near}
use Rattle.rv_emit_layout.proofs.Bound.{code_has_room}
use Rattle.rv_emit_runs.proofs.Maps.{emitted_in_reach}
use Rattle.rv_emit_storage.specs.UnitMaps.{map_of_unit}
use Rattle.rv_code.specs.declared.instruction.Instruction.TheVariants.{Lui}
use Rattle.rv_machine.specs.Run.{is_stop}
use Rattle.graph_core.specs.Graphs.{Block}
use Rattle.graph_core.specs.Paths.{Among}
use Rattle.graph_core.specs.Validity.{IsValid}
use Rattle.graph_homes.specs.Homed.{HomedForm, HaveHomes, homes_in}
use Rattle.rv_emit_storage.specs.StaticAddresses.{initial_bytes}
use Rattle.rv_emit_tables.specs.declared.emitted.PlacedStop.{PlacedStop}
use Rattle.rv_emit_tables.specs.Emitted.{EmittedForm}
use Rattle.rv_emit_words.specs.declared.piece.Held.{Held}
use Rattle.rv_emit_words.specs.declared.piece.Piece.{Piece}
use Rattle.rv_emit_words.specs.declared.piece.Piece.TheVariants.{Word, Jump, Branch, Call}
use Rattle.rv_emit_words.specs.declared.piece.PlacedPiece.{PlacedPiece}
use Rattle.rv_emit_steps.specs.Programs.{Program, address_of}
use Rattle.rv_emit_code.specs.Blocks.{no_code, with_stub}
use Rattle.rv_emit_runs.specs.Pieces.{Targets, AreInCode, PieceAt}
use Rattle.rv_emit_runs.specs.Placed.{PlacedAt}
use Rattle.rv_emit_runs.specs.Settings.{AreLoads}
use Rattle.rv_emit_sequence.specs.Sequences.{AreConstants, Ground, SequenceForm}
use Rattle.rv_emit_layout.specs.declared.layout.OwnedWord.{OwnedWord}
use Rattle.rv_emit_layout.specs.Reaches.{width}
use Rattle.rv_emit_layout.specs.Layouts.{LayoutForm, function_words, label_at, words_before}
use Rattle.rv_emit_layout.proofs.Layouts.{width_some}
use Rattle.rv_emit_runs.specs.Laid.{Arrangement, graph_at, program_of, targets_in, IsBlockAt, IsCode, IsFunctionAt, IsInWords}
use Rattle.rv_emit_runs.proofs.Calls.{called_there}
use Rattle.rv_emit_runs.proofs.Frames.{graph_there}
use Rattle.rv_emit_runs.proofs.Lists.{all_among}
use Rattle.rv_emit_layout.specs.Laid.{CodedForm, LaidForm, StaticForm, firsts_from, ground_for, layout_of_stub, stops_of_all, stub_of, words_of_all, IsEmittedOf}
use Rattle.rv_emit_layout.specs.Laid.{AreAddressesOf}
use Rattle.rv_emit_runs.specs.Room.{StandApart}
use Rattle.rv_emit_runs.proofs.Rooms.{end_length}
use Rattle.rv_emit_runs.specs.Placing.{IsBlockPlaced, IsFunctionPlaced}
use Rattle.rv_emit_runs.specs.EmitPlacedStanding.{targets_of}
use Rattle.rv_emit_runs.specs.Stops.{IsStopOfOne}
use Rattle.rv_emit_runs.proofs.Functions.{function_count}
use Rattle.rv_emit_runs.proofs.Grounds.{can_stand, ground_at, ground_is, initial_few}
use Rattle.rv_emit_runs.proofs.Pieces.{FunctionThere, Goes, label_within, part_there}
use Rattle.rv_emit_runs.proofs.Placed.{piece_long}
use Rattle.rv_emit_runs.proofs.Spelled.{stub_spelled}
use Rattle.rv_emit_runs.proofs.Stops.{no_stop_there}
use Rattle.rv_emit_runs.proofs.Unflagged.{NoStops, unflagged_at}
use Rattle.rv_emit_runs.proofs.UnitPlaced.{HasCode, Placed, firsts_grow, firsts_low, laid_count, together, unit_placed}
use Rattle.rv_emit_runs.proofs.Stub.{stub_begin, stub_calls, stub_ends, stub_few, stub_laid}
use Rattle.rv_emit_runs.proofs.UnitStops.{FitTogether, Fits, all_more, functions_told, same_laid, words_apart}

-- ---- Where a piece of a function begins

-- A list in three parts: what stands before an element, it, and what stands behind.
record Split (xs : List PlacedPiece) (i : ℕ) (x : PlacedPiece) : Type 0 where
  pub before : List PlacedPiece
  pub behind : List PlacedPiece
  pub is : xs ≡ before ++ (x ∷ behind)
  pub count : length before ≡ i

split_at : (xs : List PlacedPiece) (i : ℕ) (x : PlacedPiece) → slice_get xs i ≡ Some x → Split xs i x
split_at [] i x e = cc
split_at (y ∷ xs) zero x e = let same : y ≡ x = cc in record { before = []; behind = xs; is = ap (λ z. z ∷ xs) same; count = refl }
split_at (y ∷ xs) (suc i) x e =
    let later : Split xs i x = split_at xs i x e in
    record { before = y ∷ later.before; behind = later.behind; is = ap (λ l. y ∷ l) later.is; count = ap (λ n. suc n) later.count }

-- A piece has a word.
piece_ends : (p : Program) (t : Targets) (i : ℕ) (b : Bool) (q : Piece) (j : ℕ) → PieceAt p t i b q j → i < j
piece_ends p t i b q j at = let long = piece_long p t i b q j at in omega (arith, long)

-- The first word of a piece belongs to its place.
first_owner : (p : Program) (owners : List ℕ) (s : SequenceForm) (l : LayoutForm) (first : ℕ) (firsts : List ℕ) → FunctionThere p owners s l first firsts → (i : ℕ) (x : PlacedPiece) → slice_get s.pieces i ≡ Some x
    → slice_index owners (first + words_before l.reaches s.pieces i) ≡ x.owner
first_owner p owners s l first firsts there i x e =
    let parts : Split s.pieces i x = split_at s.pieces i x e in
    let at = part_there p owners s l first firsts there parts.before (x ∷ []) parts.behind parts.is in
    let ends : first + words_before l.reaches s.pieces (length parts.before) < at.0 = piece_ends p (targets_of owners s l first firsts) (first + words_before l.reaches s.pieces (length parts.before)) x.is_stop x.piece at.0 at.1 in
    subst (λ k. slice_index owners (first + words_before l.reaches s.pieces k) ≡ x.owner) parts.count (at.2 (first + words_before l.reaches s.pieces (length parts.before)) (omega arith) ends)

-- Constants are loads.
loads_are : (held : List Held) → AreConstants held → AreLoads held
loads_are [] are = tt
loads_are (x ∷ more) are = (are.0.register, are.0.word, loads_are more are.1)

-- ---- Where all stands

-- the code of no function
abbrev pub no_laid : LaidForm
no_laid = record { saved = []; slots = 0; objects = []; size = 0; sequence = record { pieces = []; begin = 0; labels = []; ends = []; numbers = [] }; layout = record { offsets = []; words = 0; reaches = [] } }

-- the code of a function, if there is one
abbrev pub laid_of : CodedForm → (function : ℕ) → LaidForm
laid_of c f = option_map_or (λ l. l) (slice_get c.all f) no_laid

pub laid_is : (c : CodedForm) (f : ℕ) (l : LaidForm) → slice_get c.all f ≡ Some l → l ≡ laid_of c f
laid_is c f l e = sym (ap (λ (o : Option LaidForm). option_map_or (λ (l : LaidForm). l) o no_laid) e)

-- Where the parts of code stand.
abbrev pub arranged : StaticForm → CodedForm → Arrangement
arranged s c = record {
  base = s.base;
  function = λ f. slice_index c.firsts f;
  label = λ f b. slice_index c.firsts f + label_at (laid_of c f).sequence.labels (laid_of c f).layout.offsets b;
}

module _ (h : HomedForm) (valid : IsValid h.unit) (homed : HaveHomes h) (e : EmittedForm) (emitted : IsEmittedOf h e) (short : length e.code ≤ most_words e.map) (are : AreAddressesOf h.unit emitted.statics) (words : AllByRecursion IsInWords h.unit.graphs) where
  abbrev c : CodedForm
  c = emitted.coded

  abbrev s : StaticForm
  s = emitted.statics

  abbrev a : Arrangement
  a = arranged emitted.statics emitted.coded

  abbrev p : Program
  p = program_of e short

  has : HasCode h.unit.room p e.owners c
  has = record { reach = emitted_in_reach h e emitted; words = emitted.words; own = emitted.owners; stops = ap (λ l. map (λ (x : PlacedStop). x.address) l) emitted.stops }

  few : length h.unit.graphs ≤ 4294967295
  few = let functions : length h.unit.graphs ≤ 256 = valid.functions in omega (arith, functions)

  all_together : FitTogether h.unit.room e.map c.all c.firsts
  all_together = together h s c emitted.code p e.owners has few

  -- The code of each function that there is stands.
  placed : (f : ℕ) → f < length h.unit.graphs → Placed h s p e.owners c f (graph_at h.unit f)
  placed f low = unit_placed h s c emitted.code p e.owners has few f (graph_at h.unit f) (can_stand h valid homed s are a refl words f low) (graph_there h.unit f low)

  firsts_are : (k : ℕ) → slice_index c.firsts k ≡ slice_index (firsts_from (stub_words (map_of_unit h.unit)) c.all) k
  firsts_are k = ap (λ (l : List ℕ). slice_index l k) (emitted.code.firsts ∙ ap (λ n. firsts_from n c.all) (stub_begin h.unit))

  end_low : (k : ℕ) (l : LaidForm) → slice_get c.all k ≡ Some l → slice_index (firsts_from (stub_words (map_of_unit h.unit)) c.all) k + l.layout.words ≤ most_words e.map
  end_low k l at =
      let fit : Fits h.unit.room e.map l (slice_index c.firsts k) = all_together.fits k l at in
      let low = fit.low in
      let count = fit.layout.words in
      let is = firsts_are k in
      omega (arith, low, count, is)

  begin_low : (k : ℕ) → slice_index c.firsts k ≤ most_words e.map
  begin_low k = let low = firsts_low (most_words e.map) c.all (stub_words (map_of_unit h.unit)) k (omega (arith, code_has_room e.map, stub_few (map_of_unit h.unit))) end_low in let is = firsts_are k in omega (arith, low, is)

  begin_high : (k : ℕ) (l : LaidForm) → slice_get c.all k ≡ Some l → stub_words e.map ≤ slice_index c.firsts k
  begin_high k l at =
      let high = firsts_grow c.all (stub_words (map_of_unit h.unit)) k l (λ i q told. let low = end_low i q told in omega (arith, low, (map_facts e.map).few)) at in
      let is = firsts_are k in
      let same : stub_words e.map ≡ stub_words (map_of_unit h.unit) = ap (λ (m : Map). stub_words m) emitted.regions in
      omega (arith, high, is, same)

  -- ---- Targets

  labels_low : (f b : ℕ) → a.label f b ≤ most_words e.map
  labels_low f b = by_found (slice_get c.all f) refl
    where
      by_found : (found : Option LaidForm) → slice_get c.all f ≡ found → slice_index c.firsts f + label_at (option_map_or (λ (l : LaidForm). l) found no_laid).sequence.labels (option_map_or (λ (l : LaidForm). l) found no_laid).layout.offsets b ≤ most_words e.map
      by_found None at = let low = begin_low f in omega (arith, low)
      by_found (Some l) at = let fit : Fits h.unit.room e.map l (slice_index c.firsts f) = all_together.fits f l at in label_within h.unit.room (most_words e.map) l.sequence l.layout (slice_index c.firsts f) fit.layout fit.low b

  all_inside : (f : ℕ) → AreInCode e.map (targets_in e a f)
  all_inside f = record { labels = labels_low f; functions = begin_low }

  -- ---- Functions

  -- The code of a function, as its frame has it, stands where its labels say.
  function_there : (f : ℕ) → f < length h.unit.graphs
      → IsFunctionPlaced p (targets_in e a f) (ground_at h valid homed s are a refl f) (graph_at h.unit f) (f == h.unit.main) (λ n. slice_index c.firsts f + words_before (laid_of c f).layout.reaches (laid_of c f).sequence.pieces (slice_index (laid_of c f).sequence.ends n)) (a.function f) (slice_index c.firsts f + words_before (laid_of c f).layout.reaches (laid_of c f).sequence.pieces (length (laid_of c f).sequence.pieces))
  function_there f low =
      let one : Placed h s p e.owners c f (graph_at h.unit f) = placed f low in
      let ground : ground_for s (graph_at h.unit f) (homes_in h f) one.laid ≡ ground_at h valid homed s are a refl f = ground_is h valid homed s are a refl f low (f == h.unit.main) one.laid one.is in
      subst (λ (l : LaidForm). IsFunctionPlaced p (targets_of e.owners l.sequence l.layout (slice_index c.firsts f) c.firsts) (ground_at h valid homed s are a refl f) (graph_at h.unit f) (f == h.unit.main) (λ n. slice_index c.firsts f + words_before l.layout.reaches l.sequence.pieces (slice_index l.sequence.ends n)) (slice_index c.firsts f) (slice_index c.firsts f + words_before l.layout.reaches l.sequence.pieces (length l.sequence.pieces)))
      (laid_is c f one.laid one.there)
      (subst (λ (g : Ground). IsFunctionPlaced p (targets_of e.owners one.laid.sequence one.laid.layout (slice_index c.firsts f) c.firsts) g (graph_at h.unit f) (f == h.unit.main) (λ n. slice_index c.firsts f + words_before one.laid.layout.reaches one.laid.sequence.pieces (slice_index one.laid.sequence.ends n)) (slice_index c.firsts f) (slice_index c.firsts f + words_before one.laid.layout.reaches one.laid.sequence.pieces (length one.laid.sequence.pieces))) ground one.placed)

  -- A block as the run of the code asks it to stand.
  abbrev block_at : (f : ℕ) {known : ℕ → List Held} {until : ℕ → ℕ} (l : ℕ) (b : Block) → IsBlockPlaced p (targets_in e a f) (ground_at h valid homed s are a refl f) known until l b → IsBlockAt h a p (targets_in e a f) f known l b
  block_at f l b is = record { next = is.next; loads = is.loads; there = is.there; constants = loads_are is.loads is.constants; leads = is.leads }

  function_is : (f : ℕ) → f < length h.unit.graphs → IsFunctionAt h a p (targets_in e a f) f
  function_is f low =
      let there = function_there f low in
      record {
        known = there.at;
        begins = there.begins;
        first = there.start;
        constants = λ l. loads_are (there.at l) (there.constants l);
        blocks = λ l b at. block_at f l b (there.blocks l b at);
        behind = slice_index c.firsts f + words_before (laid_of c f).layout.reaches (laid_of c f).sequence.pieces (length (laid_of c f).sequence.pieces);
        ends = there.ends;
      }

  -- ---- Stops

  stops_told : AllByRecursion (IsStopOfOne c.all c.firsts) (stops_of_all c.firsts 0 c.all)
  stops_told = functions_told h.unit.room e.map c.all c.firsts c.all 0 (let some : length c.all ≤ 4294967295 = all_together.few in omega (arith, some))
      (λ k m at. let here : k ≡ 0 + k = omega arith in subst (λ j. slice_get c.all j ≡ Some m) here at)
      (λ k m at. let here : k ≡ 0 + k = omega arith in subst (λ j. Fits h.unit.room e.map m (slice_index c.firsts j)) here (all_together.fits k m at))

  -- A stop is the first word of its place.
  stop_is : (x : PlacedStop) → Among x e.stops → (index : ℕ) × (x.address ≡ address_of index) × (slice_index e.owners index ≡ x.place)
  stop_is x among =
      let one : IsStopOfOne c.all c.firsts x = all_among (IsStopOfOne c.all c.firsts) (stops_of_all c.firsts 0 c.all) x stops_told (subst (λ l. Among x l) emitted.stops among) in
      let within : one.function < length c.all = slice_get_within c.all one.function one.laid one.there in
      let count : length c.all ≡ length h.unit.graphs = laid_count h s 0 h.unit.graphs c.all emitted.code.laid in
      let at : Placed h s p e.owners c one.function (graph_at h.unit one.function) = placed one.function (omega (arith, within, count)) in
      let same : at.laid ≡ one.laid = same_laid c.all one.function at.laid one.laid at.there one.there in
      let code : FunctionThere p e.owners one.laid.sequence one.laid.layout (slice_index c.firsts one.function) c.firsts = subst (λ (l : LaidForm). FunctionThere p e.owners l.sequence l.layout (slice_index c.firsts one.function) c.firsts) same at.code in (
        slice_index c.firsts one.function + words_before one.laid.layout.reaches one.laid.sequence.pieces one.is.index,
        one.is.address,
        first_owner p e.owners one.laid.sequence one.laid.layout (slice_index c.firsts one.function) c.firsts code one.is.index one.is.piece one.is.there ∙ sym one.is.place,
      )

  -- No stop stands before the functions.
  none_early : (k : ℕ) → k < stub_words e.map → is_stop p.stops (address_of k) ≡ false
  none_early k low =
      subst (λ l. is_stop l (address_of k) ≡ false) (sym has.stops)
      (no_stop_there (stops_of_all c.firsts 0 c.all) (address_of k)
      (all_more (IsStopOfOne c.all c.firsts) (λ (x : PlacedStop). x.address ≢ address_of k)
      (λ x one here. let high = begin_high one.function one.laid one.there in let start = one.is.address in absurd (omega (arith, high, start, here, low)))
      (stops_of_all c.firsts 0 c.all) stops_told))

  -- ---- What stands before all functions

  abbrev stub : SequenceForm
  stub = stub_of h.unit

  abbrev stub_layout : LayoutForm
  stub_layout = layout_of_stub h.unit

  stub_unflagged : NoStops stub.pieces
  stub_unflagged = (refl, (refl, (refl, (refl, (refl, tt)))))

  stub_goes : (k : ℕ) (x : PlacedPiece) → slice_get stub.pieces k ≡ Some x → Goes x.piece → 1 ≤ 0 + words_before stub_layout.reaches stub.pieces k
  stub_goes zero x at goes =
      let same : record { piece = Word (Lui 2 (stack_end (map_of_unit h.unit) / 4096)); owner = 0; is_stop = false; writes = None } ≡ x = cc in
      absurd (subst (λ (y : PlacedPiece). Goes y.piece) (sym same) goes)
  stub_goes (suc k) x at goes = omega arith

  -- They have as many words as stand there.
  stub_end : words_before stub_layout.reaches stub.pieces 5 ≡ stub_words e.map
  stub_end = stub_ends h.unit ∙ ap (λ (m : Map). stub_words m) (sym emitted.regions)

  stub_before : (k : ℕ) (x : PlacedPiece) → slice_get stub.pieces k ≡ Some x → words_before stub_layout.reaches stub.pieces k + width (get_or stub_layout.reaches k Near) x.piece ≤ stub_words e.map
  stub_before k x at = let within = words_apart stub_layout.reaches stub.pieces k 5 x at (slice_get_within stub.pieces k x at) in let end = stub_end in omega (arith, within, end)

  stub_there : FunctionThere p e.owners stub stub_layout 0 c.firsts
  stub_there = record {
    room = h.unit.room;
    layout = stub_laid h.unit;
    calls = stub_calls h.unit c.firsts (λ k. 0 + slice_index stub_layout.offsets k);
    few = omega arith;
    stands = record {
      before = [];
      behind = words_of_all c.firsts 0 c.all;
      words = has.words ∙ ap (λ l. map (λ (w : OwnedWord). w.word) l) emitted.code.words;
      owners = has.own ∙ ap (λ l. map (λ (w : OwnedWord). w.owner) l) emitted.code.words;
      begin = refl;
      low = let end = stub_end in omega (arith, end, stub_few e.map, code_has_room e.map);
      functions = begin_low;
    };
    stops = record {
      one = λ k x at. let low = stub_before k x at in let some = width_some (get_or stub_layout.reaches k Near) x.piece in none_early (0 + words_before stub_layout.reaches stub.pieces k) (omega (arith, low, some)) ∙ sym (unflagged_at stub.pieces k x stub_unflagged at);
      later = λ k j x at some wide. let low = stub_before k x at in none_early (0 + words_before stub_layout.reaches stub.pieces k + j) (omega (arith, low, wide));
    };
    forms = stub_spelled (map_of_unit h.unit) h.unit.main;
    reach = emitted_in_reach h e emitted;
    inside = stub_goes;
  }

  stub_is : PlacedAt p (targets_in e a h.unit.main) 0 (with_stub e.map h.unit.main (no_code 0 [])).pieces (stub_words e.map)
  stub_is =
      let end = stub_end in
      let last : 0 + words_before stub_layout.reaches stub.pieces 5 ≡ stub_words e.map = omega (arith, end) in
      subst (λ m. PlacedAt p (targets_in e a h.unit.main) 0 (with_stub m h.unit.main (no_code 0 [])).pieces (stub_words e.map)) (sym emitted.regions)
      (subst (λ n. PlacedAt p (targets_in e a h.unit.main) 0 stub.pieces n) last
      (part_there p e.owners stub stub_layout 0 c.firsts stub_there [] stub.pieces [] (sym (append-nil stub.pieces))))

  -- ---- All of it

  -- What is emitted for a valid unit with homes, whose constants are words, is code of it.
  pub code_is : e.initial ≡ initial_bytes h.unit → AllByRecursion (λ b. b < 256) e.initial → IsCode h e
  code_is initial bytes = record {
    arrangement = a;
    map = emitted.regions;
    short = short;
    inside = all_inside;
    stub = stub_is;
    functions = function_is;
    stops = stop_is;
    words = words;
    bytes = bytes;
    few_bytes = subst (λ l. length l ≤ bytes_size) (sym initial) (initial_few h.unit valid);
    base = let is = are.base in omega (arith, is, (map_facts (map_of_unit h.unit)).apart, (map_facts (map_of_unit h.unit)).whole);
    initial = initial;
  }

  -- It stands as it was arranged.
  pub arrangement_is : (initial : e.initial ≡ initial_bytes h.unit) (bytes : AllByRecursion (λ b. b < 256) e.initial) → (code_is initial bytes).arrangement ≡ arranged emitted.statics emitted.coded
  unfolding code_is
  arrangement_is initial bytes = refl

  -- ---- Its parts

  -- Where a block of a function ends, and a function.
  abbrev until_of : (f : ℕ) → ℕ → ℕ
  until_of f n = slice_index c.firsts f + words_before (laid_of c f).layout.reaches (laid_of c f).sequence.pieces (slice_index (laid_of c f).sequence.ends n)

  abbrev behind_of : (f : ℕ) → ℕ
  behind_of f = slice_index c.firsts f + words_before (laid_of c f).layout.reaches (laid_of c f).sequence.pieces (length (laid_of c f).sequence.pieces)

  -- A function ends before the code does.
  behind_low : (f : ℕ) → f < length h.unit.graphs → behind_of f ≤ length e.code
  behind_low f low =
      let one : Placed h s p e.owners c f (graph_at h.unit f) = placed f low in
      let stands = one.code.stands in
      let own = function_words one.laid.sequence one.laid.layout (slice_index c.firsts f) c.firsts in
      let size : length own ≡ words_before one.laid.layout.reaches one.laid.sequence.pieces (length one.laid.sequence.pieces) = function_count one.laid.sequence one.laid.layout (slice_index c.firsts f) c.firsts one.code.few in
      let all : length e.code ≡ length (stands.before ++ (own ++ stands.behind)) = ap (λ (w : List ℕ). length w) stands.words ∙ length-map (stands.before ++ (own ++ stands.behind)) (λ (w : OwnedWord). w.word) in
      let outer = length-append stands.before (own ++ stands.behind) in
      let inner = length-append own stands.behind in
      let begin = stands.begin in
      let same : words_before one.laid.layout.reaches one.laid.sequence.pieces (length one.laid.sequence.pieces) ≡ words_before (laid_of c f).layout.reaches (laid_of c f).sequence.pieces (length (laid_of c f).sequence.pieces) =
      ap (λ (l : LaidForm). words_before l.layout.reaches l.sequence.pieces (length l.sequence.pieces)) (laid_is c f one.laid one.there) in
      omega (arith, size, all, outer, inner, begin, same)

  -- One function ends before another begins.
  behind_apart : (f g : ℕ) → f < length h.unit.graphs → g < length h.unit.graphs → f < g → behind_of f ≤ slice_index c.firsts g
  behind_apart f g low_f low_g lt =
      let one : Placed h s p e.owners c f (graph_at h.unit f) = placed f low_f in
      let two : Placed h s p e.owners c g (graph_at h.unit g) = placed g low_g in
      let gap = all_together.apart f g one.laid two.laid lt one.there two.there in
      let same : words_before one.laid.layout.reaches one.laid.sequence.pieces (length one.laid.sequence.pieces) ≡ words_before (laid_of c f).layout.reaches (laid_of c f).sequence.pieces (length (laid_of c f).sequence.pieces) =
      ap (λ (l : LaidForm). words_before l.layout.reaches l.sequence.pieces (length l.sequence.pieces)) (laid_is c f one.laid one.there) in
      omega (arith, gap, same)

  main_low : h.unit.main < length h.unit.graphs
  main_low = (called_there h.unit h.unit.main 0 valid.main).0

  first_high : (f : ℕ) → f < length h.unit.graphs → stub_words e.map ≤ slice_index c.firsts f
  first_high f low = let one : Placed h s p e.owners c f (graph_at h.unit f) = placed f low in begin_high f one.laid one.there

  -- No two of them share a word.
  pub code_parts : (initial : e.initial ≡ initial_bytes h.unit) (bytes : AllByRecursion (λ b. b < 256) e.initial) → StandApart h e (code_is initial bytes)
  unfolding code_is function_is
  code_parts initial bytes = record {
    words = λ f l. until_of f l - a.label f l;
    behind = behind_of;
    stub = let high = first_high h.unit.main main_low in let low = behind_low h.unit.main main_low in omega (arith, high, low);
    blocks = λ f low l b at.
        let ends : a.label f ((function_there f low).blocks l b at).next ≡ until_of f l = ((function_there f low).blocks l b at).ends in
        omega (arith, ends);
    begins = λ f low. (first_high f low, (function_there f low).ordered.0);
    inside = λ f l low lt. let within = (function_there f low).inside l lt in (within.0, omega (arith, within.1, within.2));
    apart = λ f i j low li lj other.
        let wi = (function_there f low).inside i li in
        let wj = (function_there f low).inside j lj in
        ⊎_elim (λ (le : until_of f i ≤ a.label f j). inl (omega (arith, le, wi.1))) (λ (le : until_of f j ≤ a.label f i). inr (omega (arith, le, wj.1))) ((function_there f low).apart i j li lj other);
    ends = λ f low. ((function_there f low).ordered.1, let end = end_length h e (code_is initial bytes) f low in omega (arith, end));
    functions = λ f g low_f low_g other. ⊎_elim (λ (lt : f < g). inl (behind_apart f g low_f low_g lt)) (λ (ge : g ≤ f). inr (behind_apart g f low_g low_f (below f g other ge))) (cases_lt f g);
    all = behind_low;
  }
    where
      below : (f g : ℕ) → f ≢ g → g ≤ f → g < f
      below f g other ge = ⊎_elim (λ (lt : g < f). lt) (λ (le : f ≤ g). absurd (other (omega (arith, le, ge)))) (cases_lt g f)
