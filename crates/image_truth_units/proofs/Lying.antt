-- The code of functions lies in their order.
use Rattle.std.proofs.Common.{◌≡◌, ◌≢◌, ℕ, zero, suc, ◌+◌, ◌%◌, ◌<◌, ◌≤◌, inl, inr, ◌==◌, Bool, Some, None, List, [], ◌∷◌, ◌++◌, length, map, slice_get, slice_index, get_or, refl, sym, ap, ◌∙◌, subst, arith}
use Rattle.std.proofs.lemmas.Bool.{cases_lt}
use Rattle.std.proofs.lemmas.List.{length-append, length-map}
use Rattle.std.proofs.lemmas.Option.{same_Some, slice_get_within}
use Rattle.rv_code.specs.declared.instruction.Instruction.{Instruction}
use Rattle.memory_map.specs.declared.map.Room.{Room}
use Rattle.memory_map.specs.declared.map.Room.TheVariants.{Small, Large}
use Rattle.memory_map.specs.Maps.{map_of, most_words, stub_words}
use Rattle.memory_map.proofs.Facts.{code_few, map_facts}
use Rattle.graph_core.specs.Graphs.{Binding, Graph, UnitForm}
use Rattle.graph_core.specs.Validity.{IsValid}
use Rattle.graph_homes.specs.Homed.{HomedForm, homes_in}
use Rattle.rv_emit_tables.specs.declared.emitted.PlacedStop.{PlacedStop}
use Rattle.rv_emit_tables.specs.Emitted.{EmittedForm, FunctionCode, address_of_word}
use Rattle.rv_emit_words.specs.declared.piece.Piece.{Piece}
use Rattle.rv_emit_words.specs.declared.piece.Piece.TheVariants.{Word, Jump, Branch, Call}
use Rattle.rv_emit_words.specs.declared.piece.PlacedPiece.{PlacedPiece}
use Rattle.rv_emit_storage.specs.Storages.{StorageForm}
use Rattle.rv_emit_storage.specs.UnitMaps.{map_of_unit}
use Rattle.rv_emit_words.specs.Growing.{CodeState, marked, with_code, with_piece}
use Rattle.rv_emit_instructions.specs.Calls.{argument_register}
use Rattle.rv_emit_code.specs.Beginning.{base_code, binding_code, entering_code, guard_code, with_bindings, with_writer}
use Rattle.rv_emit_code.specs.Blocks.{no_code}
use Rattle.rv_emit_sequence.specs.Sequences.{Ground, all_pieces, counted, first_pieces, last_pieces, IsSequenceOf}
use Rattle.rv_emit_layout.specs.declared.layout.OwnedWord.{OwnedWord}
use Rattle.rv_emit_layout.specs.declared.reaching.Reach.{Reach}
use Rattle.rv_emit_layout.specs.declared.reaching.Reach.TheVariants.{Near, Over, Far}
use Rattle.rv_emit_layout.specs.Layouts.{Lying, function_words, longest_layout, lying, most_pieces, owned_words, piece_code, words_before, words_from}
use Rattle.rv_emit_layout.specs.Tracing.{word_address}
use Rattle.rv_emit_runs.specs.Laid.{program_of}
use Rattle.rv_emit_layout.specs.Laid.{LaidForm, firsts_from, ground_for, parameters_in, layout_of_stub, stub_form, stub_of, told_by, told_of_all, words_of_all, AreLaid, IsEmittedOf, StaticForm}
use Rattle.rv_emit_runs.proofs.Functions.{AreLayouts, FunctionIn, function_count, pieces_few}
use Rattle.rv_emit_runs.proofs.Grounds.{blocks_few}
use Rattle.rv_emit_runs.proofs.Maps.{emitted_in_reach}
use Rattle.rv_emit_runs.proofs.Owners.{AreOwned, first_owned}
use Rattle.rv_emit_runs.proofs.Stub.{stub_begin, stub_count}
use Rattle.rv_emit_runs.proofs.Told.{told_there}
use Rattle.rv_emit_runs.proofs.UnitPlaced.{HasCode, LaidAt, fits, found, laid_at, laid_count, together}
use Rattle.rv_emit_runs.proofs.UnitStops.{Fits}
use Rattle.image_truth_units.specs.Lying.{IsLying, IsWordOf, LieInOrder}
use Rattle.image_truth_units.proofs.Lists.{there}

-- ---- How a function begins

code_grows : (code : List Instruction) (s : CodeState) → length s.pieces ≤ length (with_code code s).pieces
code_grows [] s = omega arith
code_grows (i ∷ more) s =
    let later = code_grows more (with_piece (Word i) s) in
    let one = length-append s.pieces ((record { piece = Word i; owner = s.owner; is_stop = s.begins; writes = None }) ∷ []) in
    omega (arith, later, one)

marked_length : (n : ℕ) (pieces : List PlacedPiece) → length (marked n pieces) ≡ length pieces
marked_length n [] = refl
marked_length n (x ∷ []) = refl
marked_length n (x ∷ y ∷ more) = let later = marked_length n (y ∷ more) in omega (arith, later)

bindings_grow : (g : StorageForm) (f : Graph) (n : ℕ) (all : List Binding) (s : CodeState) → length s.pieces ≤ length (with_bindings g f n all s).pieces
bindings_grow g f n [] s = omega arith
bindings_grow g f n (b ∷ more) s =
    let one = code_grows (binding_code g f (argument_register n) b) s in
    let two = marked_length n (with_code (binding_code g f (argument_register n) b) s).pieces in
    let later = bindings_grow g f ((n + 1) % 4294967296) more (with_writer n (with_code (binding_code g f (argument_register n) b) s)) in
    omega (arith, one, two, later)

some_first : (g : Ground) (f : Graph) (is_main : Bool) → 1 ≤ length (first_pieces g f is_main)
some_first g f is_main =
    let rest = code_grows (guard_code ++ entering_code g.saved g.size ++ base_code is_main g.storage.base) (no_code g.entry []) in
    let begun = guard_some (entering_code g.saved g.size ++ base_code is_main g.storage.base) in
    let later = bindings_grow g.storage f 0 f.parameters (with_code (guard_code ++ entering_code g.saved g.size ++ base_code is_main g.storage.base) (no_code g.entry [])) in
    omega (arith, begun, later)
  where
    guard_some : (more : List Instruction) → 1 ≤ length (with_code (guard_code ++ more) (no_code g.entry [])).pieces
    guard_some more = let four = code_grows more (with_code guard_code (no_code g.entry [])) in omega (arith, four)

-- Pieces begin with one of a place.
record BeginsWith (owner : ℕ) (pieces : List PlacedPiece) : Type 0 where
  pub first : PlacedPiece
  pub rest : List PlacedPiece
  pub is : pieces ≡ first ∷ rest
  pub own : first.owner ≡ owner

begins_with : (owner : ℕ) (pieces more : List PlacedPiece) → 1 ≤ length pieces → AreOwned (λ o. o ≡ owner) pieces → BeginsWith owner (pieces ++ more)
begins_with owner [] more some own = absurd (omega (arith, some))
begins_with owner (x ∷ pieces) more some own = record { first = x; rest = pieces ++ more; is = refl; own = own.0 }

begins_more : (owner : ℕ) (pieces more : List PlacedPiece) → BeginsWith owner pieces → BeginsWith owner (pieces ++ more)
begins_more owner pieces more begin = record { first = begin.first; rest = begin.rest ++ more; is = ap (λ l. l ++ more) begin.is; own = begin.own }

code_some : (t : Lying) (reach : Reach) (from : ℕ) (q : Piece) → 1 ≤ length (piece_code t reach from q)
code_some t reach from (Word i) = omega arith
code_some t Near from (Jump to) = omega arith
code_some t Over from (Jump to) = omega arith
code_some t Far from (Jump to) = omega arith
code_some t Near from (Call f) = omega arith
code_some t Over from (Call f) = omega arith
code_some t Far from (Call f) = omega arith
code_some t Near from (Branch op a b to) = omega arith
code_some t Over from (Branch op a b to) = omega arith
code_some t Far from (Branch op a b to) = omega arith

abbrev owner_of : OwnedWord → ℕ
owner_of w = w.owner

first_owner : (owner : ℕ) (code : List Instruction) (rest : List OwnedWord) → 1 ≤ length code → slice_index (map owner_of (owned_words owner code ++ rest)) 0 ≡ owner
first_owner owner [] rest some = absurd (omega (arith, some))
first_owner owner (i ∷ code) rest some = refl

behind_these : (before words : List OwnedWord) → slice_index (map owner_of (before ++ words)) (length before) ≡ slice_index (map owner_of words) 0
behind_these [] words = refl
behind_these (w ∷ before) words = behind_these before words

front_owner : (t : Lying) (reaches : List Reach) (owner : ℕ) (pieces : List PlacedPiece) (rest : List OwnedWord) → BeginsWith owner pieces → slice_index (map owner_of (words_from t reaches 0 pieces ++ rest)) 0 ≡ owner
front_owner t reaches owner pieces rest begin =
    let x = begin.first in
    let code = piece_code t (get_or reaches 0 Near) (slice_index t.offsets 0) x.piece in
    ap (λ l. slice_index (map owner_of (words_from t reaches 0 l ++ rest)) 0) begin.is ∙ at_front code (owned_words x.owner code) (words_from t reaches (counted (0 + 1)) begin.rest) ∙ first_owner x.owner code (words_from t reaches (counted (0 + 1)) begin.rest ++ rest) (code_some t (get_or reaches 0 Near) (slice_index t.offsets 0) x.piece) ∙ begin.own
  where
    at_front : (code : List Instruction) (xs ys : List OwnedWord) → slice_index (map owner_of ((xs ++ ys) ++ rest)) 0 ≡ slice_index (map owner_of (xs ++ (ys ++ rest))) 0
    at_front code [] ys = refl
    at_front code (x ∷ xs) ys = refl

-- ---- What is told of functions

told_count : (graphs : List Graph) (firsts : List ℕ) (f : ℕ) (all : List LaidForm) → length (told_of_all graphs firsts f all) ≡ length all
told_count graphs firsts f [] = refl
told_count graphs firsts f (l ∷ more) = let later = told_count graphs firsts (counted (f + 1)) more in omega (arith, later)

word_at : (n : ℕ) → n ≤ most_pieces → word_address n ≡ address_of_word n
word_at n low = omega (arith, low)

-- ---- What stands before all functions, and behind them

owned_by_none : (room : Room) (main : ℕ) (firsts : List ℕ) (rest : List OwnedWord) (i : ℕ) → i < stub_words (map_of room)
    → slice_index (map owner_of (function_words (stub_form (map_of room) main) (longest_layout room (stub_form (map_of room) main)) 0 firsts ++ rest)) i ≡ 0
owned_by_none Small main firsts rest zero low = refl
owned_by_none Small main firsts rest (suc zero) low = refl
owned_by_none Small main firsts rest (suc (suc zero)) low = refl
owned_by_none Small main firsts rest (suc (suc (suc zero))) low = refl
owned_by_none Small main firsts rest (suc (suc (suc (suc zero)))) low = refl
owned_by_none Small main firsts rest (suc (suc (suc (suc (suc i))))) low = absurd (omega (arith, low))
owned_by_none Large main firsts rest zero low = refl
owned_by_none Large main firsts rest (suc zero) low = refl
owned_by_none Large main firsts rest (suc (suc zero)) low = refl
owned_by_none Large main firsts rest (suc (suc (suc zero))) low = refl
owned_by_none Large main firsts rest (suc (suc (suc (suc zero)))) low = refl
owned_by_none Large main firsts rest (suc (suc (suc (suc (suc zero))))) low = refl
owned_by_none Large main firsts rest (suc (suc (suc (suc (suc (suc i)))))) low = absurd (omega (arith, low))

stub_owned : (u : UnitForm) (firsts : List ℕ) (rest : List OwnedWord) (i : ℕ) → i < stub_words (map_of_unit u) → slice_index (map owner_of (function_words (stub_of u) (layout_of_stub u) 0 firsts ++ rest)) i ≡ 0
unfolding map_of_unit
stub_owned u firsts rest i low = owned_by_none u.room u.main firsts rest i low

beyond : (xs : List ℕ) (i : ℕ) → length xs ≤ i → slice_index xs i ≡ 0
beyond [] i high = refl
beyond (x ∷ xs) zero high = absurd (omega (arith, high))
beyond (x ∷ xs) (suc i) high = beyond xs i (omega (arith, high))

-- ---- Words of functions

layouts_of : (h : HomedForm) (s : StaticForm) (f : ℕ) (graphs : List Graph) (all : List LaidForm) → AreLaid h s f graphs all → AreLayouts h.unit.room all
layouts_of h s f [] [] laid = tt
layouts_of h s f [] (l ∷ more) laid = absurd laid
layouts_of h s f (g ∷ graphs) [] laid = absurd laid
layouts_of h s f (g ∷ graphs) (l ∷ more) laid = (laid.0.layout, layouts_of h s (counted (f + 1)) graphs more laid.1)

-- A word behind so many is one of a function.
record IsCovered (n : ℕ) (all : List LaidForm) (i : ℕ) : Type 0 where
  pub number : ℕ
  pub laid : LaidForm
  pub is : slice_get all number ≡ Some laid
  pub low : slice_index (firsts_from n all) number ≤ i
  pub high : i < slice_index (firsts_from n all) number + laid.layout.words

covered : (room : Room) (firsts : List ℕ) (all : List LaidForm) (f n i : ℕ) → n + length (words_of_all firsts f all) ≤ most_pieces → AreLayouts room all → n ≤ i → i < n + length (words_of_all firsts f all) → IsCovered n all i
covered room firsts [] f n i few layouts low high = absurd (omega (arith, low, high))
covered room firsts (x ∷ more) f n i few layouts low high =
    let words = function_words x.sequence x.layout (slice_index firsts f) firsts in
    let sum = length-append words (words_of_all firsts (counted (f + 1)) more) in
    let short : length x.sequence.pieces ≤ length words = pieces_few (lying x.sequence x.layout (slice_index firsts f) firsts) x.layout.reaches 0 x.sequence.pieces in
    let pieces : length x.sequence.pieces ≤ most_pieces = omega (arith, short, sum, few) in
    let size : length words ≡ words_before x.layout.reaches x.sequence.pieces (length x.sequence.pieces) = function_count x.sequence x.layout (slice_index firsts f) firsts pieces in
    let own : x.layout.words ≡ words_before x.layout.reaches x.sequence.pieces (length x.sequence.pieces) = (layouts.0 pieces).words in
    let next : counted (n + x.layout.words) ≡ n + x.layout.words = omega (arith, size, own, sum, few) in
    elim (cases_lt i (n + x.layout.words)) [
      | inl here ↦ record { number = 0; laid = x; is = refl; low = low; high = here }
      | inr later ↦ further (covered room firsts more (counted (f + 1)) (counted (n + x.layout.words)) i (omega (arith, next, size, own, sum, few)) layouts.1 (omega (arith, next, later)) (omega (arith, next, size, own, sum, high)))
    ]
  where
    further : IsCovered (counted (n + x.layout.words)) more i → IsCovered n (x ∷ more) i
    further c = record { number = suc c.number; laid = c.laid; is = c.is; low = c.low; high = c.high }

-- ---- All of it

module _ (h : HomedForm) (valid : IsValid h.unit) (e : EmittedForm) (emitted : IsEmittedOf h e) (short : length e.code ≤ most_words e.map) where
  few : length h.unit.graphs ≤ 4294967295
  few = let functions : length h.unit.graphs ≤ 256 = valid.functions in omega (arith, functions)

  abbrev all : List LaidForm
  all = emitted.coded.all

  abbrev firsts : List ℕ
  firsts = emitted.coded.firsts

  -- how many words stand before all functions
  abbrev before_all : ℕ
  before_all = stub_words (map_of_unit h.unit)

  has : HasCode h.unit.room (program_of e short) e.owners emitted.coded
  has = record { reach = emitted_in_reach h e emitted; words = emitted.words; own = emitted.owners; stops = ap (λ l. map (λ (x : PlacedStop). x.address) l) emitted.stops }

  count : length all ≡ length h.unit.graphs
  count = laid_count h emitted.statics 0 h.unit.graphs all emitted.code.laid

  code_count : length e.code ≡ length emitted.coded.words
  code_count = ap (λ (l : List ℕ). length l) emitted.words ∙ length-map emitted.coded.words (λ (w : OwnedWord). w.word)

  -- The code of a function, and what is told of it.
  record IsToldAt (f : ℕ) (c : FunctionCode) : Type 0 where
    pub laid : LaidForm
    pub there_is : slice_get all f ≡ Some laid
    pub told : told_by (slice_index firsts f) (parameters_in h.unit.graphs f) laid ≡ c
    pub fit : Fits h.unit.room e.map laid (slice_index firsts f)

  told_at : (f : ℕ) (c : FunctionCode) → slice_get e.functions f ≡ Some c → IsToldAt f c
  told_at f c is =
      let low = slice_get_within e.functions f c is in
      let many : length e.functions ≡ length all = ap (λ (l : List FunctionCode). length l) emitted.functions ∙ told_count h.unit.graphs firsts 0 all in
      let l = there all f (omega (arith, low, many)) in
      let here : 0 + f ≡ f = omega arith in
      record {
        laid = l.0;
        there_is = l.1;
        told = same_Some (told_by (slice_index firsts f) (parameters_in h.unit.graphs f) l.0) c
            (sym (ap (λ l. slice_get l f) emitted.functions ∙ told_there h.unit.graphs firsts all 0 f l.0 (omega (arith, few, count)) l.1 ∙ ap (λ j. Some (told_by (slice_index firsts j) (parameters_in h.unit.graphs j) l.0)) here) ∙ is);
        fit = fits h emitted.statics emitted.coded emitted.code (program_of e short) e.owners has few f l.0 l.1;
      }

  first_is : (f : ℕ) (c : FunctionCode) → (t : IsToldAt f c) → c.first ≡ address_of_word (slice_index firsts f)
  first_is f c t =
      let low = t.fit.low in
      let most = (map_facts e.map).few in
      sym (ap (λ (x : FunctionCode). x.first) t.told) ∙ word_at (slice_index firsts f) (omega (arith, low, most))

  end_is : (f : ℕ) (c : FunctionCode) → (t : IsToldAt f c) → c.end ≡ address_of_word (slice_index firsts f + t.laid.layout.words)
  end_is f c t =
      let low = t.fit.low in
      let words = t.fit.layout.words in
      let most = (map_facts e.map).few in
      let next : counted (slice_index firsts f + t.laid.layout.words) ≡ slice_index firsts f + t.laid.layout.words = omega (arith, low, words, most) in
      sym (ap (λ (x : FunctionCode). x.end) t.told) ∙ ap word_address next ∙ word_at (slice_index firsts f + t.laid.layout.words) (omega (arith, low, words, most))

  words_of : (f : ℕ) (l : LaidForm) → slice_get all f ≡ Some l → FunctionIn h.unit.room emitted.coded.words firsts f l
  words_of f l is = found h emitted.statics emitted.coded emitted.code (program_of e short) e.owners has few f l is

  -- how a function's pieces begin
  begun : (f : ℕ) (g : Graph) (l : LaidForm) → slice_get h.unit.graphs f ≡ Some g → slice_get all f ≡ Some l → BeginsWith g.entry l.sequence.pieces
  begun f g l is at = by_laid (laid_at h emitted.statics 0 h.unit.graphs all (omega (arith, few)) emitted.code.laid f g is)
    where
      by_laid : LaidAt h emitted.statics all 0 f g → BeginsWith g.entry l.sequence.pieces
      by_laid laid =
          let same : laid.laid ≡ l = same_Some laid.laid l (sym laid.there ∙ at) in
          let blocks : length g.blocks ≤ 120000 = blocks_few h.unit valid f g is in
          let ground = ground_for emitted.statics g (homes_in h (0 + f)) laid.laid in
          let sequence : IsSequenceOf ground g (0 + f == h.unit.main) laid.laid.sequence = laid.is.sequence (omega (arith, blocks)) in
          subst (λ (x : LaidForm). BeginsWith g.entry x.sequence.pieces) same
          (subst (BeginsWith g.entry) (sym sequence.pieces)
          (begins_more g.entry (first_pieces ground g (0 + f == h.unit.main) ++ all_pieces ground laid.laid.sequence.numbers sequence.standing) (last_pieces ground)
          (begins_with g.entry (first_pieces ground g (0 + f == h.unit.main)) (all_pieces ground laid.laid.sequence.numbers sequence.standing) (some_first ground g (0 + f == h.unit.main))
          (first_owned (λ o. o ≡ g.entry) ground g (0 + f == h.unit.main) refl))))

  graph_there : (f : ℕ) (l : LaidForm) → slice_get all f ≡ Some l → (g : Graph) × (slice_get h.unit.graphs f ≡ Some g)
  graph_there f l is = let low = slice_get_within all f l is in there h.unit.graphs f (omega (arith, low, count))

  -- each has words
  some_words : (f : ℕ) (l : LaidForm) → slice_get all f ≡ Some l → 1 ≤ l.layout.words
  some_words f l is =
      let g = graph_there f l is in
      let begin = begun f g.0 l g.1 is in
      let one = words_of f l is in
      let words = one.layout.words in
      let size = function_count l.sequence l.layout (slice_index firsts f) firsts one.few in
      let many = pieces_few (lying l.sequence l.layout (slice_index firsts f) firsts) l.layout.reaches 0 l.sequence.pieces in
      let some : 1 ≤ length l.sequence.pieces = (let e = ap (λ (x : List PlacedPiece). length x) begin.is in omega (arith, e)) in
      omega (arith, words, size, many, some)

  lies : (f : ℕ) (c : FunctionCode) → slice_get e.functions f ≡ Some c → IsLying e c
  lies f c is =
      let t = told_at f c is in
      let some = some_words f t.laid t.there_is in
      let one = words_of f t.laid t.there_is in
      let words = function_words t.laid.sequence t.laid.layout (slice_index firsts f) firsts in
      let size = function_count t.laid.sequence t.laid.layout (slice_index firsts f) firsts one.few in
      let own = one.layout.words in
      let all_is = ap (λ (w : List OwnedWord). length w) one.words ∙ length-append one.before (words ++ one.behind) in
      let inner = length-append words one.behind in
      let begin = one.begin in
      record {
        from = slice_index firsts f;
        behind = slice_index firsts f + t.laid.layout.words;
        begins = first_is f c t;
        ends = end_is f c t;
        some = omega (arith, some);
        within = omega (arith, code_count, all_is, inner, begin, size, own);
      }

  in_order : (f g : ℕ) (c d : FunctionCode) → f < g → slice_get e.functions f ≡ Some c → slice_get e.functions g ≡ Some d → c.end ≤ d.first
  in_order f g c d lt is at =
      let t = told_at f c is in
      let u = told_at g d at in
      let apart = (together h emitted.statics emitted.coded emitted.code (program_of e short) e.owners has few).apart f g t.laid u.laid lt t.there_is u.there_is in
      let words = t.fit.layout.words in
      let end = end_is f c t in
      let first = first_is g d u in
      omega (arith, apart, words, end, first)

  entry_owned : (f i : ℕ) (g : Graph) (c : FunctionCode) → slice_get h.unit.graphs f ≡ Some g → slice_get e.functions f ≡ Some c → c.first ≡ address_of_word i → slice_index e.owners i ≡ g.entry
  entry_owned f i g c is at begins =
      let t = told_at f c at in
      let one = words_of f t.laid t.there_is in
      let first = first_is f c t in
      let begin = one.begin in
      let here : i ≡ length one.before = omega (arith, first, begins, begin) in
      let words = function_words t.laid.sequence t.laid.layout (slice_index firsts f) firsts in
      ap (slice_index e.owners) here ∙ ap (λ l. slice_index l (length one.before)) (emitted.owners ∙ ap (map owner_of) one.words) ∙ behind_these one.before (words ++ one.behind)
      ∙ front_owner (lying t.laid.sequence t.laid.layout (slice_index firsts f) firsts) t.laid.layout.reaches g.entry t.laid.sequence.pieces one.behind (begun f g t.laid is t.there_is)

  is_covered : (i : ℕ) → slice_index e.owners i ≢ 0 → IsCovered before_all all i
  is_covered i some =
      let front = function_words (stub_of h.unit) (layout_of_stub h.unit) 0 firsts in
      let rest = words_of_all firsts 0 all in
      let owners : e.owners ≡ map owner_of (front ++ rest) = emitted.owners ∙ ap (map owner_of) emitted.code.words in
      let stub = stub_count h.unit firsts in
      let sum = length-append front rest in
      let words : length emitted.coded.words ≡ length (front ++ rest) = ap (λ (w : List OwnedWord). length w) emitted.code.words in
      let many : length (map owner_of (front ++ rest)) ≡ length (front ++ rest) = length-map (front ++ rest) owner_of in
      let few_words = code_few e.map (length e.code) short in
      elim (cases_lt i before_all) [
        | inl low ↦ absurd (some (ap (λ l. slice_index l i) owners ∙ stub_owned h.unit firsts rest i low))
        | inr high ↦ elim (cases_lt i (length (front ++ rest))) [
          | inl within ↦ covered h.unit.room firsts all 0 before_all i (omega (arith, few_words, code_count, words, sum, stub)) (layouts_of h emitted.statics 0 h.unit.graphs all emitted.code.laid) high (omega (arith, within, sum, stub))
          | inr out ↦ absurd (some (ap (λ l. slice_index l i) owners ∙ beyond (map owner_of (front ++ rest)) i (omega (arith, out, many))))
        ]
      ]

  word_of : (i : ℕ) → slice_index e.owners i ≢ 0 → IsWordOf e i
  word_of i some = by_covered (is_covered i some)
    where
      by_covered : IsCovered before_all all i → IsWordOf e i
      by_covered c =
          let here : 0 + c.number ≡ c.number = omega arith in
          let code = told_by (slice_index firsts c.number) (parameters_in h.unit.graphs c.number) c.laid in
          let is : slice_get e.functions c.number ≡ Some code =
          ap (λ l. slice_get l c.number) emitted.functions ∙ told_there h.unit.graphs firsts all 0 c.number c.laid (omega (arith, few, count)) c.is ∙ ap (λ j. Some (told_by (slice_index firsts j) (parameters_in h.unit.graphs j) c.laid)) here in
          let t : IsToldAt c.number code = record { laid = c.laid; there_is = c.is; told = refl; fit = fits h emitted.statics emitted.coded emitted.code (program_of e short) e.owners has few c.number c.laid c.is } in
          let begins : slice_index firsts c.number ≡ slice_index (firsts_from before_all all) c.number = ap (λ l. slice_index l c.number) (emitted.code.firsts ∙ ap (λ n. firsts_from n all) (stub_begin h.unit)) in
          let first = first_is c.number code t in
          let end = end_is c.number code t in
          let low = c.low in
          let high = c.high in
          record { function = c.number; code = code; is = is; low = omega (arith, first, begins, low); high = omega (arith, end, begins, high) }

  -- WHAT IS EMITTED LIES IN ORDER.
  pub lie_in_order : LieInOrder h.unit e
  lie_in_order = record { lying = lies; order = in_order; entries = entry_owned; outside = word_of }
