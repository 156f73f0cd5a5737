-- The code of each function of a unit stands in the code of the machine.
use Rattle.std.proofs.Common.{◌≡◌, ℕ, zero, suc, ◌+◌, ◌<◌, ◌≤◌, ◌==◌, Some, List, [], ◌∷◌, ◌++◌, length, map, slice_get, slice_index, refl, sym, ap, ◌∙◌, subst, arith}
use Rattle.std.proofs.lemmas.List.{length-append, length-map}
use Rattle.memory_map.specs.declared.map.Room.{Room}
use Rattle.memory_map.specs.declared.map.Room.TheVariants.{Small}
use Rattle.memory_map.specs.Maps.{most_words, stub_words}
use Rattle.memory_map.proofs.Facts.{map_facts}
use Rattle.rv_emit_layout.proofs.Bound.{code_has_room}
use Rattle.rv_emit_runs.proofs.Maps.{jump_reach}
use Rattle.graph_core.specs.Graphs.{Graph, UnitForm}
use Rattle.graph_homes.specs.Homed.{HomedForm, homes_in}
use Rattle.rv_emit_storage.specs.UnitMaps.{map_of_unit}
use Rattle.rv_emit_tables.specs.declared.emitted.PlacedStop.{PlacedStop}
use Rattle.rv_emit_steps.specs.Programs.{Program}
use Rattle.rv_emit_sequence.specs.Sequences.{counted, IsSequenceOf}
use Rattle.rv_emit_layout.specs.declared.layout.OwnedWord.{OwnedWord}
use Rattle.rv_emit_layout.specs.Layouts.{function_words, lying, words_before, most_pieces}
use Rattle.rv_emit_layout.specs.Laid.{CodedForm, LaidForm, StaticForm, firsts_from, ground_for, layout_of_stub, pieces_in, stops_of_all, stub_of, words_of_all, AreCallsNear, AreLaid, IsCodeOf, IsDrawnOf}
use Rattle.rv_emit_runs.specs.Placing.{IsFunctionPlaced}
use Rattle.rv_emit_runs.specs.EmitPlacedStanding.{AreSpelled, HasStops, targets_of}
use Rattle.rv_emit_runs.proofs.Functions.{AreLayouts, FunctionIn, function_count, function_in, pieces_few}
use Rattle.rv_emit_runs.proofs.Pieces.{FunctionThere}
use Rattle.rv_emit_runs.proofs.Placing.{function_placed}
use Rattle.rv_emit_runs.proofs.Stub.{stub_begin, stub_count, stub_few}
use Rattle.rv_emit_runs.proofs.UnitStops.{FitTogether, Fits, has_stops}
use Rattle.rv_emit_runs.proofs.Unflagged.{stops_in_blocks}

-- ---- Functions in order

layouts_of : (h : HomedForm) (s : StaticForm) (f : ℕ) (graphs : List Graph) (all : List LaidForm) → AreLaid h s f graphs all → AreLayouts h.unit.room all
layouts_of h s f [] [] laid = tt
layouts_of h s f [] (l ∷ more) laid = absurd laid
layouts_of h s f (g ∷ graphs) [] laid = absurd laid
layouts_of h s f (g ∷ graphs) (l ∷ more) laid = (laid.0.layout, layouts_of h s (counted (f + 1)) graphs more laid.1)

pub laid_count : (h : HomedForm) (s : StaticForm) (f : ℕ) (graphs : List Graph) (all : List LaidForm) → AreLaid h s f graphs all → length all ≡ length graphs
laid_count h s f [] [] laid = refl
laid_count h s f [] (l ∷ more) laid = absurd laid
laid_count h s f (g ∷ graphs) [] laid = absurd laid
laid_count h s f (g ∷ graphs) (l ∷ more) laid = omega (arith, laid_count h s (counted (f + 1)) graphs more laid.1)

-- The code of a function of a unit, and its graph.
pub record LaidAt (h : HomedForm) (s : StaticForm) (all : List LaidForm) (f k : ℕ) (g : Graph) : Type 0 where
  pub laid : LaidForm
  pub there : slice_get all k ≡ Some laid
  pub is : IsDrawnOf s g (homes_in h (f + k)) (f + k == h.unit.main) laid

pub laid_at : (h : HomedForm) (s : StaticForm) (f : ℕ) (graphs : List Graph) (all : List LaidForm) → f + length graphs ≤ 4294967295 → AreLaid h s f graphs all → (k : ℕ) (g : Graph) → slice_get graphs k ≡ Some g → LaidAt h s all f k g
laid_at h s f [] all few laid k g e = cc
laid_at h s f (x ∷ graphs) [] few laid k g e = absurd laid
laid_at h s f (x ∷ graphs) (l ∷ more) few laid zero g e =
    let same : x ≡ g = cc in
    let here : f ≡ f + 0 = omega arith in
    record { laid = l; there = refl; is = subst (λ j. IsDrawnOf s g (homes_in h j) (j == h.unit.main) l) here (subst (λ q. IsDrawnOf s q (homes_in h f) (f == h.unit.main) l) same laid.0.drawn) }
laid_at h s f (x ∷ graphs) (l ∷ more) few laid (suc k) g e =
    let next : counted (f + 1) ≡ f + 1 = omega (arith, few) in
    let index : counted (f + 1) + k ≡ f + suc k = omega (arith, next) in
    let later : LaidAt h s more (counted (f + 1)) k g = laid_at h s (counted (f + 1)) graphs more (omega (arith, few, next)) laid.1 k g e in
    record { laid = later.laid; there = later.there; is = subst (λ j. IsDrawnOf s g (homes_in h j) (j == h.unit.main) later.laid) index later.is }

-- ---- Where they begin

-- None begins before the first one.
pub firsts_grow : (all : List LaidForm) (n k : ℕ) (m : LaidForm) → ((i : ℕ) (q : LaidForm) → slice_get all i ≡ Some q → slice_index (firsts_from n all) i + q.layout.words ≤ 4294967295) → slice_get all k ≡ Some m → n ≤ slice_index (firsts_from n all) k
firsts_grow [] n k m fits e = cc
firsts_grow (x ∷ more) n zero m fits e = omega arith
firsts_grow (x ∷ more) n (suc k) m fits e =
    let fit : n + x.layout.words ≤ 4294967295 = fits 0 x refl in
    let next : counted (n + x.layout.words) ≡ n + x.layout.words = omega (arith, fit) in
    let later : counted (n + x.layout.words) ≤ slice_index (firsts_from (counted (n + x.layout.words)) more) k = firsts_grow more (counted (n + x.layout.words)) k m (λ i q e. fits (suc i) q e) e in
    omega (arith, next, later)

-- All begin within the code.
pub firsts_low : (most : ℕ) (all : List LaidForm) (n k : ℕ) → n ≤ most → ((i : ℕ) (q : LaidForm) → slice_get all i ≡ Some q → slice_index (firsts_from n all) i + q.layout.words ≤ most) → slice_index (firsts_from n all) k ≤ most
firsts_low most [] n zero low fits = low
firsts_low most [] n (suc k) low fits = omega arith
firsts_low most (x ∷ more) n zero low fits = low
firsts_low most (x ∷ more) n (suc k) low fits =
    let fit : n + x.layout.words ≤ most = fits 0 x refl in
    firsts_low most more (counted (n + x.layout.words)) k (omega (arith, fit)) (λ i q e. fits (suc i) q e)

-- The words of functions before others are as many as stand before these.
firsts_apart : (all : List LaidForm) (n : ℕ) → ((k : ℕ) (l : LaidForm) → slice_get all k ≡ Some l → slice_index (firsts_from n all) k + l.layout.words ≤ 4294967295) → (j k : ℕ) (l m : LaidForm) → j < k → slice_get all j ≡ Some l → slice_get all k ≡ Some m
    → slice_index (firsts_from n all) j + l.layout.words ≤ slice_index (firsts_from n all) k
firsts_apart [] n fits j k l m lt a b = cc
firsts_apart (x ∷ more) n fits j zero l m lt a b = absurd (omega (arith, lt))
firsts_apart (x ∷ more) n fits zero (suc k) l m lt a b =
    let same : x ≡ l = cc in
    let fit : n + x.layout.words ≤ 4294967295 = fits 0 x refl in
    let next : counted (n + x.layout.words) ≡ n + x.layout.words = omega (arith, fit) in
    let words : x.layout.words ≡ l.layout.words = ap (λ (q : LaidForm). q.layout.words) same in
    let grows : counted (n + x.layout.words) ≤ slice_index (firsts_from (counted (n + x.layout.words)) more) k = firsts_grow more (counted (n + x.layout.words)) k m (λ i q e. fits (suc i) q e) b in
    omega (arith, next, words, grows)
firsts_apart (x ∷ more) n fits (suc j) (suc k) l m lt a b = firsts_apart more (counted (n + x.layout.words)) (λ i q e. fits (suc i) q e) j k l m (omega (arith, lt)) a b

-- ---- All functions

-- Functions have no more pieces than words.
all_pieces_few : (firsts : List ℕ) (f : ℕ) (all : List LaidForm) → pieces_in all ≤ length (words_of_all firsts f all)
all_pieces_few firsts f [] = omega arith
all_pieces_few firsts f (l ∷ more) =
    let some : length l.sequence.pieces ≤ length (function_words l.sequence l.layout (slice_index firsts f) firsts) = pieces_few (lying l.sequence l.layout (slice_index firsts f) firsts) l.layout.reaches 0 l.sequence.pieces in
    let later : pieces_in more ≤ length (words_of_all firsts (counted (f + 1)) more) = all_pieces_few firsts (counted (f + 1)) more in
    let both = length-append (function_words l.sequence l.layout (slice_index firsts f) firsts) (words_of_all firsts (counted (f + 1)) more) in
    omega (arith, some, later, both)

-- A program has the words of code, and its stops. In the smaller room a jump leads from anywhere in it to anywhere in it.
pub record HasCode (room : Room) (p : Program) (owners : List ℕ) (c : CodedForm) : Type 0 where
  pub reach : room ≡ Small → most_words p.map ≤ jump_reach
  pub words : p.words ≡ map (λ (w : OwnedWord). w.word) c.words
  pub own : owners ≡ map (λ (w : OwnedWord). w.owner) c.words
  pub stops : p.stops ≡ map (λ (s : PlacedStop). s.address) (stops_of_all c.firsts 0 c.all)

-- A function has so few blocks that 32 bits can count them, and words can spell its pieces.
pub record CanStand (h : HomedForm) (s : StaticForm) (f : ℕ) (g : Graph) : Type 0 where
  pub few : length g.blocks < 4294967295
  pub spelled : (l : LaidForm) → IsDrawnOf s g (homes_in h f) (f == h.unit.main) l → AreSpelled l.sequence.pieces

-- The code of a function stands where it begins.
pub record Placed (h : HomedForm) (s : StaticForm) (p : Program) (owners : List ℕ) (c : CodedForm) (f : ℕ) (g : Graph) : Type 0 where
  pub laid : LaidForm
  pub there : slice_get c.all f ≡ Some laid
  pub is : IsDrawnOf s g (homes_in h f) (f == h.unit.main) laid
  pub code : FunctionThere p owners laid.sequence laid.layout (slice_index c.firsts f) c.firsts
  pub placed : IsFunctionPlaced p (targets_of owners laid.sequence laid.layout (slice_index c.firsts f) c.firsts) (ground_for s g (homes_in h f) laid) g (f == h.unit.main) (λ n. slice_index c.firsts f + words_before laid.layout.reaches laid.sequence.pieces (slice_index laid.sequence.ends n)) (slice_index c.firsts f) (slice_index c.firsts f + words_before laid.layout.reaches laid.sequence.pieces (length laid.sequence.pieces))

module _ (h : HomedForm) (s : StaticForm) (c : CodedForm) (code : IsCodeOf h s c) (p : Program) (owners : List ℕ) (has : HasCode h.unit.room p owners c) (few : length h.unit.graphs ≤ 4294967295) where
  abbrev begin : ℕ
  begin = stub_words (map_of_unit h.unit)

  abbrev front : List OwnedWord
  front = function_words (stub_of h.unit) (layout_of_stub h.unit) 0 c.firsts

  short : length c.words ≤ most_words p.map
  short = let e : length p.words ≡ length c.words = ap (λ (l : List ℕ). length l) has.words ∙ length-map c.words (λ (w : OwnedWord). w.word) in let low = p.short in omega (arith, e, low)

  count : length c.all ≡ length h.unit.graphs
  count = laid_count h s 0 h.unit.graphs c.all code.laid

  agrees : (k : ℕ) → slice_index c.firsts (0 + k) ≡ slice_index (firsts_from begin c.all) k
  agrees k = (let e : 0 + k ≡ k = omega arith in ap (λ j. slice_index c.firsts j) e) ∙ ap (λ (l : List ℕ). slice_index l k) (code.firsts ∙ ap (λ n. firsts_from n c.all) (stub_begin h.unit))

  -- The words of each function stand in the code.
  pub found : (k : ℕ) (l : LaidForm) → slice_get c.all k ≡ Some l → FunctionIn h.unit.room c.words c.firsts k l
  found k l e =
      let here : 0 + k ≡ k = omega arith in
      subst (λ j. FunctionIn h.unit.room c.words c.firsts j l) here
      (subst (λ w. FunctionIn h.unit.room w c.firsts (0 + k) l) (sym code.words)
      (function_in h.unit.room c.firsts c.all 0 begin front (stub_count h.unit c.firsts) (omega (arith, count, few)) agrees (subst (λ w. length w ≤ most_pieces) code.words (omega (arith, short, (map_facts p.map).few))) (layouts_of h s 0 h.unit.graphs c.all code.laid) k l e))

  -- Their calls reach.
  pub calls : (k : ℕ) (l : LaidForm) → slice_get c.all k ≡ Some l → AreCallsNear h.unit.room c.firsts (slice_index c.firsts k) l
  calls =
      let some : pieces_in c.all ≤ length (words_of_all c.firsts 0 c.all) = all_pieces_few c.firsts 0 c.all in
      let all = ap (λ (w : List OwnedWord). length w) code.words ∙ length-append front (words_of_all c.firsts 0 c.all) in
      code.calls (omega (arith, some, all, short, (map_facts p.map).few))

  -- They fit in it.
  pub fits : (k : ℕ) (l : LaidForm) → slice_get c.all k ≡ Some l → Fits h.unit.room p.map l (slice_index c.firsts k)
  fits k l e =
      let at : FunctionIn h.unit.room c.words c.firsts k l = found k l e in
      let size : length (function_words l.sequence l.layout (slice_index c.firsts k) c.firsts) ≡ words_before l.layout.reaches l.sequence.pieces (length l.sequence.pieces) = function_count l.sequence l.layout (slice_index c.firsts k) c.firsts at.few in
      let all = ap (λ (w : List OwnedWord). length w) at.words ∙ length-append at.before (function_words l.sequence l.layout (slice_index c.firsts k) c.firsts ++ at.behind) in
      let inner = length-append (function_words l.sequence l.layout (slice_index c.firsts k) c.firsts) at.behind in
      let begin = at.begin in
      record { layout = at.layout; low = omega (arith, size, all, inner, begin, short) }

  ends_low : (k : ℕ) (l : LaidForm) → slice_get c.all k ≡ Some l → slice_index (firsts_from begin c.all) k + l.layout.words ≤ most_words p.map
  ends_low k l e =
      let fit : Fits h.unit.room p.map l (slice_index c.firsts k) = fits k l e in
      let low = fit.low in
      let words = fit.layout.words in
      let is : slice_index c.firsts k ≡ slice_index (firsts_from begin c.all) k = (let z : k ≡ 0 + k = omega arith in ap (λ j. slice_index c.firsts j) z ∙ agrees k) in
      omega (arith, low, words, is)

  firsts_is : (k : ℕ) → slice_index c.firsts k ≡ slice_index (firsts_from begin c.all) k
  firsts_is k = let z : k ≡ 0 + k = omega arith in ap (λ j. slice_index c.firsts j) z ∙ agrees k

  pub together : FitTogether h.unit.room p.map c.all c.firsts
  together = record {
    few = omega (arith, count, few);
    fits = fits;
    apart = λ j k l m lt a b.
        let words = (fits j l a).layout.words in
        let one = firsts_is j in
        let two = firsts_is k in
        let gap = firsts_apart c.all begin (λ i q e. let low = ends_low i q e in omega (arith, low, (map_facts p.map).few)) j k l m lt a b in
        omega (arith, words, one, two, gap);
  }

  -- Each function stands in the code.
  pub unit_placed : (f : ℕ) (g : Graph) → CanStand h s f g → slice_get h.unit.graphs f ≡ Some g → Placed h s p owners c f g
  unit_placed f g can e = placed f g can (laid_at h s 0 h.unit.graphs c.all (omega (arith, few)) code.laid f g e)
    where
      placed : (f : ℕ) (g : Graph) → CanStand h s f g → LaidAt h s c.all 0 f g → Placed h s p owners c f g
      placed f g can laid =
          let here : 0 + f ≡ f = omega arith in
          let is : IsDrawnOf s g (homes_in h f) (f == h.unit.main) laid.laid = subst (λ j. IsDrawnOf s g (homes_in h j) (j == h.unit.main) laid.laid) here laid.is in
          let blocks : length g.blocks < 4294967295 = can.few in
          let sequence : IsSequenceOf (ground_for s g (homes_in h f) laid.laid) g (f == h.unit.main) laid.laid.sequence = is.sequence blocks in
          let at : FunctionIn h.unit.room c.words c.firsts f laid.laid = found f laid.laid laid.there in
          let fit : Fits h.unit.room p.map laid.laid (slice_index c.firsts f) = fits f laid.laid laid.there in
          let first : begin ≤ slice_index c.firsts f = (let grows = firsts_grow c.all begin f laid.laid (λ i q e. let low = ends_low i q e in omega (arith, low, (map_facts p.map).few)) laid.there in let one = firsts_is f in omega (arith, grows, one)) in
          let ends : length laid.laid.sequence.ends ≡ length g.blocks = sequence.end_count in
          let stops : HasStops p.stops laid.laid.sequence laid.laid.layout (slice_index c.firsts f) =
          subst (λ q. HasStops q laid.laid.sequence laid.laid.layout (slice_index c.firsts f)) (sym has.stops)
          (has_stops h.unit.room p.map c.all c.firsts together f laid.laid laid.there (stops_in_blocks (ground_for s g (homes_in h f) laid.laid) g (f == h.unit.main) laid.laid.sequence sequence at.few) (omega (arith, ends, blocks))) in
          let there : FunctionThere p owners laid.laid.sequence laid.laid.layout (slice_index c.firsts f) c.firsts = record {
            room = h.unit.room;
            layout = fit.layout;
            calls = calls f laid.laid laid.there;
            few = at.few;
            stands = record {
              before = at.before;
              behind = at.behind;
              words = has.words ∙ ap (λ ws. map (λ (w : OwnedWord). w.word) ws) at.words;
              owners = has.own ∙ ap (λ ws. map (λ (w : OwnedWord). w.owner) ws) at.words;
              begin = at.begin;
              low = fit.low;
              functions = λ k. let one = firsts_is k in let low = firsts_low (most_words p.map) c.all begin k (omega (arith, code_has_room p.map, stub_few (map_of_unit h.unit))) ends_low in omega (arith, one, low);
            };
            stops = stops;
            forms = can.spelled laid.laid is;
            reach = has.reach;
            inside = λ k x at goes. omega (arith, first, (map_facts (map_of_unit h.unit)).stub);
          } in
          record {
            laid = laid.laid;
            there = laid.there;
            is = is;
            code = there;
            placed = function_placed p owners laid.laid.sequence laid.laid.layout (slice_index c.firsts f) c.firsts there (ground_for s g (homes_in h f) laid.laid) g (f == h.unit.main) sequence (omega (arith, blocks));
          }
