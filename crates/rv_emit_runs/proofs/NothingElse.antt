-- No other word of a place writes a home of its function.
use Rattle.std.proofs.Common.{◌≡◌, ◌≢◌, ℕ, zero, suc, ◌+◌, ◌*◌, ◌<◌, ◌≤◌, ◌==◌, Option, Some, None, List, [], ◌∷◌, ◌++◌, length, map, slice_get, slice_index, refl, sym, ap, ◌∙◌, subst, arith, append-nil}
use Rattle.std.specs.List.{AllByRecursion}
use Rattle.std.specs.Option.{option_map_or}
use Rattle.std.proofs.lemmas.Option.{same_Some, slice_get_within}
use Rattle.memory_map.specs.Maps.{most_words}
use Rattle.memory_map.proofs.Facts.{map_facts}
use Rattle.rv_emit_runs.proofs.Maps.{emitted_in_reach}
use Rattle.graph_core.specs.declared.graph.MemoryObject.{MemoryObject}
use Rattle.graph_core.specs.Graphs.{Graph}
use Rattle.graph_core.specs.Validity.{IsValid, place_behind}
use Rattle.graph_homes.specs.declared.home.Home.{Home}
use Rattle.graph_homes.specs.declared.home.Home.TheVariants.{Register, Slot}
use Rattle.graph_homes.specs.Homed.{HomedForm, HaveHomes, homes_in, home_of, IsHomeAmong}
use Rattle.rv_emit_tables.specs.declared.emitted.PlacedStop.{PlacedStop}
use Rattle.rv_emit_tables.specs.Emitted.{EmittedForm, FunctionCode}
use Rattle.rv_emit_storage.specs.Kept.{home_in}
use Rattle.rv_emit_storage.specs.Storages.{StorageForm, home_at}
use Rattle.rv_emit_steps.specs.Programs.{Program, address_of}
use Rattle.rv_emit_runs.specs.Placed.{PlacedAt}
use Rattle.rv_emit_runs.specs.Waiting.{IsFunctionCode}
use Rattle.rv_emit_sequence.specs.Sequences.{Ground, IsSequenceOf, counted}
use Rattle.rv_emit_layout.specs.Layouts.{words_before}
use Rattle.rv_emit_runs.specs.Laid.{Arrangement, code_of, graph_at, program_of, IsInWords}
use Rattle.rv_emit_runs.proofs.Frames.{all_codes, graph_is, graph_there, graph_valid, laid_out}
use Rattle.rv_emit_runs.proofs.Lists.{all_at}
use Rattle.rv_emit_layout.specs.Laid.{LaidForm, ground_for, parameters_in, told_by, IsEmittedOf}
use Rattle.rv_emit_runs.specs.EmitPlacedStanding.{targets_of}
use Rattle.rv_emit_runs.specs.Writing.{MayWrite, WritesIn, WritesNothingElse, instruction, binding}
use Rattle.rv_emit_runs.proofs.Forms.{perhaps}
use Rattle.rv_emit_runs.proofs.Grounds.{blocks_few, can_stand, ground_at, ground_is, homes_among}
use Rattle.rv_emit_runs.proofs.Pieces.{none_before, part_there}
use Rattle.rv_emit_runs.proofs.SparingCode.{AllSpare}
use Rattle.rv_emit_runs.proofs.SparingOperations.{IsRightHome, IsRightStorage}
use Rattle.rv_emit_runs.proofs.SparingParts.{MayWriteAll, sequence_spares}
use Rattle.rv_emit_runs.proofs.Told.{told_there}
use Rattle.rv_emit_runs.proofs.UnitCode.{arranged}
use Rattle.rv_emit_runs.proofs.UnitPlaced.{HasCode, Placed, fits, laid_count, unit_placed}
use Rattle.rv_emit_runs.proofs.UnitStops.{Fits}
use Rattle.rv_emit_runs.proofs.Walking.{words_allowed}
use Rattle.rv_emit_runs.proofs.Writers.{place_or_none}

among_right : (n : ℕ) (home : Home) → IsHomeAmong n home → IsRightHome home
among_right n (Register r) is = is
among_right n (Slot k) is = tt

homes_right : (n : ℕ) (homes : List Home) → AllByRecursion (IsHomeAmong n) homes → (x : ℕ) → IsRightHome (home_in homes x)
homes_right n homes all x = perhaps IsRightHome (λ home. home) (slice_get homes x) (Slot 0) (λ home at. among_right n home (all_at (IsHomeAmong n) homes x home all at)) tt

all_homes_right : (h : HomedForm) → HaveHomes h → (f x : ℕ) → IsRightHome (home_in (homes_in h f) x)
all_homes_right h homed f =
    perhaps (λ (homes : List Home). (x : ℕ) → IsRightHome (home_in homes x)) (λ homes. homes) (slice_get h.homes f) []
    (λ homes at. let found = homes_among h.unit.graphs h.homes homed f homes at in homes_right found.0 homes found.1) (homes_right 0 [] tt)

placed_some : (o : Option ℕ) → place_or_none o ≢ 0 → o ≡ Some (place_or_none o)
placed_some None other = absurd (other refl)
placed_some (Some p) other = refl

module _ (h : HomedForm) (valid : IsValid h.unit) (homed : HaveHomes h) (a : Arrangement) (f : ℕ) where
  storage_right : IsRightStorage (code_of h a f).storage (code_of h a f).slots (graph_at h.unit f)
  storage_right =
      let code : IsFunctionCode h.unit (code_of h a f) = all_codes h valid homed a h.unit f in
      let room : (code_of h a f).storage.slots + 4 * (code_of h a f).slots ≤ (code_of h a f).size = (code.storage (λ n. 0) []).room in
      let small : (code_of h a f).size ≤ 16384 = code.small in
      record {
        homes = all_homes_right h homed f;
        slotted = (laid_out h valid homed a f).homes;
        few = omega (arith, room, small);
        low = λ k m at. (code.objects k m at).low;
        high = λ k m at. let high = (code.objects k m at).high in omega (arith, high, small);
      }

  -- What a place may write is what the function writes there; of words of no place nothing is asked.
  abbrev IsWrittenBy : (place : ℕ) → Home → Type 0
  IsWrittenBy place home = place ≢ 0 → WritesIn h f (graph_at h.unit f) place home

  all_written : MayWriteAll (code_of h a f).storage (code_of h a f).slots IsWrittenBy h.unit (graph_at h.unit f) (graph_at h.unit f).entry
  all_written = record {
    any = λ home other. absurd (other refl);
    instructions = λ l x b before behind i there is target other. instruction l x b i before behind there is (placed_some (place_behind before b.place) other) target refl;
    bindings = λ k x at other. binding k x refl at refl;
  }

module _ (h : HomedForm) (valid : IsValid h.unit) (homed : HaveHomes h) (e : EmittedForm) (emitted : IsEmittedOf h e) (short : length e.code ≤ most_words e.map) (words : AllByRecursion IsInWords h.unit.graphs) where
  abbrev a : Arrangement
  a = arranged emitted.statics emitted.coded

  abbrev p : Program
  p = program_of e short

  has : HasCode h.unit.room p e.owners emitted.coded
  has = record { reach = emitted_in_reach h e emitted; words = emitted.words; own = emitted.owners; stops = ap (λ l. map (λ (x : PlacedStop). x.address) l) emitted.stops }

  few : length h.unit.graphs ≤ 4294967295
  few = let functions : length h.unit.graphs ≤ 256 = valid.functions in omega (arith, functions)

  module _ (f : ℕ) (low : f < length h.unit.graphs) where
    abbrev graph : Graph
    graph = graph_at h.unit f

    there : Placed h emitted.statics p e.owners emitted.coded f graph
    there = unit_placed h emitted.statics emitted.coded emitted.code p e.owners has few f graph (can_stand h valid homed emitted.statics emitted.addresses a refl words f low) (graph_there h.unit f low)

    -- The pieces of the function write no home but those that their places may.
    pieces_spare : AllSpare (code_of h a f).storage (code_of h a f).slots (IsWrittenBy h valid homed a f) None None there.laid.sequence.pieces
    pieces_spare =
        let blocks : length graph.blocks ≤ 120000 = blocks_few h.unit valid f graph (graph_there h.unit f low) in
        let ground : Ground = ground_at h valid homed emitted.statics emitted.addresses a refl f in
        sequence_spares ground (code_of h a f).slots (IsWrittenBy h valid homed a f) h.unit graph (graph_valid h.unit valid f low) (storage_right h valid homed a f) (all_written h valid homed a f) (f == h.unit.main) there.laid.sequence
        (all_codes h valid homed a h.unit f).kept
        (subst (λ g. IsSequenceOf g graph (f == h.unit.main) there.laid.sequence) (ground_is h valid homed emitted.statics emitted.addresses a refl f low (f == h.unit.main) there.laid there.is) (there.is.sequence (omega (arith, blocks))))

    abbrev first : ℕ
    first = slice_index emitted.coded.firsts f

    -- They stand one behind the other from the beginning of the function to its end.
    pieces_there : PlacedAt p (targets_of e.owners there.laid.sequence there.laid.layout first emitted.coded.firsts) (first + words_before there.laid.layout.reaches there.laid.sequence.pieces 0) there.laid.sequence.pieces
        (first + words_before there.laid.layout.reaches there.laid.sequence.pieces (length there.laid.sequence.pieces))
    pieces_there =
        let all : 0 + length there.laid.sequence.pieces ≡ length there.laid.sequence.pieces = omega arith in
        subst (λ k. PlacedAt p (targets_of e.owners there.laid.sequence there.laid.layout first emitted.coded.firsts) (first + words_before there.laid.layout.reaches there.laid.sequence.pieces 0) there.laid.sequence.pieces (first + words_before there.laid.layout.reaches there.laid.sequence.pieces k)) all
        (part_there p e.owners there.laid.sequence there.laid.layout first emitted.coded.firsts there.code [] there.laid.sequence.pieces [] (sym (append-nil there.laid.sequence.pieces)))

    written : (code : FunctionCode) → slice_get e.functions f ≡ Some code → (index : ℕ) → code.first ≤ address_of index → address_of index < code.end → slice_index e.owners index ≢ 0 → (x : ℕ) → x < graph.name_count
        → MayWrite (code_of h a f).storage e.code (home_of h f x) index → WritesIn h f graph (slice_index e.owners index) (home_of h f x)
    written code told index from to owned x named writes =
        let count : length emitted.coded.all ≡ length h.unit.graphs = laid_count h emitted.statics 0 h.unit.graphs emitted.coded.all emitted.code.laid in
        let here : 0 + f ≡ f = omega arith in
        let code_is : told_by first (parameters_in h.unit.graphs f) there.laid ≡ code =
        same_Some (told_by first (parameters_in h.unit.graphs f) there.laid) code
        (sym (ap (λ l. slice_get l f) emitted.functions ∙ told_there h.unit.graphs emitted.coded.firsts emitted.coded.all 0 f there.laid (omega (arith, few, count)) there.there ∙ ap (λ j. Some (told_by (slice_index emitted.coded.firsts j) (parameters_in h.unit.graphs j) there.laid)) here) ∙ told) in
        let begins = ap (λ (c : FunctionCode). c.first) code_is in
        let ends = ap (λ (c : FunctionCode). c.end) code_is in
        let fit : Fits h.unit.room e.map there.laid first = fits h emitted.statics emitted.coded emitted.code p e.owners has few f there.laid there.there in
        let all : there.laid.layout.words ≡ words_before there.laid.layout.reaches there.laid.sequence.pieces (length there.laid.sequence.pieces) = fit.layout.words in
        let most : first + words_before there.laid.layout.reaches there.laid.sequence.pieces (length there.laid.sequence.pieces) ≤ most_words e.map = fit.low in
        let none : words_before there.laid.layout.reaches there.laid.sequence.pieces 0 ≡ 0 = none_before there.laid.layout.reaches there.laid.sequence.pieces in
        words_allowed p (targets_of e.owners there.laid.sequence there.laid.layout first emitted.coded.firsts) (code_of h a f).storage (code_of h a f).slots (IsWrittenBy h valid homed a f)
        (first + words_before there.laid.layout.reaches there.laid.sequence.pieces 0) (first + words_before there.laid.layout.reaches there.laid.sequence.pieces (length there.laid.sequence.pieces)) there.laid.sequence.pieces pieces_there pieces_spare index
        (omega (arith, from, begins, most, none, (map_facts e.map).few)) (omega (arith, to, ends, all, most, (map_facts e.map).few)) (home_of h f x) ((laid_out h valid homed a f).homes x named) writes owned

  -- No other word of a place writes a home.
  pub nothing_else : WritesNothingElse h a e
  nothing_else f g code is told index from to place own some x named writes =
      let low : f < length h.unit.graphs = slice_get_within h.unit.graphs f g is in
      let same : graph_at h.unit f ≡ g = graph_is h.unit f g is in
      let owned : slice_index e.owners index ≢ 0 = λ none. some (sym own ∙ none) in
      subst (λ q. WritesIn h f g q (home_of h f x)) own
      (subst (λ (q : Graph). WritesIn h f q (slice_index e.owners index) (home_of h f x)) same
      (written f low code told index from to owned x (subst (λ (q : Graph). x < q.name_count) (sym same) named) writes))
