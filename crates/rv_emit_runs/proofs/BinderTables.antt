-- The table of bindings tells the address of the word that writes the home of each parameter that is a scalar.
use Rattle.std.proofs.Common.{◌≡◌, ◌≢◌, ℕ, zero, suc, ◌+◌, ◌-◌, ◌%◌, ◌<◌, ◌≤◌, inl, inr, ◌==◌, nat_lt, Bool, true, false, Option, Some, None, List, [], ◌∷◌, ◌++◌, length, map, slice_get, slice_index, replicate, refl, sym, ap, ◌∙◌, subst, arith, append_assoc, append-nil}
use Rattle.std.specs.List.{AllByRecursion}
use Rattle.std.specs.Option.{option_map_or}
use Rattle.std.proofs.lemmas.Bool.{le-ltb, lt-ltb}
use Rattle.std.proofs.lemmas.List.{length-append, length-replicate}
use Rattle.std.proofs.lemmas.Option.{same_Some, slice_get_within}
use Rattle.memory_map.specs.Maps.{most_words}
use Rattle.rv_emit_runs.proofs.Maps.{emitted_in_reach}
use Rattle.rv_code.specs.declared.instruction.Instruction.{Instruction}
use Rattle.rv_code.specs.declared.instruction.Instruction.TheVariants as instruction
use Rattle.graph_core.specs.Graphs.{Binding, ToScalar, ToObject, Graph}
use Rattle.graph_core.specs.Validity.{IsValid}
use Rattle.graph_homes.specs.declared.home.Home.{Home}
use Rattle.graph_homes.specs.Homed.{HomedForm, HaveHomes, homes_in, home_of}
use Rattle.rv_emit_tables.specs.declared.emitted.PlacedStop.{PlacedStop}
use Rattle.rv_emit_tables.specs.Emitted.{EmittedForm, FunctionCode}
use Rattle.rv_emit_words.specs.declared.piece.PlacedPiece.{PlacedPiece}
use Rattle.rv_emit_storage.specs.Storages.{StorageForm, home_at, object_at}
use Rattle.rv_emit_words.specs.Growing.{CodeState, marked, with_code}
use Rattle.rv_emit_words.specs.Operands.{home_written}
use Rattle.rv_emit_instructions.specs.Calls.{argument_register}
use Rattle.rv_emit_instructions.specs.Memory.{frame_reach, store_operation, storing}
use Rattle.rv_emit_code.specs.Beginning.{base_code, binding_code, element_of, entering_code, guard_code, with_beginning, with_bindings, with_writer}
use Rattle.rv_emit_code.specs.Blocks.{no_code}
use Rattle.rv_emit_code.specs.Ends.{words}
use Rattle.rv_emit_runs.specs.Placed.{placed_pieces}
use Rattle.rv_emit_runs.proofs.Appended.{pieces_appended, words_appended}
use Rattle.rv_emit_steps.specs.Programs.{Program, address_of}
use Rattle.rv_emit_sequence.specs.Sequences.{Ground, IsSequenceOf, SequenceForm, all_pieces, counted, first_pieces, last_pieces}
use Rattle.rv_emit_layout.specs.Layouts.{LayoutForm, words_before, most_pieces}
use Rattle.rv_emit_layout.specs.Tracing.{piece_address, with_writers}
use Rattle.rv_emit_runs.specs.Laid.{Arrangement, code_of, graph_at, program_of, IsInWords}
use Rattle.rv_emit_runs.proofs.Frames.{graph_is, graph_there, graph_valid}
use Rattle.rv_emit_layout.specs.Laid.{LaidForm, ground_for, parameters_in, told_by, told_of_all, IsEmittedOf}
use Rattle.rv_emit_runs.specs.Told.{IsToldBinder, TellBinders}
use Rattle.rv_emit_runs.specs.Writing.{EndsWriting, IsWriter, IsWriting}
use Rattle.rv_emit_runs.proofs.Grounds.{blocks_few, can_stand, ground_at, ground_is}
use Rattle.rv_emit_runs.proofs.Marking.{AppendsWriter, AreToldIn, IsToldIn, TellsWithin, WriterIn, marked_behind, plain_narrow, plain_told, within_then, words_count, writer_appended, writer_count, writer_narrow, writer_pieces, writer_told}
use Rattle.rv_emit_runs.proofs.Pieces.{FunctionThere, none_before}
use Rattle.rv_emit_runs.proofs.EmitPlacedPlain.{AreNarrow, Appends, IsNarrow, code_appends}
use Rattle.rv_emit_runs.proofs.Stops.{all_append}
use Rattle.rv_emit_runs.proofs.Tables.{AreOthers, others_keep, tables_then, unasked_keep}
use Rattle.rv_emit_runs.proofs.TableWords.{WordThere, told_there, word_there}
use Rattle.rv_emit_runs.proofs.Told.{told_there as function_told}
use Rattle.rv_emit_runs.proofs.UnitCode.{arranged}
use Rattle.rv_emit_runs.proofs.UnitPlaced.{HasCode, Placed, laid_count, unit_placed}
use Rattle.rv_emit_runs.proofs.WriterTables.{others_by}
use Rattle.rv_emit_runs.proofs.Writers.{by_code, code_owner, writing_some}
use Rattle.rv_emit_runs.proofs.Writing.{home_is_written}

-- ---- Parameters in order

module _ (g : StorageForm) (f : Graph) where
  -- A parameter has words.
  binding_some : (r : ℕ) (b : Binding) → 1 ≤ length (binding_code g f r b)
  binding_some r (ToScalar x) =
      let ends : EndsWriting g (home_at g x) (home_written g (home_at g x) r) = home_is_written g (home_at g x) r in
      let some : 1 ≤ length ends.last = writing_some g (home_at g x) ends.last ends.writes in
      let all = ap (λ (l : List Instruction). length l) ends.is ∙ length-append ends.before ends.last in
      omega (arith, some, all)
  binding_some r (ToObject k) =
      let both = length-append (frame_reach (object_at g k)).code (instruction.Store (store_operation (element_of f k)) r (frame_reach (object_at g k)).base (frame_reach (object_at g k)).offset ∷ []) in
      omega (arith, both)

  binding_within : (n : ℕ) (code : List Instruction) (s : CodeState) → 1 ≤ length code → TellsWithin n (n + 1) s (with_writer n (with_code code s))
  binding_within n code s some =
      let count = words_count s.owner s.begins code in
      record {
        more = writer_pieces n s.owner s.begins code;
        is = ap (λ (t : CodeState). (with_writer n t).pieces) (words_appended code s) ∙ ap (marked n) (pieces_appended (words code) s)
            ∙ marked_behind n s.pieces (placed_pieces s.owner s.begins (words code)) (omega (arith, some, count));
        told = writer_told n s.owner s.begins code;
        narrow = writer_narrow n s.owner s.begins code;
      }

  bindings_within : (n : ℕ) (all : List Binding) (s : CodeState) → n + length all ≤ 4294967295 → TellsWithin n (n + length all) s (with_bindings g f n all s)
  bindings_within n [] s few = record { more = []; is = sym (append-nil s.pieces); told = tt; narrow = tt }
  bindings_within n (b ∷ more) s few =
      let next : (n + 1) % 4294967296 ≡ n + 1 = omega (arith, few) in
      let end : n + 1 + length more ≡ n + length (b ∷ more) = omega arith in
      let t : CodeState = with_writer n (with_code (binding_code g f (argument_register n) b) s) in
      within_then n (n + 1) (n + length (b ∷ more)) s t (with_bindings g f ((n + 1) % 4294967296) more t) (omega arith) (omega arith) (binding_within n (binding_code g f (argument_register n) b) s (binding_some (argument_register n) b))
      (subst (λ m. TellsWithin (n + 1) (n + length (b ∷ more)) t (with_bindings g f m more t)) (sym next) (subst (λ m. TellsWithin (n + 1) m t (with_bindings g f (n + 1) more t)) end (bindings_within (n + 1) more t (omega (arith, few)))))

  bindings_split : (n : ℕ) (before rest : List Binding) (s : CodeState) → n + length before ≤ 4294967295 → with_bindings g f n (before ++ rest) s ≡ with_bindings g f (n + length before) rest (with_bindings g f n before s)
  bindings_split n [] rest s few = let none : n ≡ n + 0 = omega arith in ap (λ m. with_bindings g f m rest s) none
  bindings_split n (b ∷ before) rest s few =
      let next : (n + 1) % 4294967296 ≡ n + 1 = omega (arith, few) in
      let end : n + 1 + length before ≡ n + length (b ∷ before) = omega arith in
      let t : CodeState = with_writer n (with_code (binding_code g f (argument_register n) b) s) in
      ap (λ m. with_bindings g f m (before ++ rest) t) next ∙ bindings_split (n + 1) before rest t (omega (arith, few)) ∙ ap (λ m. with_bindings g f m rest (with_bindings g f (n + 1) before t)) end
      ∙ ap (λ m. with_bindings g f (n + length (b ∷ before)) rest (with_bindings g f m before t)) (sym next)

  bindings_owner : (n : ℕ) (all : List Binding) (s : CodeState) → (with_bindings g f n all s).owner ≡ s.owner
  bindings_owner n [] s = refl
  bindings_owner n (b ∷ more) s =
      bindings_owner ((n + 1) % 4294967296) more (with_writer n (with_code (binding_code g f (argument_register n) b) s)) ∙ code_owner (binding_code g f (argument_register n) b) s

record Parted (all : List Binding) (k : ℕ) (b : Binding) : Type 0 where
  pub before : List Binding
  pub behind : List Binding
  pub is : all ≡ before ++ (b ∷ behind)
  pub count : length before ≡ k

parted : (all : List Binding) (k : ℕ) (b : Binding) → slice_get all k ≡ Some b → Parted all k b
parted [] k b e = cc
parted (x ∷ all) zero b e = let same : x ≡ b = cc in record { before = []; behind = all; is = ap (λ z. z ∷ all) same; count = refl }
parted (x ∷ all) (suc k) b e = let later : Parted all k b = parted all k b e in record { before = x ∷ later.before; behind = later.behind; is = ap (λ l. x ∷ l) later.is; count = ap (λ n. suc n) later.count }

-- The pieces with which a function begins, with the word that binds a parameter that is a scalar.
first_writer : (g : Ground) (f : Graph) (is_main : Bool) (k x : ℕ) → slice_get f.parameters k ≡ Some (ToScalar x) → length f.parameters ≤ 4294967295 → WriterIn g.storage (home_at g.storage x) g.entry k (length f.parameters) (first_pieces g f is_main)
first_writer g f is_main k x at few =
    let parts : Parted f.parameters k (ToScalar x) = parted f.parameters k (ToScalar x) at in
    let code : List Instruction = guard_code ++ entering_code g.saved g.size ++ base_code is_main g.storage.base in
    let s0 : CodeState = with_code code (no_code g.entry []) in
    let s1 : CodeState = with_bindings g.storage f 0 parts.before s0 in
    let n : ℕ = 0 + length parts.before in
    let mine : List Instruction = home_written g.storage (home_at g.storage x) (argument_register n) in
    let s2 : CodeState = with_writer n (with_code mine s1) in
    let all : length f.parameters ≡ length parts.before + length (ToScalar x ∷ parts.behind) = ap (λ (l : List Binding). length l) parts.is ∙ length-append parts.before (ToScalar x ∷ parts.behind) in
    let number : n ≡ k = (let count = parts.count in omega (arith, count)) in
    let step : (n + 1) % 4294967296 ≡ n + 1 = omega (arith, all, few) in
    let begin : Appends (no_code g.entry []) s0 = code_appends code (no_code g.entry []) in
    let first : TellsWithin 0 (0 + length parts.before) s0 s1 = bindings_within g.storage f 0 parts.before s0 (omega (arith, all, few)) in
    let here : AppendsWriter g.storage (home_at g.storage x) n s1 s2 = writer_appended g.storage (home_at g.storage x) n s1 (with_code mine s1) (by_code g.storage (home_at g.storage x) mine s1 (home_is_written g.storage (home_at g.storage x) (argument_register n))) in
    let rest : TellsWithin (n + 1) (n + 1 + length parts.behind) s2 (with_bindings g.storage f (n + 1) parts.behind s2) = bindings_within g.storage f (n + 1) parts.behind s2 (omega (arith, all, few)) in
    let whole : with_bindings g.storage f 0 f.parameters s0 ≡ with_bindings g.storage f (n + 1) parts.behind s2 =
    ap (λ l. with_bindings g.storage f 0 l s0) parts.is ∙ bindings_split g.storage f 0 parts.before (ToScalar x ∷ parts.behind) s0 (omega (arith, all, few)) ∙ ap (λ m. with_bindings g.storage f m parts.behind s2) step in
    let own : s1.owner ≡ g.entry = bindings_owner g.storage f 0 parts.before s0 ∙ code_owner code (no_code g.entry []) in
    let high : n + 1 + length parts.behind ≡ length f.parameters = omega (arith, all) in
    record {
      front = (begin.more ++ first.more) ++ here.front;
      code = here.code;
      stops = here.stops;
      behind = rest.more;
      is = ap (λ (t : CodeState). t.pieces) whole ∙ rest.is ∙ ap (λ l. l ++ rest.more) (here.is ∙ ap (λ l. l ++ (here.front ++ writer_pieces n s1.owner here.stops here.code)) (first.is ∙ ap (λ l. l ++ first.more) begin.is))
          ∙ joined (begin.more ++ first.more) here.front (writer_pieces n s1.owner here.stops here.code) rest.more
          ∙ ap (λ o. ((begin.more ++ first.more) ++ here.front) ++ (writer_pieces n o here.stops here.code ++ rest.more)) own
          ∙ ap (λ m. ((begin.more ++ first.more) ++ here.front) ++ (writer_pieces m g.entry here.stops here.code ++ rest.more)) number;
      narrow = all_append (λ (y : PlacedPiece). IsNarrow y.piece) (begin.more ++ first.more) here.front (all_append (λ (y : PlacedPiece). IsNarrow y.piece) begin.more first.more (plain_narrow begin.more begin.plain) first.narrow) (plain_narrow here.front here.plain);
      writes = here.writes;
      later = subst (λ m. AreToldIn (m + 1) (length f.parameters) rest.more) number (subst (λ m. AreToldIn (n + 1) m rest.more) high rest.told);
    }
  where
    joined : (a b c d : List PlacedPiece) → (a ++ (b ++ c)) ++ d ≡ (a ++ b) ++ (c ++ d)
    joined a b c d = ap (λ l. l ++ d) (sym (append_assoc a b c)) ∙ append_assoc (a ++ b) c d

-- ---- Where it stands

module _ (p : Program) (owners : List ℕ) (g : Ground) (f : Graph) (is_main : Bool) (s : SequenceForm) (y : LayoutForm) (first : ℕ) (firsts : List ℕ) (there : FunctionThere p owners s y first firsts) (sequence : IsSequenceOf g f is_main s) (most : length f.parameters ≤ 8) where
  -- The table that is told.
  abbrev table : ℕ → List ℕ
  table n = with_writers y first (λ i. nat_lt i s.begin) 0 s.pieces (replicate n 0)

  pub record TellsBinder (number : ℕ) (home : Home) : Type 0 where
    pub index : ℕ
    pub within : first ≤ index
    pub writes : IsWriter g.storage p.words home index
    pub own : slice_index owners index ≡ g.entry
    pub told : slice_get (table (length f.parameters)) number ≡ Some (address_of index)

  pub tells_binder : (k x : ℕ) → slice_get f.parameters k ≡ Some (ToScalar x) → TellsBinder k (home_at g.storage x)
  tells_binder k x at = by_first (first_writer g f is_main k x at (omega (arith, most)))
    where
      by_first : WriterIn g.storage (home_at g.storage x) g.entry k (length f.parameters) (first_pieces g f is_main) → TellsBinder k (home_at g.storage x)
      by_first w =
          let mine : List PlacedPiece = writer_pieces k g.entry w.stops w.code in
          let rest : List PlacedPiece = all_pieces g s.numbers sequence.standing ++ last_pieces g in
          let back : List PlacedPiece = w.behind ++ rest in
          let cut : s.pieces ≡ first_pieces g f is_main ++ rest = sequence.pieces ∙ append_assoc (first_pieces g f is_main) (all_pieces g s.numbers sequence.standing) (last_pieces g) in
          let again : s.pieces ≡ w.front ++ (mine ++ back) = cut ∙ ap (λ l. l ++ rest) w.is ∙ append_assoc w.front (mine ++ w.behind) rest ∙ ap (λ l. w.front ++ l) (append_assoc mine w.behind rest) in
          let pieces : s.pieces ≡ [] ++ ((w.front ++ mine) ++ back) = again ∙ sym (append_assoc w.front mine back) in
          let total = ap (λ (q : List PlacedPiece). length q) again in
          let counts = length-append w.front (mine ++ back) in
          let parts = length-append mine back in
          let back_count = length-append w.behind rest in
          let mine_count : length mine ≡ length w.code = writer_count k g.entry w.stops w.code in
          let firsts_count = ap (λ (q : List PlacedPiece). length q) w.is ∙ length-append w.front (mine ++ w.behind) in
          let inner_count = length-append mine w.behind in
          let few : length s.pieces ≤ most_pieces = there.few in
          let begin : s.begin ≡ counted (length (first_pieces g f is_main)) = sequence.begin in
          let begins : s.begin ≡ length w.front + length mine + length w.behind = omega (arith, begin, firsts_count, inner_count, total, counts, parts, back_count, few) in
          let some : 1 ≤ length w.code = writing_some g.storage (home_at g.storage x) w.code w.writes in
          let others : AreOthers k w.behind = others_by k (k + 1) (length f.parameters) w.behind (inl (omega arith)) w.later in
          let within_table : k < length f.parameters = slice_get_within f.parameters k (ToScalar x) at in
          let tab : List ℕ = replicate (length f.parameters) 0 in
          let tab_count : length {A = ℕ} tab ≡ length f.parameters = length-replicate {A = ℕ} (length f.parameters) 0 in
          let word : WordThere p owners s y first g.storage (home_at g.storage x) g.entry 0 (0 + length w.front + length w.code - 1) = word_there p owners s y first firsts there g.storage (home_at g.storage x) k g.entry [] w.front back w.code w.stops pieces w.writes in
          let told : slice_get (table (length f.parameters)) k ≡ Some (piece_address y first (length w.front + length w.code - 1)) =
          told_there p owners s y first firsts there (λ i. nat_lt i s.begin) k g.entry tab w.front back w.code w.stops again some (omega (arith, within_table, tab_count))
          (lt-ltb (length w.front + length w.code - 1) s.begin (omega (arith, begins, mine_count, some)))
          (λ t. ap (λ q. slice_get q k) (tables_then y first (λ i. nat_lt i s.begin) (length w.front + length mine) w.behind rest t (omega (arith, total, counts, parts, back_count, few)))
          ∙ unasked_keep y first (λ i. nat_lt i s.begin) k (length w.front + length mine + length w.behind) rest (with_writers y first (λ i. nat_lt i s.begin) (length w.front + length mine) w.behind t) (omega (arith, total, counts, parts, back_count, few))
          (λ j le lt. le-ltb j s.begin (omega (arith, begins, le)))
          ∙ others_keep y first (λ i. nat_lt i s.begin) k (length w.front + length mine) w.behind t others) in
          let here : 0 + length w.front + length w.code - 1 ≡ length w.front + length w.code - 1 = omega arith in
          let within = word.within in
          let none : words_before y.reaches s.pieces 0 ≡ 0 = none_before y.reaches s.pieces in
          record { index = word.index; within = omega (arith, within, none); writes = word.writes; own = word.own; told = told ∙ ap (λ j. Some (piece_address y first j)) (sym here) ∙ ap (λ a. Some a) word.address }

-- ---- All of them

module _ (h : HomedForm) (valid : IsValid h.unit) (homed : HaveHomes h) (e : EmittedForm) (emitted : IsEmittedOf h e) (short : length e.code ≤ most_words e.map) (words_in : AllByRecursion IsInWords h.unit.graphs) where
  abbrev a : Arrangement
  a = arranged emitted.statics emitted.coded

  abbrev p : Program
  p = program_of e short

  has : HasCode h.unit.room p e.owners emitted.coded
  has = record { reach = emitted_in_reach h e emitted; words = emitted.words; own = emitted.owners; stops = ap (λ l. map (λ (x : PlacedStop). x.address) l) emitted.stops }

  few : length h.unit.graphs ≤ 4294967295
  few = let functions : length h.unit.graphs ≤ 256 = valid.functions in omega (arith, functions)

  binder : (f : ℕ) → f < length h.unit.graphs → (code : FunctionCode) → slice_get e.functions f ≡ Some code → (k x : ℕ) → slice_get (graph_at h.unit f).parameters k ≡ Some (ToScalar x) → IsToldBinder h a e code f k (graph_at h.unit f).entry (home_of h f x)
  binder f low code told k x at =
      let graph : Graph = graph_at h.unit f in
      let first : ℕ = slice_index emitted.coded.firsts f in
      let is : slice_get h.unit.graphs f ≡ Some graph = graph_there h.unit f low in
      let placed : Placed h emitted.statics p e.owners emitted.coded f graph = unit_placed h emitted.statics emitted.coded emitted.code p e.owners has few f graph (can_stand h valid homed emitted.statics emitted.addresses a refl words_in f low) is in
      let count : length emitted.coded.all ≡ length h.unit.graphs = laid_count h emitted.statics 0 h.unit.graphs emitted.coded.all emitted.code.laid in
      let here : 0 + f ≡ f = omega arith in
      let code_is : told_by first (parameters_in h.unit.graphs f) placed.laid ≡ code =
      same_Some (told_by first (parameters_in h.unit.graphs f) placed.laid) code
      (sym (ap (λ l. slice_get l f) emitted.functions ∙ function_told h.unit.graphs emitted.coded.firsts emitted.coded.all 0 f placed.laid (omega (arith, few, count)) placed.there ∙ ap (λ j. Some (told_by (slice_index emitted.coded.firsts j) (parameters_in h.unit.graphs j) placed.laid)) here) ∙ told) in
      let many : parameters_in h.unit.graphs f ≡ length graph.parameters = ap (λ (o : Option Graph). option_map_or (λ (g : Graph). length g.parameters) o 0) is in
      let most = (graph_valid h.unit valid f low).parameters in
      let short_blocks : length graph.blocks ≤ 120000 = blocks_few h.unit valid f graph is in
      let g : Ground = ground_at h valid homed emitted.statics emitted.addresses a refl f in
      let sequence : IsSequenceOf g graph (f == h.unit.main) placed.laid.sequence =
      subst (λ q. IsSequenceOf q graph (f == h.unit.main) placed.laid.sequence) (ground_is h valid homed emitted.statics emitted.addresses a refl f low (f == h.unit.main) placed.laid placed.is) (placed.is.sequence (omega (arith, short_blocks))) in
      let one : TellsBinder p e.owners g graph (f == h.unit.main) placed.laid.sequence placed.laid.layout first emitted.coded.firsts placed.code sequence most k (home_of h f x) =
      tells_binder p e.owners g graph (f == h.unit.main) placed.laid.sequence placed.laid.layout first emitted.coded.firsts placed.code sequence most k x at in
      record {
        binder = record { index = one.index; within = one.within; writes = one.writes; owner = one.own };
        told = ap (λ (c : FunctionCode). slice_get c.bindings k) (sym code_is) ∙ ap (λ n. slice_get (with_writers placed.laid.layout first (λ i. nat_lt i placed.laid.sequence.begin) 0 placed.laid.sequence.pieces (replicate n 0)) k) many ∙ one.told;
      }

  -- The table of bindings tells where they are.
  pub tells_binders : TellBinders h a e
  tells_binders f g code is told k x at =
      let low : f < length h.unit.graphs = slice_get_within h.unit.graphs f g is in
      let same : graph_at h.unit f ≡ g = graph_is h.unit f g is in
      subst (λ (q : Graph). IsToldBinder h a e code f k q.entry (home_of h f x)) same (binder f low code told k x (ap (λ (q : Graph). slice_get q.parameters k) same ∙ at))
