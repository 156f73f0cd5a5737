-- What the code of a valid unit's functions rests on: frames, homes and addresses that words can say.
use Rattle.std.proofs.Common.{◌≡◌, ℕ, zero, suc, ◌+◌, ◌<◌, ◌≤◌, ⊎_elim, ◌==◌, cond, Bool, true, false, Some, List, [], ◌∷◌, ◌++◌, length, take, drop, slice_get, slice_index, refl, sym, ap, ◌∙◌, subst, arith}
use Rattle.std.specs.List.{AllByRecursion, filter, flat_map}
use Rattle.std.specs.Prelude.{replicate}
use Rattle.std.proofs.lemmas.List.{drop_at, get_or-drop, length-append, length-replicate, length-take-le, take_at}
use Rattle.memory_map.specs.Maps.{bytes_start}
use Rattle.memory_map.proofs.Facts.{map_facts}
use Rattle.rv_emit_storage.proofs.UnitMaps.{statics_begin}
use Rattle.rv_emit_storage.specs.UnitMaps.{map_of_unit}
use Rattle.graph_homes.specs.declared.home.Home.{Home}
use Rattle.graph_homes.specs.declared.home.Home.TheVariants.{Register, Slot}
use Rattle.graph_core.specs.Bounds.{most_blocks}
use Rattle.graph_core.proofs.Rooms.{blocks_in}
use Rattle.graph_core.specs.Graphs.{Graph, StaticObject, UnitForm}
use Rattle.graph_core.specs.Memory.{static_bytes}
use Rattle.graph_core.specs.Validity.{IsValid, taken_by, total}
use Rattle.graph_homes.specs.Frames.{frame_size, home_registers, is_written, object_offsets, objects_start, saved, slot_count, slots_start}
use Rattle.graph_homes.specs.Homed.{HomedForm, homes_in, home_of, AreHomesOf, HaveHomes, IsHomeAmong}
use Rattle.rv_emit_storage.specs.StaticAddresses.{addresses_from, bytes_by_element, initial_bytes, object_bytes, padded, static_addresses, static_sizes, statics_start}
use Rattle.rv_emit_storage.specs.Kept.{home_in, FitsFrame}
use Rattle.rv_emit_storage.specs.Placed.{FitsStatics}
use Rattle.rv_emit_sequence.specs.Sequences.{Ground, IsSequenceOf, counted}
use Rattle.rv_emit_runs.specs.Laid.{Arrangement, code_of, graph_at, IsInWords}
use Rattle.rv_emit_runs.proofs.Frames.{graph_there, laid_out}
use Rattle.rv_emit_runs.proofs.Lists.{all_at}
use Rattle.rv_emit_layout.specs.Laid.{LaidForm, StaticForm, ground_for, IsDrawnOf}
use Rattle.rv_emit_layout.proofs.Fitting.{statics_fit}
use Rattle.rv_emit_layout.specs.Laid.{AreAddressesOf}
use Rattle.rv_emit_runs.proofs.Endings.{AreFitSaved}
use Rattle.rv_emit_runs.proofs.Forms.{IsFitHome, perhaps}
use Rattle.rv_emit_runs.proofs.Spelled.{IsFitGround, sequence_spelled}
use Rattle.rv_emit_runs.proofs.UnitPlaced.{CanStand}

-- ---- Homes

among_fit : (n : ℕ) (home : Home) → IsHomeAmong n home → IsFitHome home
among_fit n (Register r) is = ⊎_elim (λ (e : r ≡ 9). omega (arith, e)) (λ (both : (18 ≤ r) × (r ≤ 31)). let high = both.1 in omega (arith, high)) is
among_fit n (Slot k) is = tt

homes_fit : (n : ℕ) (homes : List Home) → AllByRecursion (IsHomeAmong n) homes → (x : ℕ) → IsFitHome (home_in homes x)
homes_fit n homes all x = perhaps IsFitHome (λ home. home) (slice_get homes x) (Slot 0) (λ home at. among_fit n home (all_at (IsHomeAmong n) homes x home all at)) tt

pub homes_among : (gs : List Graph) (hs : List (List Home)) → AreHomesOf gs hs → (f : ℕ) (homes : List Home) → slice_get hs f ≡ Some homes → (n : ℕ) × AllByRecursion (IsHomeAmong n) homes
homes_among gs [] are f homes e = cc
homes_among [] (y ∷ hs) are f homes e = absurd are
homes_among (g ∷ gs) (y ∷ hs) are zero homes e = let same : y ≡ homes = cc in (g.name_count, subst (λ l. AllByRecursion (IsHomeAmong g.name_count) l) same are.1)
homes_among (g ∷ gs) (y ∷ hs) are (suc f) homes e = homes_among gs hs are.2 f homes e

-- Each home of a function is a slot or a register.
pub all_homes_fit : (h : HomedForm) → HaveHomes h → (f x : ℕ) → IsFitHome (home_in (homes_in h f) x)
all_homes_fit h homed f =
    perhaps (λ (homes : List Home). (x : ℕ) → IsFitHome (home_in homes x)) (λ homes. homes) (slice_get h.homes f) []
    (λ homes at. let found = homes_among h.unit.graphs h.homes homed f homes at in homes_fit found.0 homes found.1) (homes_fit 0 [] tt)

-- ---- Frames

kept_fit : (p : ℕ → Bool) (registers : List ℕ) → AllByRecursion (λ r. r < 32) registers → AllByRecursion (λ r. r < 32) (filter p registers)
kept_fit p [] all = tt
kept_fit p (r ∷ more) all = by_test (p r) (kept_fit p more all.1)
  where
    by_test : (b : Bool) → AllByRecursion (λ r. r < 32) (filter p more) → AllByRecursion (λ r. r < 32) (cond b (r ∷ filter p more) (filter p more))
    by_test true later = (all.0, later)
    by_test false later = later

kept_few : (p : ℕ → Bool) (registers : List ℕ) → length (filter p registers) ≤ length registers
kept_few p [] = omega arith
kept_few p (r ∷ more) = by_test (p r) (kept_few p more)
  where
    by_test : (b : Bool) → length (filter p more) ≤ length more → length (cond b (r ∷ filter p more) (filter p more)) ≤ length (r ∷ more)
    by_test true le = omega (arith, le)
    by_test false le = omega (arith, le)

registers_low : AllByRecursion (λ r. r < 32) home_registers
registers_low = (omega arith, (omega arith, (omega arith, (omega arith, (omega arith, (omega arith, (omega arith, (omega arith, (omega arith, (omega arith, (omega arith, (omega arith, (omega arith, (omega arith, (omega arith, tt)))))))))))))))

pub saved_fit : (home : ℕ → Home) (g : Graph) → AreFitSaved (saved home g)
saved_fit home g = record { registers = kept_fit (is_written home g) home_registers registers_low; few = kept_few (is_written home g) home_registers }

-- ---- Static memory

addresses_low : (sizes : List ℕ) (a n : ℕ) → a + total taken_by sizes < 4294967295 → slice_index (addresses_from a sizes) n < 4294967296
addresses_low [] a n low = omega arith
addresses_low (x ∷ more) a zero low = omega (arith, low)
addresses_low (x ∷ more) a (suc n) low = addresses_low more (a + taken_by x) n (omega (arith, low))

arrays_low : (u : UnitForm) → IsValid u → (s : StaticForm) → AreAddressesOf u s → (n : ℕ) → slice_index s.arrays n < 4294967296
arrays_low u valid s are n =
    let fits : FitsStatics u = statics_fit u valid in
    let start : (statics_start u) ≡ bytes_start (map_of_unit u) = statics_begin u in
    subst (λ k. k < 4294967296) (sym (ap (λ l. slice_index l n) are.arrays ∙ get_or-drop (length u.statics) (static_addresses u) n 0))
    (addresses_low (static_sizes u) (statics_start u) (length u.statics + n) (omega (arith, fits, start)))

padded_count : (n : ℕ) (bytes : List ℕ) → length (padded n bytes) ≡ n
padded_count n bytes =
    let all = length-append bytes (replicate n 0) in
    let more : length (replicate n 0) ≡ n = length-replicate {A = ℕ} n 0 in
    length-take-le n (bytes ++ replicate n 0) (omega (arith, all, more))

objects_count : (u : UnitForm) (objects : List StaticObject) → length (flat_map (object_bytes u) objects) ≡ total (λ (o : StaticObject). taken_by (static_bytes o)) objects
objects_count u [] = refl
objects_count u (o ∷ more) =
    let both = length-append (object_bytes u o) (flat_map (object_bytes u) more) in
    let one = padded_count (taken_by (static_bytes o)) (bytes_by_element u o o.element) in
    let later = objects_count u more in
    omega (arith, both, one, later)

arrays_count : (arrays : List (List ℕ)) → length (flat_map (λ (b : List ℕ). padded (taken_by (length b)) b) arrays) ≡ total (λ (b : List ℕ). taken_by (length b)) arrays
arrays_count [] = refl
arrays_count (b ∷ more) =
    let both = length-append (padded (taken_by (length b)) b) (flat_map (λ (b : List ℕ). padded (taken_by (length b)) b) more) in
    let one = padded_count (taken_by (length b)) b in
    let later = arrays_count more in
    omega (arith, both, one, later)

-- The initial bytes of a valid unit fit in static memory.
pub initial_few : (u : UnitForm) → IsValid u → length (initial_bytes u) ≤ 1048576
initial_few u valid =
    let few : total (λ o. taken_by (static_bytes o)) u.statics + total (λ (b : List ℕ). taken_by (length b)) u.array_bytes ≤ 1048576 = valid.statics in
    let both = length-append (flat_map (object_bytes u) u.statics) (flat_map (λ (b : List ℕ). padded (taken_by (length b)) b) u.array_bytes) in
    let one = objects_count u u.statics in
    let two = arrays_count u.array_bytes in
    omega (arith, few, both, one, two)

-- ---- Blocks

few_among : {A : Type 0} (count : A → ℕ) (xs : List A) (k : ℕ) (x : A) → slice_get xs k ≡ Some x → count x ≤ total count xs
few_among count [] k x e = cc
few_among count (y ∷ xs) zero x e = let same : count y ≡ count x = (let both : y ≡ x = cc in ap count both) in omega (arith, same)
few_among count (y ∷ xs) (suc k) x e = omega (arith, few_among count xs k x e)

pub blocks_few : (u : UnitForm) → IsValid u → (f : ℕ) (g : Graph) → slice_get u.graphs f ≡ Some g → length g.blocks ≤ 120000
blocks_few u valid f g e =
    let all : total (λ (g : Graph). length g.blocks) u.graphs ≤ most_blocks u.room = valid.blocks in
    let one : length g.blocks ≤ total (λ (g : Graph). length g.blocks) u.graphs = few_among (λ (g : Graph). length g.blocks) u.graphs f g e in
    omega (arith, all, one, blocks_in u.room)

-- ---- Functions

module _ (h : HomedForm) (valid : IsValid h.unit) (homed : HaveHomes h) (s : StaticForm) (are : AreAddressesOf h.unit s) (a : Arrangement) (base : a.base ≡ s.base) where
  abbrev graph : ℕ → Graph
  graph f = graph_at h.unit f

  -- gp holds a word.
  base_fits : s.base < 4294967296
  base_fits = let is = are.base in omega (arith, is, (map_facts (map_of_unit h.unit)).apart, (map_facts (map_of_unit h.unit)).whole)

  frame_small : (f : ℕ) → frame_size (length (saved (home_of h f) (graph f))) (slot_count (homes_in h f)) (graph f).objects ≤ 16384
  frame_small f = (laid_out h valid homed a f).small

  pub fits_frame : (f : ℕ) → FitsFrame (homes_in h f) (graph f)
  fits_frame f = let small = frame_small f in omega (arith, small)

  -- What a function rests on, as its frame has it.
  abbrev pub ground_at : ℕ → Ground
  ground_at f = record {
    storage = (code_of h a f).storage;
    entry = (code_of h a f).graph.entry;
    saved = (code_of h a f).saved;
    size = (code_of h a f).size;
    end = length (code_of h a f).graph.blocks;
  }

  abbrev ground_by : (f slots : ℕ) (objects statics arrays kept : List ℕ) (base size end : ℕ) → Ground
  ground_by f slots objects statics arrays kept base size end = record {
    storage = record { homes = homes_in h f; slots = slots; objects = objects; statics = statics; arrays = arrays; base = base };
    entry = (graph f).entry;
    saved = kept;
    size = size;
    end = end;
  }

  -- The code that is laid out rests on that.
  pub ground_is : (f : ℕ) → f < length h.unit.graphs → (is_main : Bool) (l : LaidForm) → IsDrawnOf s (graph f) (homes_in h f) is_main l → ground_for s (graph f) (homes_in h f) l ≡ ground_at f
  ground_is f low is_main l is =
      let kept : l.saved ≡ saved (home_of h f) (graph f) = is.saved in
      let count : length l.saved ≡ length (saved (home_of h f) (graph f)) = ap (λ (r : List ℕ). length r) kept in
      let slots : l.slots ≡ slots_start (length (saved (home_of h f) (graph f))) = is.slots ∙ ap slots_start count in
      let objects : l.objects ≡ object_offsets (objects_start (length (saved (home_of h f) (graph f))) (slot_count (homes_in h f))) (graph f).objects =
      is.objects (fits_frame f) ∙ ap (λ n. object_offsets (objects_start n (slot_count (homes_in h f))) (graph f).objects) count in
      let size : l.size ≡ frame_size (length (saved (home_of h f) (graph f))) (slot_count (homes_in h f)) (graph f).objects =
      is.size (fits_frame f) ∙ ap (λ n. frame_size n (slot_count (homes_in h f)) (graph f).objects) count in
      let few : length (graph f).blocks ≤ 120000 = blocks_few h.unit valid f (graph f) (graph_there h.unit f low) in
      let end : counted (length (graph f).blocks) ≡ length (graph f).blocks = omega (arith, few) in
      by_parts f l.slots (slots_start (length (saved (home_of h f) (graph f)))) slots
      l.objects (object_offsets (objects_start (length (saved (home_of h f) (graph f))) (slot_count (homes_in h f))) (graph f).objects) objects
      s.objects (take (length h.unit.statics) (static_addresses h.unit)) are.objects
      s.arrays (drop (length h.unit.statics) (static_addresses h.unit)) are.arrays
      l.saved (saved (home_of h f) (graph f)) kept
      s.base a.base (sym base)
      l.size (frame_size (length (saved (home_of h f) (graph f))) (slot_count (homes_in h f)) (graph f).objects) size
      (counted (length (graph f).blocks)) (length (graph f).blocks) end
    where
      by_parts : (f : ℕ) (o o' : ℕ) → o ≡ o' → (j j' : List ℕ) → j ≡ j' → (t t' : List ℕ) → t ≡ t' → (y y' : List ℕ) → y ≡ y' → (r r' : List ℕ) → r ≡ r' → (b b' : ℕ) → b ≡ b' → (z z' : ℕ) → z ≡ z' → (e e' : ℕ) → e ≡ e'
          → ground_by f o j t y r b z e ≡ ground_by f o' j' t' y' r' b' z' e'
      by_parts f o o' p1 j j' p2 t t' p3 y y' p4 r r' p5 b b' p6 z z' p7 e e' p8 =
          ap (λ q. ground_by f q j t y r b z e) p1 ∙ ap (λ q. ground_by f o' q t y r b z e) p2 ∙ ap (λ q. ground_by f o' j' q y r b z e) p3 ∙ ap (λ q. ground_by f o' j' t' q r b z e) p4
          ∙ ap (λ q. ground_by f o' j' t' y' q b z e) p5 ∙ ap (λ q. ground_by f o' j' t' y' r' q z e) p6 ∙ ap (λ q. ground_by f o' j' t' y' r' b' q e) p7 ∙ ap (λ q. ground_by f o' j' t' y' r' b' z' q) p8

  pub ground_fits : a.base < 4294967296 → (f : ℕ) → IsFitGround (ground_at f)
  ground_fits low f =
      let small = frame_small f in
      record {
        storage = record { homes = all_homes_fit h homed f; arrays = λ n. subst (λ l. slice_index l n < 4294967296) are.arrays (arrays_low h.unit valid s are n) };
        base = low;
        saved = saved_fit (home_of h f) (graph f);
        size = omega (arith, small);
      }

  -- Each function can stand.
  pub can_stand : AllByRecursion IsInWords h.unit.graphs → (f : ℕ) → f < length h.unit.graphs → CanStand h s f (graph f)
  can_stand words f low =
      let there = graph_there h.unit f low in
      let few : length (graph f).blocks ≤ 120000 = blocks_few h.unit valid f (graph f) there in
      let short : length (graph f).blocks < 4294967295 = omega (arith, few) in
      record {
        few = short;
        spelled = λ l is. sequence_spelled (ground_at f) (ground_fits (subst (λ n. n < 4294967296) (sym base) base_fits) f) (graph f) (f == h.unit.main) l.sequence (all_at IsInWords h.unit.graphs f (graph f) words there)
            (subst (λ g. IsSequenceOf g (graph f) (f == h.unit.main) l.sequence) (ground_is f low (f == h.unit.main) l is) (is.sequence short));
      }
