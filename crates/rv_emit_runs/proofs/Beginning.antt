-- The code with which a function begins makes its frame, in which its objects lie, and binds its parameters; what waits stands as it stood.
use Rattle.std.proofs.Common.{◌≡◌, ◌≢◌, ℕ, ◌+◌, ◌-◌, ◌*◌, ◌%◌, ◌<◌, ◌≤◌, ◌⊎◌, ⊎_elim, inl, inr, sym, ap, ◌∙◌, subst, arith, refl, Option, Some, None, Bool, true, false, cond, List, [], ◌∷◌, ◌++◌, length, length-append, map, slice_get, slice_index}
use Rattle.std.proofs.lemmas.Bool.{le-ltb}
use Rattle.memory_map.specs.declared.map.Map.{Map}
use Rattle.memory_map.specs.Maps.{most_words, bytes_end, bytes_start, stack_start, stack_end}
use Rattle.memory_map.proofs.Facts.{map_facts}
use Rattle.rv_emit_storage.specs.UnitMaps.{map_of_unit}
use Rattle.rv_code.specs.declared.instruction.Instruction.{Instruction as MachineInstruction}
use Rattle.graph_core.specs.declared.value.Value.{Value}
use Rattle.graph_core.specs.declared.value.Value.TheVariants.{Odd}
use Rattle.graph_core.specs.declared.value.Shadow.TheVariants as shadow
use Rattle.graph_core.specs.Graphs.{Block, Graph, UnitForm}
use Rattle.graph_core.specs.Memory.{Memory, Object, bytes_of, words_of, new_object}
use Rattle.graph_core.specs.Paths.{Among}
use Rattle.graph_core.specs.Runs.{Activation, Configuration, bind_names, bind_objects}
use Rattle.graph_homes.specs.Homed.{IsHomeRegister, placed_binding}
use Rattle.rv_emit_instructions.specs.Calls.{argument_register}
use Rattle.rv_emit_storage.specs.Storages.{home_at, object_at, array_bytes_at}
use Rattle.rv_emit_steps.specs.Holding.{Holding, word_at}
use Rattle.rv_emit_steps.specs.Doing.{done_by_all, CanDoAll}
use Rattle.rv_emit_steps.specs.Programs.{address_of}
use Rattle.rv_emit_steps.proofs.Placing.{done_by_both, can_do_both, regions_stay}
use Rattle.rv_emit_steps.specs.EmitMovesDoing.{Brings}
use Rattle.rv_emit_steps.specs.Meaning.{Means, HoldsObjects}
use Rattle.rv_emit_steps.specs.Frames.{Setting, HasArray, HoldsFrame}
use Rattle.rv_emit_steps.proofs.Elements.{word_kept}
use Rattle.rv_emit_steps.proofs.Limits.{constant_alone}
use Rattle.rv_emit_steps.proofs.Objects.{AreThose, WasThere}
use Rattle.rv_emit_code.specs.Beginning.{base_code, entering_code, bindings_code, beginning_behind}
use Rattle.rv_emit_runs.specs.Waiting.{FunctionCode, IsFunctionCode, setting_of, behind_frame, Waits, HoldsAll}
use Rattle.rv_emit_runs.proofs.Bindings.{AreGiven, argument_is, all_bound, bound_is, AreBindable, Binds, all_bind}
use Rattle.rv_emit_runs.proofs.Spare.{HasRoom}
use Rattle.rv_emit_runs.proofs.Entering.{Enters, CanEnter, saved_same, home_no_scratch, entering_enters}
use Rattle.rv_emit_runs.proofs.Growing.{addresses_with, grown_new, laid_new, objects_new, own_new, below_new, free_new}
use Rattle.rv_emit_runs.proofs.Loading.{frame_found}
use Rattle.rv_emit_runs.proofs.Outer.{IsNoObject, Grown, LeavesAbove, means_grown, frame_grown, waiting_kept}
use Rattle.rv_emit_runs.proofs.Restoring.{low_no_home, restored_low, AreSaved, restored_saved, behind_other}
pub use Rattle.base_laws.proofs.Lists.{length_mapped}

-- main sets gp to what it is: no other register but t0 is written.
base_set : (is_main : Bool) (base : ℕ) (h : Holding) → base < 4294967296 → h.registers 0 ≡ 0 → h.registers 3 ≡ base → Brings (base_code is_main base) h 3 3 base
base_set true base h fits none gp = constant_alone h 3 base (omega arith) fits none
base_set false base h fits none gp = record { can = tt; value = gp; kept = λ q other scratch. refl; memory = refl; input = refl }

-- All functions find static objects and arrays at the same addresses, and gp holds the same.
pub record ShareStatics (codes : ℕ → FunctionCode) : Type 0 where
  pub base : (j k : ℕ) → (codes j).storage.base ≡ (codes k).storage.base
  pub statics : (j k : ℕ) → (codes j).storage.statics ≡ (codes k).storage.statics
  pub arrays : (j k : ℕ) → (codes j).storage.arrays ≡ (codes k).storage.arrays

-- ---- Lemmas on what was saved and what grows

-- What was saved is so where the bytes are the same.
saved_there : (saved : List ℕ) (a : ℕ) (m n registers : ℕ → ℕ) → ((b : ℕ) → a ≤ b → b < a + 4 * length saved → n b ≡ m b) → AreSaved saved a m registers → AreSaved saved a n registers
saved_there [] a m n registers same have = tt
saved_there (r ∷ more) a m n registers same have = (
  word_kept m n a (same a (omega arith) (omega arith)) (same (a + 1) (omega arith) (omega arith)) (same (a + 2) (omega arith) (omega arith)) (same (a + 3) (omega arith) (omega arith)) ∙ have.0,
  saved_there more (a + 4) m n registers (λ b low high. same b (omega (arith, low)) (omega (arith, high))) have.1,
)

-- Objects that are those of a memory that grew.
grown_then : (regions : Map) (addresses after : ℕ → ℕ) (memory between later : Memory) (limit : ℕ) → Grown regions addresses after memory between limit → AreThose between later → length later ≡ length between → Grown regions addresses after memory later limit
grown_then regions addresses after memory between later limit grown those same = record {
  longer = let longer = grown.longer in omega (arith, longer, same);
  lie = grown.lie;
  kept = λ n size e. (those.kept n size (grown.kept n size e).0, (grown.kept n size e).1);
  were = λ n o is live.
      let was : WasThere between n o = those.were n o is in
      ⊎_elim
      (λ (both : WasThere memory n was.object × (after n ≡ addresses n)).
      inl (record { object = both.0.object; is = both.0.is; bytes = was.bytes ∙ both.0.bytes; live = λ l. both.0.live (was.live l) }, both.1))
      (λ (new : (length memory ≤ n) × (stack_start regions ≤ after n) × (after n + bytes_of was.object ≤ limit)). let bytes = was.bytes in inr (new.0, new.1, omega (arith, new.2, bytes)))
      (grown.were n was.object was.is (was.live live));
}

-- A byte of a frame below its objects is in no object.
low_no_object : (w : Setting) (c : Configuration) (h : Holding) → HoldsFrame w c h → (b : ℕ) → h.registers 2 ≤ b → b < h.registers 2 + (w.storage.slots + 4 * w.slots) → IsNoObject w.addresses c.memory b
low_no_object w c h frame b low high n o is live =
    let an : w.addresses n % 4 ≡ 0 = frame.laid.aligned n o is in
    let sp : h.registers 2 % 4 ≡ 0 = frame.aligned in
    ⊎_elim
    (λ (below : w.addresses n + bytes_of o ≤ h.registers 2). inr (omega (arith, an, sp, below, low)))
    (λ (past : h.registers 2 + (w.storage.slots + 4 * w.slots) ≤ w.addresses n). inl (omega (arith, past, high)))
    (frame.free n o is live)

given_grown : (regions : Map) (addresses after : ℕ → ℕ) (memory later : Memory) (limit : ℕ) (h t : Holding) (n : ℕ) (vs : List Value) → n + length vs ≤ 8 → Grown regions addresses after memory later limit → ((q : ℕ) → 10 ≤ q → q ≤ 17 → t.registers q ≡ h.registers q) → AreGiven addresses memory h n vs → AreGiven after later t n vs
given_grown regions addresses after memory later limit h t n [] few grown kept given = tt
given_grown regions addresses after memory later limit h t n (v ∷ more) few grown kept given =
    let is : argument_register n ≡ 10 + n = argument_is n (omega (arith, few)) in
    let same : t.registers (argument_register n) ≡ h.registers (argument_register n) = kept (argument_register n) (omega (arith, is)) (omega (arith, is, few)) in (
      subst (λ x. Means after later v x) (sym same) (means_grown regions addresses after memory later limit grown v _ given.0),
      subst (λ x. x < 4294967296) (sym same) given.1,
      given_grown regions addresses after memory later limit h t (n + 1) more (omega (arith, few)) grown kept given.2,
    )

-- ---- The frame

-- Where a function begins behind its guard: ra holds the index behind its call, one less activation may begin, and the caller's frame stands.
module _ (codes : ℕ → FunctionCode) (u : UnitForm) (valid : (k : ℕ) → IsFunctionCode u (codes k)) (addresses : ℕ → ℕ) (resumes : Activation → ℕ → Type 0) (share : ShareStatics codes) (c : Configuration) (h g : Holding)
    (all : HoldsAll codes u addresses resumes [] c h) (function index : ℕ) (low_index : index ≤ most_words (map_of_unit u)) (same : (q : ℕ) → q ≢ 4 → g.registers q ≡ h.registers q) (same_map : g.regions ≡ h.regions) (same_memory : g.memory ≡ h.memory) (same_input : g.input ≡ h.input) (one_less : g.registers 4 + 1 ≡ h.registers 4)
    (ra : h.registers 1 ≡ address_of index) (words : (q : ℕ) → g.registers q < 4294967296) (deep : length c.waiting + 2 ≤ 1024) where
  abbrev f : FunctionCode
  f = codes function

  fits : IsFunctionCode u (codes function)
  fits = valid function

  same_sp : g.registers 2 ≡ h.registers 2
  same_sp = same 2 (λ e. cc)

  -- The regions are those of the unit.
  start_is : stack_start g.regions ≡ stack_start (map_of_unit u)
  start_is = ap (λ m. stack_start m) (same_map ∙ all.here.map)

  statics_below : bytes_end (map_of_unit u) ≤ stack_start (map_of_unit u)
  statics_below = (map_facts (map_of_unit u)).apart

  can_enter : CanEnter (codes function).saved (codes function).size g
  can_enter =
      let small = fits.small in
      let far = all.room in
      let whole = (fits.storage addresses []).room in
      let kept = fits.kept in
      let high = all.here.high in
      let at = same_sp in
      record {
        words = words;
        none = same 0 (λ e. cc) ∙ all.here.fetch.none;
        aligned = ap (λ s. s % 4) same_sp ∙ all.here.aligned;
        whole = fits.aligned;
        low = omega (arith, small, far, deep, at, start_is);
        high = omega (arith, high, at, start_is);
        room = omega (arith, kept, whole);
        registers = fits.registers;
      }

  enters : Enters (codes function).saved (codes function).size g
  enters = entering_enters (codes function).saved (codes function).size g can_enter

  abbrev pub t : Holding
  t = done_by_all (entering_code (codes function).saved (codes function).size) g

  abbrev pub now : ℕ → ℕ
  now = addresses_with addresses (length c.memory) (t.registers 2) (codes function)

  abbrev pub memory : Memory
  memory = c.memory ++ map (new_object (length (c.here ∷ c.waiting) + 1)) (codes function).graph.objects

  sp_is : t.registers 2 + (codes function).size ≡ h.registers 2
  sp_is = enters.by.sp ∙ same_sp

  sp_aligned : t.registers 2 % 4 ≡ 0
  sp_aligned = let a = all.here.aligned in let b = fits.aligned in let e = sp_is in omega (arith, a, b, e)

  t_map : t.regions ≡ map_of_unit u
  t_map = enters.by.map ∙ same_map ∙ all.here.map

  sp_low : stack_start (map_of_unit u) ≤ t.registers 2
  sp_low = let e = enters.by.sp in let low = can_enter.low in omega (arith, e, low, start_is)

  sp_high : t.registers 2 + (codes function).size ≤ stack_end (map_of_unit u)
  sp_high = let e = enters.by.sp in let high = can_enter.high in omega (arith, e, high, start_is)

  lies_above : (n : ℕ) (o : Object) → slice_get c.memory n ≡ Some o → o.live ≡ true → (addresses n + bytes_of o ≤ bytes_end (map_of_unit u)) ⊎ (t.registers 2 + (codes function).size ≤ addresses n)
  lies_above n o is live = subst (λ s. (addresses n + bytes_of o ≤ bytes_end (map_of_unit u)) ⊎ (s ≤ addresses n)) (sym sp_is) (all.below n o is live)

  -- Memory is as it was but in the frame.
  kept_memory : (b : ℕ) → (b < t.registers 2) ⊎ (t.registers 2 + (codes function).size ≤ b) → t.memory b ≡ h.memory b
  kept_memory b which =
      let kept = fits.kept in
      let whole = (fits.storage addresses []).room in
      enters.by.memory b (⊎_elim (λ (low : b < t.registers 2). inl low) (λ (high : t.registers 2 + (codes function).size ≤ b). inr (omega (arith, high, kept, whole))) which)
      ∙ ap (λ (m : ℕ → ℕ). m b) same_memory

  objects_kept : HoldsObjects now memory t.memory
  objects_kept =
      objects_new u (codes function) fits addresses c.memory (length (c.here ∷ c.waiting) + 1) (t.registers 2) h.memory t.memory sp_aligned sp_low sp_high all.here.laid lies_above all.here.objects
      (λ n o is live b low high. kept_memory b (⊎_elim (λ (static : addresses n + bytes_of o ≤ bytes_end (map_of_unit u)). inl (let far = sp_low in omega (arith, high, static, far, statics_below))) (λ (past : t.registers 2 + (codes function).size ≤ addresses n). inr (omega (arith, past, low))) (lies_above n o is live)))

  grown : Grown (map_of_unit u) addresses now c.memory memory (t.registers 2 + (codes function).size)
  grown = grown_new u (codes function) fits addresses c.memory (length (c.here ∷ c.waiting) + 1) (t.registers 2) h.memory t.memory sp_aligned sp_low sp_high all.here.laid lies_above

  found : (q : ℕ) → q ≢ 2 → q ≢ 4 → q ≢ 5 → t.registers q ≡ h.registers q
  found q n2 n4 n5 = enters.by.kept q n2 n5 ∙ same q n4

  -- The activation as it begins, before its parameters are bound.
  abbrev pub bare : Graph → Block → (wanted : Option ℕ) → Configuration
  bare graph b wanted = record {
    memory = memory;
    input = c.input;
    here = record {
      function = function;
      graph = graph;
      place = graph.entry;
      block = 0;
      names = λ x. Odd;
      shadows = λ x. shadow.Gone;
      first_object = length c.memory;
      rest = b.instructions;
      end = b.end;
      wants = None;
    };
    waiting = record c.here { wants = wanted } ∷ c.waiting;
  }

  new_own : (k : ℕ) → now (length c.memory + k) ≡ t.registers 2 + object_at (codes function).storage k
  new_own k =
      let back : length c.memory + k - length c.memory ≡ k = omega arith in
      ap (λ b. cond b (addresses (length c.memory + k)) (t.registers 2 + object_at (codes function).storage (length c.memory + k - length c.memory))) (le-ltb (length c.memory + k) (length c.memory) (omega arith))
      ∙ ap (λ n. t.registers 2 + object_at (codes function).storage n) back

  array_new : (n : ℕ) (all_bytes : List ℕ) → HasArray (setting_of u addresses [] (codes c.here.function)) c.memory h.memory n all_bytes → HasArray (setting_of u now [] (codes function)) memory t.memory n all_bytes
  array_new n all_bytes has =
      let e : array_bytes_at (codes c.here.function).storage n ≡ array_bytes_at (codes function).storage n = ap (λ l. slice_index l n) (share.arrays c.here.function function) in
      let high = has.high in
      let far = sp_low in
      record {
        aligned = ap (λ a. a % 4) (sym e) ∙ has.aligned;
        low = subst (λ a. bytes_start (map_of_unit u) ≤ a) e has.low;
        high = subst (λ a. a + 4 * words_of (length all_bytes) ≤ bytes_end (map_of_unit u)) e has.high;
        bytes = λ i lt. ap (λ a. t.memory (a + i)) (sym e) ∙ kept_memory (array_bytes_at (codes c.here.function).storage n + i) (inl (omega (arith, high, lt, far, statics_below))) ∙ has.bytes i lt;
        apart = λ k o is live. subst (λ a. (now k + 4 * words_of (bytes_of o) ≤ a) ⊎ (a + 4 * words_of (length all_bytes) ≤ now k)) e
            (⊎_elim
            (λ (both : WasThere c.memory k o × (now k ≡ addresses k)).
            subst (λ x. (x + 4 * words_of (bytes_of o) ≤ array_bytes_at (codes c.here.function).storage n) ⊎ (array_bytes_at (codes c.here.function).storage n + 4 * words_of (length all_bytes) ≤ x)) (sym both.1)
            (subst (λ size. (addresses k + 4 * words_of size ≤ array_bytes_at (codes c.here.function).storage n) ⊎ (array_bytes_at (codes c.here.function).storage n + 4 * words_of (length all_bytes) ≤ addresses k)) (sym both.0.bytes)
            (has.apart k both.0.object both.0.is (both.0.live live))))
            (λ (new : (length c.memory ≤ k) × (stack_start (map_of_unit u) ≤ now k) × (now k + bytes_of o ≤ t.registers 2 + (codes function).size)). inr (omega (arith, high, new.1, statics_below)))
            (grown.were k o is live));
      }

  bare_frame : (graph : Graph) (b : Block) (wanted : Option ℕ) → HoldsFrame (setting_of u now [] (codes function)) (bare graph b wanted) t
  bare_frame graph b wanted =
      let base : (codes c.here.function).storage.base ≡ (codes function).storage.base = share.base c.here.function function in
      record {
        fetch = record {
          fits = subst (λ x. x + 1 ≤ 4294967296) base all.here.fetch.fits;
          none = found 0 (λ e. cc) (λ e. cc) (λ e. cc) ∙ all.here.fetch.none;
          gp = found 3 (λ e. cc) (λ e. cc) (λ e. cc) ∙ all.here.fetch.gp ∙ base;
          all = tt;
          left = tt;
        };
        scratch = tt;
        aligned = sp_aligned;
        map = t_map;
        low = sp_low;
        high = sp_high;
        homes = λ home among. tt;
        objects = objects_kept;
        laid = laid_new u (codes function) fits addresses c.memory (length (c.here ∷ c.waiting) + 1) (t.registers 2) h.memory t.memory sp_aligned sp_low sp_high all.here.laid lies_above;
        free = free_new u (codes function) fits addresses c.memory (length (c.here ∷ c.waiting) + 1) (t.registers 2) h.memory t.memory sp_aligned sp_low sp_high all.here.laid lies_above (fits.storage addresses []).room;
        own = λ k lt. new_own k;
        static = λ n o is.
            let was = all.here.static n o is in
            ((grown.kept n _ was.0).0, (grown.kept n _ was.0).1 ∙ was.1 ∙ ap (λ l. slice_index l n) (share.statics c.here.function function));
        arrays = λ n all_bytes is. array_new n all_bytes (all.here.arrays n all_bytes is);
      }

  -- ---- Its parameters

  module _ (graph : Graph) (block : Block) (wanted : Option ℕ) (vs : List Value) (is_main : Bool) (given : AreGiven addresses c.memory h 0 vs) (many : length vs ≡ length (codes function).graph.parameters) (few : length (codes function).graph.parameters ≤ 8)
      (bindable : AreBindable (codes function).storage (codes function).graph (codes function).saved (codes function).graph.parameters) (resume : resumes (record c.here { wants = wanted }) index) where
    abbrev pub w : Setting
    w = setting_of u now [] (codes function)

    abbrev base : List MachineInstruction
    base = base_code is_main (codes function).storage.base

    abbrev bindings : List MachineInstruction
    bindings = bindings_code (codes function).storage (codes function).graph 0 (codes function).graph.parameters

    framed : HoldsFrame w (bare graph block wanted) t
    framed = bare_frame graph block wanted

    sets : Brings (base_code is_main (codes function).storage.base) t 3 3 (codes function).storage.base
    sets = base_set is_main (codes function).storage.base t (let fits_it = framed.fetch.fits in omega (arith, fits_it)) framed.fetch.none framed.fetch.gp

    abbrev pub t4 : Holding
    t4 = done_by_all (base_code is_main (codes function).storage.base) t

    frame4 : HoldsFrame w (bare graph block wanted) t4
    frame4 = frame_found w (bare graph block wanted) t t4 [] (sets.kept 0 (λ e. cc) (λ e. cc)) (sets.kept 2 (λ e. cc) (λ e. cc)) (sets.value ∙ sym framed.fetch.gp) (λ r is. sets.kept r (λ e. low_no_home 3 r (omega arith) is (sym e)) (home_no_scratch r is).1) (regions_stay (base_code is_main (codes function).storage.base) t) sets.memory tt tt framed

    given4 : AreGiven now memory t4 0 vs
    given4 = given_grown (map_of_unit u) addresses now c.memory memory (t.registers 2 + (codes function).size) h t4 0 vs (omega (arith, many, few)) grown
        (λ q least most. sets.kept q (λ e. omega (arith, least, e)) (λ e. omega (arith, least, e)) ∙ found q (λ e. omega (arith, least, e)) (λ e. omega (arith, least, e)) (λ e. omega (arith, least, e))) given

    in_room : HasRoom w
    in_room k m is = (let lies = fits.objects k m is in let start = lies.low in start, let lies = fits.objects k m is in let end = lies.high in omega (arith, end))

    binds : Binds w (codes function).saved (bindings_code (codes function).storage (codes function).graph 0 (codes function).graph.parameters) (bare graph block wanted) (all_bound w (codes function).graph.parameters vs (bare graph block wanted)) t4
    binds = all_bind w (codes function).saved (codes function).graph.parameters 0 vs (bare graph block wanted) t4 (fits.storage now []) in_room frame4
        (own_new u (codes function) fits addresses c.memory (length (c.here ∷ c.waiting) + 1) (t.registers 2) h.memory t.memory sp_aligned sp_low sp_high all.here.laid lies_above) (omega (arith, few)) many bindable given4

    abbrev pub t5 : Holding
    t5 = done_by_all (bindings_code (codes function).storage (codes function).graph 0 (codes function).graph.parameters) t4

    -- The activation with its parameters bound.
    abbrev pub bound_memory : Memory
    bound_memory = bind_objects (length c.memory) (map (placed_binding (home_at (codes function).storage)) (codes function).graph.parameters) vs memory

    abbrev pub begun_here : Configuration
    begun_here = record (bare graph block wanted) {
      memory = bound_memory;
      here = record (bare graph block wanted).here { names = bind_names (map (placed_binding (home_at (codes function).storage)) (codes function).graph.parameters) vs (λ x. Odd) };
    }

    is_begun : all_bound w (codes function).graph.parameters vs (bare graph block wanted) ≡ begun_here
    is_begun = bound_is w (codes function).graph.parameters vs (bare graph block wanted)

    frame5 : HoldsFrame w begun_here t5
    frame5 = subst (λ (q : Configuration). HoldsFrame w q t5) is_begun binds.frame

    those : AreThose memory bound_memory
    those = subst (λ (q : Configuration). AreThose memory q.memory) is_begun binds.those

    same_length : length bound_memory ≡ length memory
    same_length = subst (λ (q : Configuration). length q.memory ≡ length memory) is_begun binds.same

    grown5 : Grown (map_of_unit u) addresses now c.memory bound_memory (t.registers 2 + (codes function).size)
    grown5 = grown_then (map_of_unit u) addresses now c.memory memory bound_memory (t.registers 2 + (codes function).size) grown those same_length

    low5 : (q : ℕ) → q ≤ 4 → q ≢ 3 → t5.registers q ≡ t.registers q
    low5 q le n3 = binds.low q le ∙ sets.kept q n3 (λ e. omega (arith, le, e))

    sp5 : t5.registers 2 ≡ t.registers 2
    sp5 = low5 2 (omega arith) (λ e. cc)

    -- A byte that no older object has, above the frame or in static memory, no new one has either.
    no_new : (b : ℕ) → (h.registers 2 ≤ b) ⊎ (b < bytes_end (map_of_unit u)) → IsNoObject addresses c.memory b → IsNoObject now memory b
    no_new b which none n o is live = ⊎_elim
        (λ (both : WasThere c.memory n o × (now n ≡ addresses n)).
        subst (λ x. (b < x) ⊎ (x + 4 * words_of (bytes_of o) ≤ b)) (sym both.1) (subst (λ k. (b < addresses n) ⊎ (addresses n + 4 * words_of k ≤ b)) (sym both.0.bytes) (none n both.0.object both.0.is (both.0.live live))))
        (λ (new : (length c.memory ≤ n) × (stack_start (map_of_unit u) ≤ now n) × (now n + bytes_of o ≤ t.registers 2 + (codes function).size)).
        let whole = framed.laid.aligned n o is in
        let at = all.here.aligned in
        let top = sp_is in
        ⊎_elim (λ (above : h.registers 2 ≤ b). inr (omega (arith, new.2, whole, at, top, above))) (λ (static : b < bytes_end (map_of_unit u)). inl (omega (arith, new.1, static, statics_below))) which)
        (grown.were n o is live)

    above5 : (b : ℕ) → h.registers 2 ≤ b → IsNoObject addresses c.memory b → t5.memory b ≡ h.memory b
    above5 b le none =
        let top = sp_is in
        let room = (fits.storage now []).room in
        let at = sets.kept 2 (λ e. cc) (λ e. cc) in
        binds.memory b (inr (omega (arith, le, top, room, at)), no_new b (inl le) none) (inr (omega (arith, le, top, at))) ∙ ap (λ (m : ℕ → ℕ). m b) sets.memory ∙ kept_memory b (inr (omega (arith, le, top)))

    statics5 : (b : ℕ) → b < bytes_end (map_of_unit u) → IsNoObject addresses c.memory b → t5.memory b ≡ h.memory b
    statics5 b lt none =
        let far = sp_low in
        let at = sets.kept 2 (λ e. cc) (λ e. cc) in
        binds.memory b (inl (omega (arith, lt, far, at, statics_below)), no_new b (inr lt) none) (inl (omega (arith, lt, far, at, statics_below))) ∙ ap (λ (m : ℕ → ℕ). m b) sets.memory ∙ kept_memory b (inl (omega (arith, lt, far, statics_below)))

    -- The part of the frame that was written as it was made.
    made_kept : (b : ℕ) → t.registers 2 ≤ b → b < t.registers 2 + (4 + 4 * length (codes function).saved) → t5.memory b ≡ t.memory b
    made_kept b le lt =
        let room = fits.kept in
        let at = sets.kept 2 (λ e. cc) (λ e. cc) in
        binds.memory b (inl (omega (arith, lt, room, at)), low_no_object w (bare graph block wanted) t4 frame4 b (omega (arith, le, at)) (omega (arith, lt, room, at))) (inl (omega (arith, lt, room, at))) ∙ ap (λ (m : ℕ → ℕ). m b) sets.memory

    returns5 : word_at t5.memory (t5.registers 2) ≡ address_of index
    returns5 =
        ap (word_at t5.memory) sp5
        ∙ word_kept t.memory t5.memory (t.registers 2) (made_kept _ (omega arith) (omega arith)) (made_kept _ (omega arith) (omega arith)) (made_kept _ (omega arith) (omega arith)) (made_kept _ (omega arith) (omega arith))
        ∙ enters.by.returns ∙ same 1 (λ e. cc) ∙ ra

    have5 : AreSaved (codes function).saved (t5.registers 2 + 4) t5.memory h.registers
    have5 =
        subst (λ s. AreSaved (codes function).saved (s + 4) t5.memory h.registers) (sym sp5)
        (saved_there (codes function).saved (t.registers 2 + 4) t.memory t5.memory h.registers (λ b low high. made_kept b (omega (arith, low)) (omega (arith, high)))
        (saved_same (codes function).saved (t.registers 2 + 4) t.memory h.registers g.registers fits.registers (λ r is. same r (λ e. low_no_home 4 r (omega arith) is (sym e))) enters.by.have))

    home_found : (r : ℕ) → IsHomeRegister r → (behind_frame (codes function) t5).registers r ≡ h.registers r
    home_found r is =
        behind_other (codes function) t5 r (λ e. low_no_home 2 r (omega arith) is (sym e))
        ∙ restored_saved (codes function).saved (t5.registers 2 + 4) t5.memory h.registers t5.registers r fits.registers have5
        (⊎_elim
        (λ (e : t5.registers r ≡ t4.registers r). inl (e ∙ sets.kept r (λ z. low_no_home 3 r (omega arith) is (sym z)) (home_no_scratch r is).1 ∙ found r (home_no_scratch r is).0 (λ z. low_no_home 4 r (omega arith) is (sym z)) (home_no_scratch r is).1))
        (λ (among : Among r (codes function).saved). inr among)
        (binds.homes r is))

    sp_found : (behind_frame (codes function) t5).registers 2 ≡ h.registers 2
    sp_found = ap (λ s. s + (codes function).size) sp5 ∙ sp_is

    none_found : (behind_frame (codes function) t5).registers 0 ≡ h.registers 0
    none_found =
        behind_other (codes function) t5 0 (λ e. cc) ∙ restored_low (codes function).saved (t5.registers 2 + 4) t5.memory t5.registers 0 (omega arith) fits.registers ∙ low5 0 (omega arith) (λ e. cc)
        ∙ found 0 (λ e. cc) (λ e. cc) (λ e. cc)

    gp_found : (behind_frame (codes function) t5).registers 3 ≡ h.registers 3
    gp_found =
        behind_other (codes function) t5 3 (λ e. cc) ∙ restored_low (codes function).saved (t5.registers 2 + 4) t5.memory t5.registers 3 (omega arith) fits.registers ∙ binds.low 3 (omega arith) ∙ sets.value
        ∙ sym framed.fetch.gp ∙ found 3 (λ e. cc) (λ e. cc) (λ e. cc)

    caller_frame : HoldsFrame (setting_of u addresses [] (codes c.here.function)) (record { memory = c.memory; input = c.input; here = record c.here { wants = wanted }; waiting = c.waiting }) h
    caller_frame = record {
      fetch = all.here.fetch;
      scratch = all.here.scratch;
      aligned = all.here.aligned;
      map = all.here.map;
      low = all.here.low;
      high = all.here.high;
      homes = all.here.homes;
      objects = all.here.objects;
      laid = all.here.laid;
      free = all.here.free;
      own = all.here.own;
      static = all.here.static;
      arrays = all.here.arrays;
    }

    leaves : LeavesAbove (map_of_unit u) (codes c.here.function) addresses c.memory h (behind_frame (codes function) t5)
    leaves = record {
      map = frame5.map ∙ sym all.here.map;
      sp = sp_found;
      none = none_found;
      gp = gp_found;
      homes = λ r is. inl (home_found r is);
      kept = λ b low high. above5 b low (low_no_object (setting_of u addresses [] (codes c.here.function)) c h all.here b low (let room = (valid c.here.function).kept in omega (arith, high, room)));
      above = λ b low none. above5 b (omega (arith, low)) none;
      statics = statics5;
    }

    caller_waits : Waits codes u now resumes bound_memory c.input (codes function) (length c.memory) t5 (record c.here { wants = wanted }) c.waiting
    caller_waits = record {
      index = index;
      low = low_index;
      returns = returns5;
      code = resume;
      frame = frame_grown codes u valid addresses now resumes c.memory bound_memory (t.registers 2 + (codes function).size) grown5 frame5.laid (record c.here { wants = wanted }) c.waiting c.input c.input [] h (behind_frame (codes function) t5) caller_frame leaves.map sp_found none_found gp_found home_found above5 statics5
          (let top = sp_is in omega (arith, top)) all.objects frame5.objects;
      room = let top = sp_found in let room = all.room in omega (arith, top, room);
      objects = let most = all.objects in let longer = grown5.longer in omega (arith, most, longer);
      below = λ n o lt is live. ⊎_elim
          (λ (both : WasThere c.memory n o × (now n ≡ addresses n)).
          subst (λ s. (now n + bytes_of o ≤ bytes_end (map_of_unit u)) ⊎ (s ≤ now n)) (sym sp_found)
          (subst (λ x. (x + bytes_of o ≤ bytes_end (map_of_unit u)) ⊎ (h.registers 2 ≤ x)) (sym both.1) (subst (λ k. (addresses n + k ≤ bytes_end (map_of_unit u)) ⊎ (h.registers 2 ≤ addresses n)) (sym both.0.bytes) (all.below n both.0.object both.0.is (both.0.live live)))))
          (λ (new : (length c.memory ≤ n) × (stack_start (map_of_unit u) ≤ now n) × (now n + bytes_of o ≤ t.registers 2 + (codes function).size)). absurd (omega (arith, new.0, lt)))
          (grown5.were n o is live);
    }

    -- Behind all words the machine holds the activation that begins, and those that wait, the caller among them.
    pub begins : HoldsAll codes u now resumes [] begun_here t5
    begins = record {
      here = frame5;
      waiting = (
        caller_waits,
        waiting_kept codes u valid addresses now resumes c.memory bound_memory (t.registers 2 + (codes function).size) grown5 frame5.laid c.waiting (codes c.here.function) c.here.first_object h (behind_frame (codes function) t5) c.input c.input (valid c.here.function) leaves
            (let top = sp_is in omega (arith, top)) (let most = all.objects in omega (arith, most)) frame5.objects all.waiting,
      );
      depth = let tp = low5 4 (omega arith) (λ e. cc) in let tp2 = enters.by.kept 4 (λ e. cc) (λ e. cc) in let left = one_less in let was = all.depth in omega (arith, tp, tp2, left, was);
      room = let at = sp5 in let top = sp_is in let small = fits.small in let was = all.room in omega (arith, at, top, small, was);
      objects = let size = length-append c.memory (map (new_object (length (c.here ∷ c.waiting) + 1)) (codes function).graph.objects) in let each = length_mapped (new_object (length (c.here ∷ c.waiting) + 1)) (codes function).graph.objects in let whole = same_length in omega (arith, size, each, whole);
      input = binds.input ∙ sets.input ∙ enters.by.input ∙ same_input ∙ all.input;
      below = λ n o is live.
          let was : WasThere memory n o = those.were n o is in
          let lies = below_new u (codes function) fits addresses c.memory (length (c.here ∷ c.waiting) + 1) (t.registers 2) h.memory t.memory sp_aligned sp_low sp_high all.here.laid lies_above n was.object was.is (was.live live) in
          subst (λ s. (now n + bytes_of o ≤ bytes_end (map_of_unit u)) ⊎ (s ≤ now n)) (sym sp5) (subst (λ k. (now n + k ≤ bytes_end (map_of_unit u)) ⊎ (t.registers 2 ≤ now n)) (sym was.bytes) lies);
    }

    -- They can be done, and lead there.
    pub beginning_can : CanDoAll (beginning_behind (codes function).storage (codes function).graph (codes function).saved (codes function).size is_main) g × (done_by_all (beginning_behind (codes function).storage (codes function).graph (codes function).saved (codes function).size is_main) g ≡ t5)
    beginning_can =
        let entering = entering_code (codes function).saved (codes function).size in
        let one : done_by_all (entering ++ base) g ≡ t4 = done_by_both entering base g in
        (can_do_both (entering ++ base) bindings g (can_do_both entering base g enters.can sets.can) (subst (λ (q : Holding). CanDoAll bindings q) (sym one) binds.can), done_by_both (entering ++ base) bindings g ∙ ap (done_by_all bindings) one)
