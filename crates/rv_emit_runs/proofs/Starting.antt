-- Where a run begins the machine comes to hold the activation of main: the words before all functions set sp and tp and call it, and its own make its frame and set gp.
use Rattle.std.proofs.Common.{◌≡◌, ℕ, zero, suc, ◌+◌, ◌-◌, ◌*◌, ◌%◌, ◌<◌, ◌≤◌, ◌⊎◌, ⊎_elim, inl, inr, sym, ap, ◌∙◌, subst, arith, refl, Some, None, true, cond, List, [], ◌∷◌, ◌++◌, length, length-append, map, slice_get}
use Rattle.std.proofs.lemmas.Bool.{le-ltb}
use Rattle.memory_map.specs.Maps.{bytes_end, stack_start, stack_end, stub_words}
use Rattle.memory_map.proofs.Facts.{map_facts}
use Rattle.rv_emit_storage.specs.UnitMaps.{map_of_unit}
use Rattle.graph_core.specs.declared.value.Value.TheVariants.{Odd}
use Rattle.graph_core.specs.declared.value.Shadow.TheVariants as shadow
use Rattle.graph_core.specs.Graphs.{Block, Graph, UnitForm, StaticObject}
use Rattle.graph_core.specs.Values.{size_of}
use Rattle.graph_core.specs.Memory.{Memory, Object, bytes_of, words_of, static_bytes, static_objects, first_values, first_memory, new_object}
use Rattle.graph_core.specs.Runs.{Activation, Configuration}
use Rattle.rv_emit_storage.specs.Storages.{object_at, array_bytes_at}
use Rattle.rv_emit_steps.specs.Holding.{Holding, word_at}
use Rattle.rv_emit_steps.specs.Doing.{done_by_all, CanDoAll}
use Rattle.rv_emit_steps.specs.Programs.{address_of}
use Rattle.rv_emit_steps.proofs.Placing.{done_by_both, can_do_both, regions_stay}
use Rattle.rv_emit_steps.specs.EmitMovesDoing.{Brings}
use Rattle.rv_emit_steps.specs.Meaning.{size_at, HoldsObjects}
use Rattle.rv_emit_steps.specs.Frames.{HasArray, HoldsFrame}
use Rattle.rv_emit_steps.proofs.Limits.{constant_alone}
use Rattle.rv_emit_steps.proofs.Objects.{WasThere}
use Rattle.rv_emit_code.specs.Beginning.{base_code, entering_code}
use Rattle.rv_emit_runs.specs.Loaded.{IsLoaded}
use Rattle.rv_emit_runs.specs.Waiting.{FunctionCode, IsFunctionCode, setting_of, HoldsAll}
use Rattle.rv_emit_runs.proofs.Beginning.{length_mapped}
use Rattle.rv_emit_runs.proofs.Entering.{Enters, CanEnter, entering_enters}
use Rattle.rv_emit_runs.proofs.Growing.{addresses_with, grown_new, laid_new, objects_new, below_new, free_new}
use Rattle.rv_emit_runs.proofs.Outer.{Grown}

-- ---- Static memory

-- A static object has as many bytes as its elements take.
first_length : (statics : List StaticObject) (o : StaticObject) (i n : ℕ) → length (first_values statics o i n) ≡ n
first_length statics o i zero = refl
first_length statics o i (suc n) = let same = first_length statics o (i + 1) n in omega (arith, same)

static_size : (statics all : List StaticObject) (k n : ℕ) (o : StaticObject) → slice_get all n ≡ Some o → size_at (static_objects statics k all) n ≡ Some (static_bytes o)
static_size statics [] k n o e = cc
static_size statics (x ∷ all) k zero o e =
    let same : x ≡ o = cc in
    ap (λ c. Some (c * size_of x.element)) (first_length statics x 0 x.count) ∙ ap (λ (z : StaticObject). Some (static_bytes z)) same
static_size statics (x ∷ all) k (suc n) o e = static_size statics all (k + 1) n o e

-- ---- main begins

-- What the machine holds where the words before all functions begin: nothing but static memory and the input is looked at.
module _ (codes : ℕ → FunctionCode) (u : UnitForm) (valid : (k : ℕ) → IsFunctionCode u (codes k)) (addresses : ℕ → ℕ) (resumes : Activation → ℕ → Type 0) (h : Holding) (input : List ℕ) (same_input : h.input ≡ input) (loaded : IsLoaded u (codes u.main).storage addresses h.memory)
    (same_map : h.regions ≡ map_of_unit u) (zero_is : h.registers 0 ≡ 0) (sp_is : h.registers 2 ≡ stack_end (map_of_unit u)) (ra : h.registers 1 ≡ address_of (stub_words (map_of_unit u) - 2)) (tp : h.registers 4 ≡ 1023) (words : (q : ℕ) → h.registers q < 4294967296) where
  abbrev pub f : FunctionCode
  f = codes u.main

  fits : IsFunctionCode u (codes u.main)
  fits = valid u.main

  -- The regions are those of the unit.
  start_is : stack_start h.regions ≡ stack_start (map_of_unit u)
  start_is = ap (λ m. stack_start m) same_map

  statics_below : bytes_end (map_of_unit u) ≤ stack_start (map_of_unit u)
  statics_below = (map_facts (map_of_unit u)).apart

  stack_whole : stack_end (map_of_unit u) % 4096 ≡ 0
  stack_whole = (map_facts (map_of_unit u)).frames

  can_enter : CanEnter (codes u.main).saved (codes u.main).size h
  can_enter =
      let small = fits.small in
      let whole = (fits.storage addresses []).room in
      let kept = fits.kept in
      record {
        words = words;
        none = zero_is;
        aligned = omega (arith, sp_is, stack_whole);
        whole = fits.aligned;
        low = omega (arith, sp_is, small, start_is);
        high = omega (arith, sp_is, start_is);
        room = omega (arith, kept, whole);
        registers = fits.registers;
      }

  enters : Enters (codes u.main).saved (codes u.main).size h
  enters = entering_enters (codes u.main).saved (codes u.main).size h can_enter

  abbrev pub t : Holding
  t = done_by_all (entering_code (codes u.main).saved (codes u.main).size) h

  abbrev pub old : Memory
  old = first_memory u.statics

  abbrev pub now : ℕ → ℕ
  now = addresses_with addresses (length (first_memory u.statics)) (t.registers 2) (codes u.main)

  abbrev pub memory : Memory
  memory = first_memory u.statics ++ map (new_object 1) (codes u.main).graph.objects

  top : t.registers 2 + (codes u.main).size ≡ stack_end (map_of_unit u)
  top = enters.by.sp ∙ sp_is

  aligned : t.registers 2 % 4 ≡ 0
  aligned = let a = top in let b = fits.aligned in omega (arith, a, b, stack_whole)

  low : stack_start (map_of_unit u) ≤ t.registers 2
  low = let a = top in let small = fits.small in omega (arith, a, small)

  high : t.registers 2 + (codes u.main).size ≤ stack_end (map_of_unit u)
  high = let a = top in omega (arith, a)

  lies : (n : ℕ) (o : Object) → slice_get (first_memory u.statics) n ≡ Some o → o.live ≡ true → (addresses n + bytes_of o ≤ bytes_end (map_of_unit u)) ⊎ (t.registers 2 + (codes u.main).size ≤ addresses n)
  lies n o is live = inl (loaded.static n o is)

  kept_memory : (b : ℕ) → b < bytes_end (map_of_unit u) → t.memory b ≡ h.memory b
  kept_memory b lt = enters.by.memory b (inl (let far = low in omega (arith, lt, far, statics_below)))

  objects_kept : HoldsObjects now memory t.memory
  objects_kept = objects_new u (codes u.main) fits addresses (first_memory u.statics) 1 (t.registers 2) h.memory t.memory aligned low high loaded.laid lies loaded.objects
      (λ n o is live b least most. kept_memory b (let static = loaded.static n o is in omega (arith, most, static)))

  grown : Grown (map_of_unit u) addresses now (first_memory u.statics) memory (t.registers 2 + (codes u.main).size)
  grown = grown_new u (codes u.main) fits addresses (first_memory u.statics) 1 (t.registers 2) h.memory t.memory aligned low high loaded.laid lies

  sets : Brings (base_code true (codes u.main).storage.base) t 3 3 (codes u.main).storage.base
  sets = constant_alone t 3 (codes u.main).storage.base (omega arith) (let base = loaded.fits in omega (arith, base)) (enters.by.kept 0 (λ e. cc) (λ e. cc) ∙ zero_is)

  abbrev pub t4 : Holding
  t4 = done_by_all (base_code true (codes u.main).storage.base) t

  sp4 : t4.registers 2 ≡ t.registers 2
  sp4 = sets.kept 2 (λ e. cc) (λ e. cc)

  new_own : (k : ℕ) → now (length (first_memory u.statics) + k) ≡ t.registers 2 + object_at (codes u.main).storage k
  new_own k =
      let back : length (first_memory u.statics) + k - length (first_memory u.statics) ≡ k = omega arith in
      ap (λ b. cond b (addresses (length (first_memory u.statics) + k)) (t.registers 2 + object_at (codes u.main).storage (length (first_memory u.statics) + k - length (first_memory u.statics)))) (le-ltb (length (first_memory u.statics) + k) (length (first_memory u.statics)) (omega arith))
      ∙ ap (λ n. t.registers 2 + object_at (codes u.main).storage n) back

  array_new : (n : ℕ) (all : List ℕ) → slice_get u.array_bytes n ≡ Some all → HasArray (setting_of u now [] (codes u.main)) memory t4.memory n all
  array_new n all is =
      let has : HasArray (setting_of u addresses [] (codes u.main)) (first_memory u.statics) h.memory n all = loaded.arrays (setting_of u addresses [] (codes u.main)) refl refl refl n all is in
      let end = has.high in
      record {
        aligned = has.aligned;
        low = has.low;
        high = has.high;
        bytes = λ i lt. ap (λ (m : ℕ → ℕ). m (array_bytes_at (codes u.main).storage n + i)) sets.memory ∙ kept_memory (array_bytes_at (codes u.main).storage n + i) (omega (arith, end, lt)) ∙ has.bytes i lt;
        apart = λ k o there live. ⊎_elim
            (λ (both : WasThere (first_memory u.statics) k o × (now k ≡ addresses k)).
            subst (λ x. (x + 4 * words_of (bytes_of o) ≤ array_bytes_at (codes u.main).storage n) ⊎ (array_bytes_at (codes u.main).storage n + 4 * words_of (length all) ≤ x)) (sym both.1)
            (subst (λ size. (addresses k + 4 * words_of size ≤ array_bytes_at (codes u.main).storage n) ⊎ (array_bytes_at (codes u.main).storage n + 4 * words_of (length all) ≤ addresses k)) (sym both.0.bytes)
            (has.apart k both.0.object both.0.is (both.0.live live))))
            (λ (new : (length (first_memory u.statics) ≤ k) × (stack_start (map_of_unit u) ≤ now k) × (now k + bytes_of o ≤ t.registers 2 + (codes u.main).size)). inr (omega (arith, end, new.1, statics_below)))
            (grown.were k o there live);
      }

  -- main as it begins; it has no parameters.
  module _ (graph : Graph) (block : Block) where
    abbrev pub first : Configuration
    first = record {
      memory = memory;
      input = input;
      here = record {
        function = u.main;
        graph = graph;
        place = graph.entry;
        block = 0;
        names = λ x. Odd;
        shadows = λ x. shadow.Gone;
        first_object = length (first_memory u.statics);
        rest = block.instructions;
        end = block.end;
        wants = None;
      };
      waiting = [];
    }

    first_frame : HoldsFrame (setting_of u now [] (codes u.main)) first t4
    first_frame = record {
      fetch = record { fits = loaded.fits; none = sets.kept 0 (λ e. cc) (λ e. cc) ∙ enters.by.kept 0 (λ e. cc) (λ e. cc) ∙ zero_is; gp = sets.value; all = tt; left = tt };
      scratch = tt;
      aligned = ap (λ s. s % 4) sp4 ∙ aligned;
      map = regions_stay (base_code true (codes u.main).storage.base) t ∙ enters.by.map ∙ same_map;
      low = subst (λ s. stack_start (map_of_unit u) ≤ s) (sym sp4) low;
      high = subst (λ s. s + (codes u.main).size ≤ stack_end (map_of_unit u)) (sym sp4) high;
      homes = λ home among. tt;
      objects = subst (λ (m : ℕ → ℕ). HoldsObjects now memory m) (sym sets.memory) objects_kept;
      laid = laid_new u (codes u.main) fits addresses (first_memory u.statics) 1 (t.registers 2) h.memory t.memory aligned low high loaded.laid lies;
      free = λ n o is live.
          subst (λ s. (now n + bytes_of o ≤ s) ⊎ (s + ((codes u.main).storage.slots + 4 * (codes u.main).slots) ≤ now n)) (sym sp4)
          (free_new u (codes u.main) fits addresses (first_memory u.statics) 1 (t.registers 2) h.memory t.memory aligned low high loaded.laid lies (fits.storage addresses []).room n o is live);
      own = λ k lt. new_own k ∙ ap (λ s. s + object_at (codes u.main).storage k) (sym sp4);
      static = λ n o is.
          let kept = grown.kept n (static_bytes o) (static_size u.statics u.statics 0 n o is) in
          (kept.0, kept.1 ∙ loaded.at n o is);
      arrays = array_new;
    }

    -- The machine holds it, and no other waits.
    pub starts : HoldsAll codes u now resumes [] first t4
    starts = record {
      here = first_frame;
      waiting = (
        ap (word_at t4.memory) sp4 ∙ ap (λ (m : ℕ → ℕ). word_at m (t.registers 2)) sets.memory ∙ enters.by.returns ∙ ra,
        ap (λ s. s + (codes u.main).size) sp4 ∙ top,
      );
      depth = let a = sets.kept 4 (λ e. cc) (λ e. cc) in let b = enters.by.kept 4 (λ e. cc) (λ e. cc) in omega (arith, a, b, tp);
      room = let a = sp4 in let b = top in let small = fits.small in omega (arith, a, b, small);
      objects = let size = length-append (first_memory u.statics) (map (new_object 1) (codes u.main).graph.objects) in let each = length_mapped (new_object 1) (codes u.main).graph.objects in omega (arith, size, each);
      input = sets.input ∙ enters.by.input ∙ same_input;
      below = λ n o is live.
          subst (λ s. (now n + bytes_of o ≤ bytes_end (map_of_unit u)) ⊎ (s ≤ now n)) (sym sp4) (below_new u (codes u.main) fits addresses (first_memory u.statics) 1 (t.registers 2) h.memory t.memory aligned low high loaded.laid lies n o is live);
    }

    -- The words can be done, and lead there.
    pub starting_can : CanDoAll (entering_code (codes u.main).saved (codes u.main).size ++ base_code true (codes u.main).storage.base) h
        × (done_by_all (entering_code (codes u.main).saved (codes u.main).size ++ base_code true (codes u.main).storage.base) h ≡ t4)
    starting_can =
        let entering = entering_code (codes u.main).saved (codes u.main).size in
        let base = base_code true (codes u.main).storage.base in
        (can_do_both entering base h enters.can sets.can, done_by_both entering base h)
