-- Frames of activations that wait stand as they stood where nothing writes them: behind steps of the innermost one, calls and returns.
use Rattle.std.proofs.Common.{◌≡◌, ◌≢◌, ℕ, ◌+◌, ◌*◌, ◌%◌, ◌<◌, ◌≤◌, ◌⊎◌, ⊎_elim, inl, inr, sym, ap, ◌∙◌, subst, arith, Some, true, List, [], ◌∷◌, length, slice_get}
use Rattle.std.proofs.lemmas.Bool.{cases_eq}
use Rattle.memory_map.specs.declared.map.Map.{Map}
use Rattle.memory_map.specs.Maps.{bytes_end, stack_start, stack_end}
use Rattle.memory_map.proofs.Facts.{map_facts}
use Rattle.rv_emit_storage.specs.UnitMaps.{map_of_unit}
use Rattle.graph_core.specs.declared.value.Value.{Value}
use Rattle.graph_core.specs.declared.value.Value.TheVariants.{Number, Pointer, Odd}
use Rattle.graph_core.specs.Graphs.{UnitForm}
use Rattle.graph_core.specs.Memory.{Memory, Object, bytes_of, words_of}
use Rattle.graph_core.specs.Paths.{Among}
use Rattle.graph_core.specs.Runs.{Activation}
use Rattle.graph_homes.specs.declared.home.Home.{Home}
use Rattle.graph_homes.specs.declared.home.Home.TheVariants.{Register, Slot}
use Rattle.graph_homes.specs.Homed.{IsHomeRegister, IsHomeAmong, home_number}
use Rattle.rv_emit_words.specs.declared.piece.Held.{Held}
use Rattle.rv_emit_storage.specs.Storages.{slot_at, object_at, array_bytes_at}
use Rattle.rv_emit_steps.specs.Holding.{Holding, word_at}
use Rattle.rv_emit_steps.specs.EmitMovesDoing.{value_of_home}
use Rattle.rv_emit_steps.specs.Meaning.{size_at, Means, HoldsObjects, AreLaid}
use Rattle.rv_emit_steps.specs.Frames.{Setting, HasArray, HoldsFrame}
use Rattle.rv_emit_steps.proofs.Arrays.{array_apart}
use Rattle.rv_emit_steps.proofs.Elements.{word_kept}
use Rattle.rv_emit_steps.proofs.Homes.{slot_is}
use Rattle.rv_emit_steps.proofs.Objects.{WasThere}
use Rattle.rv_emit_runs.specs.Waiting.{FunctionCode, IsFunctionCode, setting_of, restored, behind_frame, Waits, HoldsWaiting}
use Rattle.rv_emit_runs.proofs.Restoring.{low_no_home, restored_low, restored_agree, behind_other}

-- A byte lies in no word of a live object.
abbrev pub IsNoObject : (addresses : ℕ → ℕ) → Memory → (address : ℕ) → Type 0
IsNoObject addresses memory b = (n : ℕ) (o : Object) → slice_get memory n ≡ Some o → o.live ≡ true → (b < addresses n) ⊎ (addresses n + 4 * words_of (bytes_of o) ≤ b)

-- The objects of a later memory: those that there were lie where they lay, with as many bytes, and live if they lived; new ones that live lie in the stack, below an address.
pub record Grown (regions : Map) (addresses after : ℕ → ℕ) (memory later : Memory) (limit : ℕ) : Type 0 where
  pub longer : length memory ≤ length later
  pub lie : (n : ℕ) → n < length memory → after n ≡ addresses n
  pub kept : (n size : ℕ) → size_at memory n ≡ Some size → (size_at later n ≡ Some size) × (after n ≡ addresses n)
  pub were : (n : ℕ) (o : Object) → slice_get later n ≡ Some o → o.live ≡ true → (WasThere memory n o × (after n ≡ addresses n)) ⊎ ((length memory ≤ n) × (stack_start regions ≤ after n) × (after n + bytes_of o ≤ limit))

-- What waits above a frame does not change between two times: sp, x0 and gp are the same, and home registers that the frame does not keep; so are the return address and what it keeps; and
-- memory is above it and in static memory, but for objects. The regions lie where they lay.
pub record LeavesAbove (regions : Map) (f : FunctionCode) (addresses : ℕ → ℕ) (memory : Memory) (h t : Holding) : Type 0 where
  pub map : t.regions ≡ h.regions
  pub sp : t.registers 2 ≡ h.registers 2
  pub none : t.registers 0 ≡ h.registers 0
  pub gp : t.registers 3 ≡ h.registers 3
  pub homes : (r : ℕ) → IsHomeRegister r → (t.registers r ≡ h.registers r) ⊎ Among r f.saved
  pub kept : (b : ℕ) → h.registers 2 ≤ b → b < h.registers 2 + (4 + 4 * length f.saved) → t.memory b ≡ h.memory b
  pub above : (b : ℕ) → h.registers 2 + f.size ≤ b → IsNoObject addresses memory b → t.memory b ≡ h.memory b
  pub statics : (b : ℕ) → b < bytes_end regions → IsNoObject addresses memory b → t.memory b ≡ h.memory b

pub means_grown : (regions : Map) (addresses after : ℕ → ℕ) (memory later : Memory) (limit : ℕ) → Grown regions addresses after memory later limit → (v : Value) (x : ℕ) → Means addresses memory v x → Means after later v x
means_grown regions addresses after memory later limit grown (Number n) x means = means
means_grown regions addresses after memory later limit grown (Pointer object size offset) x (at, le, is) =
    let both = grown.kept object size at in
    (both.0, le, is ∙ ap (λ a. a + offset) (sym both.1))
means_grown regions addresses after memory later limit grown Odd x means = tt

-- ---- A frame that nothing writes

module _ (codes : ℕ → FunctionCode) (u : UnitForm) (valid : (k : ℕ) → IsFunctionCode u (codes k)) (addresses after : ℕ → ℕ) (resumes : Activation → ℕ → Type 0) (memory later : Memory) (limit : ℕ) (grown : Grown (map_of_unit u) addresses after memory later limit)
    (laid : AreLaid (map_of_unit u) after later) where
  -- The frame of an activation at one time and at another, with registers and memory that are the same where it looks.
  module _ (a : Activation) (waiting : List Activation) (input output : List ℕ) (held : List Held) (h t : Holding) (old : HoldsFrame (setting_of u addresses held (codes a.function)) (record { memory = memory; input = input; here = a; waiting = waiting }) h)
      (same_map : t.regions ≡ h.regions) (sp : t.registers 2 ≡ h.registers 2) (none : t.registers 0 ≡ h.registers 0) (gp : t.registers 3 ≡ h.registers 3) (homes : (r : ℕ) → IsHomeRegister r → t.registers r ≡ h.registers r)
      (above : (b : ℕ) → h.registers 2 ≤ b → IsNoObject addresses memory b → t.memory b ≡ h.memory b) (statics : (b : ℕ) → b < bytes_end (map_of_unit u) → IsNoObject addresses memory b → t.memory b ≡ h.memory b) where
    abbrev f : FunctionCode
    f = codes a.function

    abbrev w : Setting
    w = setting_of u addresses held (codes a.function)

    abbrev next : Setting
    next = setting_of u after [] (codes a.function)

    -- A byte of the part of its frame below its objects is in no object.
    no_object : (b : ℕ) → h.registers 2 ≤ b → b < h.registers 2 + (f.storage.slots + 4 * f.slots) → IsNoObject addresses memory b
    no_object b low high n o is live =
        let an : addresses n % 4 ≡ 0 = old.laid.aligned n o is in
        let at : h.registers 2 % 4 ≡ 0 = old.aligned in
        ⊎_elim
        (λ (below : addresses n + bytes_of o ≤ h.registers 2). inr (omega (arith, an, at, below, low)))
        (λ (past : h.registers 2 + (f.storage.slots + 4 * f.slots) ≤ addresses n). inl (omega (arith, past, high)))
        (old.free n o is live)

    pub low_part_kept : (b : ℕ) → h.registers 2 ≤ b → b < h.registers 2 + (f.storage.slots + 4 * f.slots) → t.memory b ≡ h.memory b
    low_part_kept b low high = above b low (no_object b low high)

    -- The word of a slot.
    slot_kept : (k : ℕ) → k < f.slots → word_at t.memory (t.registers 2 + slot_at w.storage k) ≡ word_at h.memory (h.registers 2 + slot_at w.storage k)
    slot_kept k lt =
        let is : slot_at w.storage k ≡ w.storage.slots + 4 * k = slot_is w (record { memory = memory; input = input; here = a; waiting = waiting }) h k ((valid a.function).storage addresses held) old lt in
        ap (λ s. word_at t.memory (s + slot_at w.storage k)) sp
        ∙ word_kept h.memory t.memory (h.registers 2 + slot_at w.storage k)
        (low_part_kept _ (omega arith) (omega (arith, is, lt))) (low_part_kept _ (omega arith) (omega (arith, is, lt)))
        (low_part_kept _ (omega arith) (omega (arith, is, lt))) (low_part_kept _ (omega arith) (omega (arith, is, lt)))

    home_kept : (home : Home) → IsHomeAmong f.slots home → value_of_home next.storage t home ≡ value_of_home w.storage h home
    home_kept (Register r) among = homes r among
    home_kept (Slot k) lt = slot_kept k lt

    array_kept : (n : ℕ) (all : List ℕ) → HasArray w memory h.memory n all → HasArray next later t.memory n all
    array_kept n all has = record {
      aligned = has.aligned;
      low = has.low;
      high = has.high;
      bytes = λ i lt.
          statics (array_bytes_at w.storage n + i) (let high = has.high in omega (arith, high, lt))
          (λ k o is live. array_apart w memory h.memory n all k o has is live (array_bytes_at w.storage n + i) (omega arith) (omega (arith, lt)))
          ∙ has.bytes i lt;
      apart = λ k o is live. ⊎_elim
          (λ (both : WasThere memory k o × (after k ≡ addresses k)).
          subst (λ x. (x + 4 * words_of (bytes_of o) ≤ array_bytes_at w.storage n) ⊎ (array_bytes_at w.storage n + 4 * words_of (length all) ≤ x)) (sym both.1)
          (subst (λ size. (addresses k + 4 * words_of size ≤ array_bytes_at w.storage n) ⊎ (array_bytes_at w.storage n + 4 * words_of (length all) ≤ addresses k)) (sym both.0.bytes)
          (has.apart k both.0.object both.0.is (both.0.live live))))
          (λ (new : (length memory ≤ k) × (stack_start (map_of_unit u) ≤ after k) × (after k + bytes_of o ≤ limit)). inr (let high = has.high in omega (arith, high, new.1, (map_facts (map_of_unit u)).apart)))
          (grown.were k o is live);
    }

    pub frame_grown : limit ≤ h.registers 2 → a.first_object + length f.graph.objects ≤ length memory → HoldsObjects after later t.memory → HoldsFrame next (record { memory = later; input = output; here = a; waiting = waiting }) t
    frame_grown below many objects = record {
      fetch = record { fits = old.fetch.fits; none = none ∙ old.fetch.none; gp = gp ∙ old.fetch.gp; all = tt; left = tt };
      scratch = tt;
      aligned = ap (λ s. s % 4) sp ∙ old.aligned;
      map = same_map ∙ old.map;
      low = subst (λ s. stack_start (map_of_unit u) ≤ s) (sym sp) old.low;
      high = subst (λ s. s + f.size ≤ stack_end (map_of_unit u)) (sym sp) old.high;
      homes = λ home among.
          subst (λ x. Means after later (a.names (home_number home)) x) (sym (home_kept home among)) (means_grown (map_of_unit u) addresses after memory later limit grown _ _ (old.homes home among));
      objects = objects;
      laid = laid;
      free = λ n o is live. ⊎_elim
          (λ (both : WasThere memory n o × (after n ≡ addresses n)).
          subst (λ s. (after n + bytes_of o ≤ s) ⊎ (s + (f.storage.slots + 4 * f.slots) ≤ after n)) (sym sp)
          (subst (λ x. (x + bytes_of o ≤ h.registers 2) ⊎ (h.registers 2 + (f.storage.slots + 4 * f.slots) ≤ x)) (sym both.1)
          (subst (λ k. (addresses n + k ≤ h.registers 2) ⊎ (h.registers 2 + (f.storage.slots + 4 * f.slots) ≤ addresses n)) (sym both.0.bytes)
          (old.free n both.0.object both.0.is (both.0.live live)))))
          (λ (new : (length memory ≤ n) × (stack_start (map_of_unit u) ≤ after n) × (after n + bytes_of o ≤ limit)). inl (omega (arith, new.2, below, sp)))
          (grown.were n o is live);
      own = λ k lt. grown.lie (a.first_object + k) (omega (arith, many, lt)) ∙ old.own k lt ∙ ap (λ s. s + object_at w.storage k) (sym sp);
      static = λ n o is. ((grown.kept n _ (old.static n o is).0).0, (grown.kept n _ (old.static n o is).0).1 ∙ (old.static n o is).1);
      arrays = λ n all is. array_kept n all (old.arrays n all is);
    }

  -- ---- One frame above another

  module _ (f : FunctionCode) (fits : IsFunctionCode u f) (h t : Holding) (leaves : LeavesAbove (map_of_unit u) f addresses memory h t) where
    -- What is found again is the same.
    found_low : (q : ℕ) → q ≤ 4 → t.registers q ≡ h.registers q → (behind_frame f t).registers q ≡ (behind_frame f h).registers q
    found_low q low e = ⊎_elim
        (λ (is : q ≡ 2). subst (λ z. (behind_frame f t).registers z ≡ (behind_frame f h).registers z) (sym is) (ap (λ s. s + f.size) leaves.sp))
        (λ (other : q ≢ 2). behind_other f t q other ∙ restored_low f.saved (t.registers 2 + 4) t.memory t.registers q low fits.registers ∙ e ∙ sym (restored_low f.saved (h.registers 2 + 4) h.memory h.registers q low fits.registers) ∙ sym (behind_other f h q other))
        (cases_eq q 2)

    found_home : (r : ℕ) → IsHomeRegister r → (behind_frame f t).registers r ≡ (behind_frame f h).registers r
    found_home r is =
        let other : r ≢ 2 = λ e. low_no_home 2 r (omega arith) is (sym e) in
        behind_other f t r other ∙ ap (λ s. restored f.saved (s + 4) t.memory t.registers r) leaves.sp
        ∙ restored_agree f.saved (h.registers 2 + 4) h.memory t.memory h.registers t.registers r fits.registers (λ b low high. leaves.kept b (omega (arith, low)) (omega (arith, high))) (leaves.homes r is)
        ∙ sym (behind_other f h r other)

    -- The activation that it returns to.
    module _ (first : ℕ) (a : Activation) (waiting : List Activation) (input output : List ℕ) (wait : Waits codes u addresses resumes memory input f first h a waiting) where
      behind_sp : (behind_frame f t).registers 2 ≡ (behind_frame f h).registers 2
      behind_sp = ap (λ s. s + f.size) leaves.sp

      -- What waits above that does not change either.
      leaves_next : LeavesAbove (map_of_unit u) (codes a.function) addresses memory (behind_frame f h) (behind_frame f t)
      leaves_next = record {
        map = leaves.map;
        sp = behind_sp;
        none = found_low 0 (omega arith) leaves.none;
        gp = found_low 3 (omega arith) leaves.gp;
        homes = λ r is. inl (found_home r is);
        kept = λ b low high. low_part_kept a waiting input output [] (behind_frame f h) (behind_frame f t) wait.frame leaves.map behind_sp (found_low 0 (omega arith) leaves.none) (found_low 3 (omega arith) leaves.gp) found_home leaves.above leaves.statics b low (let room = (valid a.function).kept in omega (arith, high, room));
        above = λ b low none. leaves.above b (omega (arith, low)) none;
        statics = leaves.statics;
      }

      waits_kept : limit ≤ h.registers 2 + f.size → first ≤ length memory → HoldsObjects after later t.memory → Waits codes u after resumes later output f first t a waiting
      waits_kept limited most objects =
          let same = leaves.sp in
          record {
            index = wait.index;
            low = wait.low;
            returns = ap (λ s. word_at t.memory s) leaves.sp
                ∙ word_kept h.memory t.memory (h.registers 2) (leaves.kept _ (omega arith) (omega arith)) (leaves.kept _ (omega arith) (omega arith)) (leaves.kept _ (omega arith) (omega arith)) (leaves.kept _ (omega arith) (omega arith))
                ∙ wait.returns;
            code = wait.code;
            frame = frame_grown a waiting input output [] (behind_frame f h) (behind_frame f t) wait.frame leaves.map behind_sp (found_low 0 (omega arith) leaves.none) (found_low 3 (omega arith) leaves.gp) found_home leaves.above leaves.statics limited wait.objects objects;
            room = let room = wait.room in omega (arith, room, same);
            objects = let many = wait.objects in let more = grown.longer in omega (arith, many, more);
            below = λ n o lt is live. ⊎_elim
                (λ (both : WasThere memory n o × (after n ≡ addresses n)).
                subst (λ s. (after n + bytes_of o ≤ bytes_end (map_of_unit u)) ⊎ (s + f.size ≤ after n)) (sym same)
                (subst (λ x. (x + bytes_of o ≤ bytes_end (map_of_unit u)) ⊎ (h.registers 2 + f.size ≤ x)) (sym both.1)
                (subst (λ k. (addresses n + k ≤ bytes_end (map_of_unit u)) ⊎ (h.registers 2 + f.size ≤ addresses n)) (sym both.0.bytes) (wait.below n both.0.object lt both.0.is (both.0.live live)))))
                (λ (new : (length memory ≤ n) × (stack_start (map_of_unit u) ≤ after n) × (after n + bytes_of o ≤ limit)). absurd (omega (arith, new.0, lt, most)))
                (grown.were n o is live);
          }

  -- All of them stand as they stood.
  pub waiting_kept : (waiting : List Activation) (f : FunctionCode) (first : ℕ) (h t : Holding) (input output : List ℕ) → IsFunctionCode u f → LeavesAbove (map_of_unit u) f addresses memory h t → limit ≤ h.registers 2 + f.size → first ≤ length memory → HoldsObjects after later t.memory
      → HoldsWaiting codes u addresses resumes memory input f first h waiting → HoldsWaiting codes u after resumes later output f first t waiting
  waiting_kept [] f first h t input output fits leaves limited most objects (returns, top) =
      let same = leaves.sp in (
        ap (λ s. word_at t.memory s) leaves.sp
            ∙ word_kept h.memory t.memory (h.registers 2) (leaves.kept _ (omega arith) (omega arith)) (leaves.kept _ (omega arith) (omega arith)) (leaves.kept _ (omega arith) (omega arith)) (leaves.kept _ (omega arith) (omega arith))
            ∙ returns,
        omega (arith, top, same),
      )
  waiting_kept (a ∷ waiting) f first h t input output fits leaves limited most objects (wait, rest) = (
    waits_kept f fits h t leaves first a waiting input output wait limited most objects,
    waiting_kept waiting (codes a.function) a.first_object (behind_frame f h) (behind_frame f t) input output (valid a.function) (leaves_next f fits h t leaves first a waiting input output wait) (omega (arith, limited)) (let many = wait.objects in omega (arith, many)) objects rest,
  )
