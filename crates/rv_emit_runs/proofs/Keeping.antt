-- Behind a step of the innermost activation the machine holds all activations.
use Rattle.std.proofs.Common.{◌≡◌, ◌≢◌, ℕ, ◌+◌, ◌*◌, ◌%◌, ◌<◌, ◌≤◌, ◌⊎◌, ⊎_elim, inl, inr, sym, ap, ◌∙◌, subst, arith, refl, Option, Some, None, List, [], length}
use Rattle.std.proofs.lemmas.Bool.{cases_eq}
use Rattle.memory_map.specs.declared.map.Map.{Map}
use Rattle.memory_map.specs.Maps.{bytes_end, stack_end}
use Rattle.memory_map.proofs.Facts.{map_facts}
use Rattle.rv_emit_storage.specs.UnitMaps.{map_of_unit}
use Rattle.graph_core.specs.Graphs.{UnitForm}
use Rattle.graph_core.specs.Memory.{Memory, bytes_of}
use Rattle.graph_core.specs.Paths.{Among}
use Rattle.graph_core.specs.Runs.{Activation, Configuration}
use Rattle.graph_homes.specs.declared.home.Home.{Home}
use Rattle.graph_homes.specs.declared.home.Home.TheVariants.{Register, Slot}
use Rattle.graph_homes.specs.Homed.{IsHomeRegister, home_number}
use Rattle.rv_code.specs.declared.instruction.Instruction.{Instruction as MachineInstruction}
use Rattle.rv_emit_words.specs.declared.piece.Held.{Held}
use Rattle.rv_emit_steps.specs.Holding.{Holding}
use Rattle.rv_emit_steps.specs.Doing.{done_by_all}
use Rattle.rv_emit_steps.specs.EmitMovesDoing.{HoldsAll as HoldsAllOf}
use Rattle.rv_emit_steps.specs.Meaning.{Means}
use Rattle.rv_emit_steps.specs.Frames.{Setting, AreScratch, HoldsFrame, IsNoTarget, Performs}
use Rattle.rv_emit_steps.proofs.Arrays.{those_same}
use Rattle.rv_emit_steps.proofs.Objects.{AreThose, WasThere}
use Rattle.rv_emit_runs.specs.Keeping.{IsTargetAmong, IsSaved, LeavesRest}
use Rattle.rv_emit_runs.specs.Settings.{IsKept}
use Rattle.rv_emit_runs.specs.Waiting.{FunctionCode, IsFunctionCode, setting_of, HoldsWaiting, HoldsAll}
use Rattle.rv_emit_runs.proofs.Loading.{kept_0, kept_2, kept_3, kept_4, kept_home, held_but_a0, home_as_it_was, frame_found, frame_reheld}
use Rattle.rv_emit_runs.proofs.Outer.{IsNoObject, Grown, LeavesAbove, waiting_kept}
use Rattle.rv_emit_runs.proofs.Restoring.{low_no_home}
use Rattle.rv_emit_runs.proofs.Same.{SameActivation}

-- ---- What is left as it was

-- Words that perform a step leave the rest.
pub performed_leaves : (w : Setting) (c d : Configuration) (h : Holding) (target : Option Home) (code : List MachineInstruction) → Performs w c h target code d → LeavesRest w c h (done_by_all code h) target
performed_leaves w c d h target code done = record { registers = λ q none kept. done.kept q none kept.left; memory = done.outside }

-- x0, sp, gp and tp are no target.
pub low_no_target : (slots : ℕ) (target : Option Home) (q : ℕ) → q ≤ 4 → IsTargetAmong slots target → IsNoTarget target q
low_no_target slots None q low among = tt
low_no_target slots (Some (Register r)) q low among = low_no_home q r low among
low_no_target slots (Some (Slot k)) q low among = tt

-- A home register is as it was, or is one that the frame keeps.
pub home_or_saved : (saved : List ℕ) (target : Option Home) (h t : Holding) (r : ℕ) → IsSaved saved target → IsHomeRegister r → ((q : ℕ) → IsNoTarget target q → IsKept q → t.registers q ≡ h.registers q) → (t.registers r ≡ h.registers r) ⊎ Among r saved
home_or_saved saved None h t r is home kept = inl (kept r tt (kept_home r home))
home_or_saved saved (Some (Slot k)) h t r is home kept = inl (kept r tt (kept_home r home))
home_or_saved saved (Some (Register q)) h t r is home kept = ⊎_elim
    (λ (same : r ≡ q). inr (subst (λ z. Among z saved) (sym same) is))
    (λ (other : r ≢ q). inl (kept r other (kept_home r home)))
    (cases_eq r q)

module _ (f : FunctionCode) (u : UnitForm) (addresses : ℕ → ℕ) (held : List Held) (c : Configuration) (h t : Holding) (target : Option Home) (fits : IsFunctionCode u f) (frame : HoldsFrame (setting_of u addresses held f) c h)
    (leaves : LeavesRest (setting_of u addresses held f) c h t target) (among : IsTargetAmong f.slots target) (saved : IsSaved f.saved target) (same_map : t.regions ≡ h.regions) where
  low_kept : (q : ℕ) → q ≤ 4 → IsKept q → t.registers q ≡ h.registers q
  low_kept q low kept = leaves.registers q (low_no_target f.slots target q low among) kept

  -- A byte of the frame below its objects is in no object.
  no_object : (b : ℕ) → h.registers 2 ≤ b → b < h.registers 2 + (f.storage.slots + 4 * f.slots) → IsNoObject addresses c.memory b
  no_object b low high n o is live =
      let an : addresses n % 4 ≡ 0 = frame.laid.aligned n o is in
      let sp : h.registers 2 % 4 ≡ 0 = frame.aligned in
      ⊎_elim
      (λ (below : addresses n + bytes_of o ≤ h.registers 2). inr (omega (arith, an, sp, below, low)))
      (λ (past : h.registers 2 + (f.storage.slots + 4 * f.slots) ≤ addresses n). inl (omega (arith, past, high)))
      (frame.free n o is live)

  -- So what waits above does not change.
  pub leaves_above : LeavesAbove (map_of_unit u) f addresses c.memory h t
  leaves_above = record {
    map = same_map;
    sp = low_kept 2 (omega arith) kept_2;
    none = low_kept 0 (omega arith) kept_0;
    gp = low_kept 3 (omega arith) kept_3;
    homes = λ r is. home_or_saved f.saved target h t r saved is leaves.registers;
    kept = λ b low high. leaves.memory b (let room = fits.kept in inl (omega (arith, high, room)), no_object b low (let room = fits.kept in omega (arith, high, room)));
    above = λ b low none. leaves.memory b (let room = (fits.storage addresses held).room in inr (omega (arith, low, room)), none);
    statics = λ b low none. leaves.memory b (let high = frame.low in inl (omega (arith, low, high, (map_facts (map_of_unit u)).apart)), none);
  }

-- ---- All activations

-- Objects that are those that there were.
pub grown_those : (regions : Map) (addresses : ℕ → ℕ) (memory later : Memory) → AreThose memory later → length memory ≤ length later → Grown regions addresses addresses memory later 0
grown_those regions addresses memory later those longer = record {
  longer = longer;
  lie = λ n lt. refl;
  kept = λ n size e. (those.kept n size e, refl);
  were = λ n o is live. inl (those.were n o is, refl);
}

module _ (codes : ℕ → FunctionCode) (u : UnitForm) (valid : (k : ℕ) → IsFunctionCode u (codes k)) (addresses : ℕ → ℕ) (resumes : Activation → ℕ → Type 0) where
  -- The activation that goes on is one of the same function, in the same place among all.
  moved_waiting : (c d : Configuration) (t : Holding) → SameActivation c d → HoldsWaiting codes u addresses resumes d.memory d.input (codes c.here.function) c.here.first_object t c.waiting → HoldsWaiting codes u addresses resumes d.memory d.input (codes d.here.function) d.here.first_object t d.waiting
  moved_waiting c d t same holds =
      subst (λ k. HoldsWaiting codes u addresses resumes d.memory d.input (codes k) d.here.first_object t d.waiting) (sym same.function)
      (subst (λ n. HoldsWaiting codes u addresses resumes d.memory d.input (codes c.here.function) n t d.waiting) (sym same.first)
      (subst (λ all. HoldsWaiting codes u addresses resumes d.memory d.input (codes c.here.function) c.here.first_object t all) (sym same.waiting) holds))

  -- A step of the innermost activation, behind which the machine holds its frame, keeps them all.
  pub all_kept : (held later : List Held) (c d : Configuration) (h t : Holding) (target : Option Home) → HoldsAll codes u addresses resumes held c h → LeavesRest (setting_of u addresses held (codes c.here.function)) c h t target
      → IsTargetAmong (codes c.here.function).slots target → IsSaved (codes c.here.function).saved target → SameActivation c d → HoldsFrame (setting_of u addresses later (codes d.here.function)) d t → t.input ≡ d.input → HoldsAll codes u addresses resumes later d t
  all_kept held later c d h t target all leaves among saved same frame input =
      let f : FunctionCode = codes c.here.function in
      let same_map : t.regions ≡ h.regions = frame.map ∙ sym all.here.map in
      let above : LeavesAbove (map_of_unit u) f addresses c.memory h t = leaves_above f u addresses held c h t target (valid c.here.function) all.here leaves among saved same_map in
      let grown : Grown (map_of_unit u) addresses addresses c.memory d.memory 0 = grown_those (map_of_unit u) addresses c.memory d.memory same.those same.longer in
      let sp = above.sp in
      let tp : t.registers 4 ≡ h.registers 4 = low_kept f u addresses held c h t target (valid c.here.function) all.here leaves among saved same_map 4 (omega arith) kept_4 in
      let many : length d.waiting ≡ length c.waiting = ap (λ (l : List Activation). length l) same.waiting in
      record {
        here = frame;
        waiting = moved_waiting c d t same (waiting_kept codes u valid addresses addresses resumes c.memory d.memory 0 grown frame.laid c.waiting f c.here.first_object h t c.input d.input (valid c.here.function) above (omega arith) (let many = all.objects in omega (arith, many)) frame.objects all.waiting);
        depth = let deep = all.depth in omega (arith, tp, many, deep);
        room = let room = all.room in omega (arith, sp, many, room);
        objects = subst (λ k. k + length (codes d.here.function).graph.objects ≤ length d.memory) (sym same.first)
            (subst (λ k. c.here.first_object + length (codes k).graph.objects ≤ length d.memory) (sym same.function) (let most = all.objects in let longer = same.longer in omega (arith, most, longer)));
        input = input;
        below = λ n o is live.
            let was : WasThere c.memory n o = same.those.were n o is in
            subst (λ s. (addresses n + bytes_of o ≤ bytes_end (map_of_unit u)) ⊎ (s ≤ addresses n)) (sym sp)
            (subst (λ k. (addresses n + k ≤ bytes_end (map_of_unit u)) ⊎ (h.registers 2 ≤ addresses n)) (sym was.bytes) (all.below n was.object was.is (was.live live)));
      }

  -- What scratch registers hold is no part of what waits: registers but t0 to t2, s0 and a0 to a7, and memory are as they were.
  pub all_reheld : (held later : List Held) (c : Configuration) (h t : Holding) → HoldsAll codes u addresses resumes held c h → ((q : ℕ) → IsKept q → t.registers q ≡ h.registers q) → t.regions ≡ h.regions → t.memory ≡ h.memory → t.input ≡ h.input → HoldsAllOf later t → AreScratch later
      → HoldsAll codes u addresses resumes later c t
  all_reheld held later c h t all kept same_map memory input has scratch =
      all_kept held later c c h t None all (record { registers = λ q none is. kept q is; memory = λ b out. ap (λ (m : ℕ → ℕ). m b) memory }) tt tt
      (record { function = refl; first = refl; waiting = refl; those = those_same c.memory; longer = omega arith })
      (frame_reheld (setting_of u addresses held (codes c.here.function)) c h t later kept same_map memory has scratch all.here)
      (input ∙ all.input)

  -- Which input is left is no part of what waits.
  pub input_changed : (held : List Held) (c : Configuration) (h : Holding) (input : List ℕ) → HoldsAll codes u addresses resumes held c h → HoldsAll codes u addresses resumes held (record c { input = input }) (record h { input = input })
  input_changed held c h input all =
      all_kept held held c (record c { input = input }) h (record h { input = input }) None all (record { registers = λ q none is. refl; memory = λ b out. refl }) tt tt
      (record { function = refl; first = refl; waiting = refl; those = those_same c.memory; longer = omega arith })
      (record {
        fetch = record { fits = all.here.fetch.fits; none = all.here.fetch.none; gp = all.here.fetch.gp; all = held_but_a0 held h (record h { input = input }) (λ q ne. refl) all.here.scratch all.here.fetch.all; left = all.here.fetch.left };
        scratch = all.here.scratch;
        aligned = all.here.aligned;
        map = all.here.map;
        low = all.here.low;
        high = all.here.high;
        homes = λ home among. subst (λ x. Means addresses c.memory (c.here.names (home_number home)) x) (sym (home_as_it_was (setting_of u addresses held (codes c.here.function)) h (record h { input = input }) home refl (λ r is. refl) refl among)) (all.here.homes home among);
        objects = all.here.objects;
        laid = all.here.laid;
        free = all.here.free;
        own = all.here.own;
        static = all.here.static;
        arrays = all.here.arrays;
      })
      refl

  -- The frame of the activation looks at no other registers than x0, sp, gp and those that may be homes, and how many may still begin is in tp.
  pub all_found : (held : List Held) (c : Configuration) (h t : Holding) → HoldsAll codes u addresses resumes held c h → ((q : ℕ) → q ≤ 4 → q ≢ 1 → t.registers q ≡ h.registers q) → ((r : ℕ) → IsHomeRegister r → t.registers r ≡ h.registers r) → t.regions ≡ h.regions → t.memory ≡ h.memory → t.input ≡ h.input
      → HoldsAll codes u addresses resumes [] c t
  all_found held c h t all low homes same_map memory input =
      let sp : t.registers 2 ≡ h.registers 2 = low 2 (omega arith) (λ e. cc) in
      let none : t.registers 0 ≡ h.registers 0 = low 0 (omega arith) (λ e. cc) in
      let gp : t.registers 3 ≡ h.registers 3 = low 3 (omega arith) (λ e. cc) in
      let tp : t.registers 4 ≡ h.registers 4 = low 4 (omega arith) (λ e. cc) in
      let frame = frame_found (setting_of u addresses held (codes c.here.function)) c h t [] none sp gp homes same_map memory tt tt all.here in
      let leaves : LeavesAbove (map_of_unit u) (codes c.here.function) addresses c.memory h t = record {
        map = same_map;
        sp = sp;
        none = none;
        gp = gp;
        homes = λ r is. inl (homes r is);
        kept = λ b least most. ap (λ (m : ℕ → ℕ). m b) memory;
        above = λ b least out. ap (λ (m : ℕ → ℕ). m b) memory;
        statics = λ b lt out. ap (λ (m : ℕ → ℕ). m b) memory;
      } in
      record {
        here = frame;
        waiting = waiting_kept codes u valid addresses addresses resumes c.memory c.memory 0 (grown_those (map_of_unit u) addresses c.memory c.memory (those_same c.memory) (omega arith)) frame.laid c.waiting (codes c.here.function) c.here.first_object h t c.input c.input (valid c.here.function) leaves (omega arith)
            (let many = all.objects in omega (arith, many)) frame.objects all.waiting;
        depth = ap (λ x. x + (length c.waiting + 1)) tp ∙ all.depth;
        room = subst (λ s. stack_end (map_of_unit u) ≤ s + 16384 * (length c.waiting + 1)) (sym sp) all.room;
        objects = all.objects;
        input = input ∙ all.input;
        below = λ n o is live. subst (λ s. (addresses n + bytes_of o ≤ bytes_end (map_of_unit u)) ⊎ (s ≤ addresses n)) (sym sp) (all.below n o is live);
      }
