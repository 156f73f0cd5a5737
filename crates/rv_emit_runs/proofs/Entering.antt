-- The words that make a frame store the return address and the registers that the frame keeps, below what waits.
use Rattle.std.proofs.Common.{◌≡◌, ◌≢◌, ℕ, ◌+◌, ◌*◌, ◌%◌, ◌<◌, ◌≤◌, ◌⊎◌, inl, inr, sym, ap, ◌∙◌, subst, arith, refl, List, [], ◌∷◌, length}
use Rattle.std.specs.List.{AllByRecursion}
use Rattle.memory_map.specs.Maps.{stack_start, stack_end}
use Rattle.memory_map.proofs.Facts.{map_facts}
use Rattle.word_base.specs.Arithmetic.{subtracted}
use Rattle.rv_code.specs.declared.instruction.Instruction.{Instruction}
use Rattle.rv_code.specs.declared.instruction.Instruction.TheVariants.{Store}
use Rattle.rv_code.specs.declared.instruction.StoreOperation.TheVariants.{Sw}
use Rattle.rv_machine.specs.State.{word}
use Rattle.graph_homes.specs.Homed.{IsHomeRegister}
use Rattle.rv_emit_steps.specs.Holding.{Holding, word_at, with_bytes, IsDataAt}
use Rattle.rv_emit_steps.specs.Doing.{done_by_all, CanDoAll, storing}
use Rattle.rv_emit_steps.proofs.Apart.{byte_outside, word_stored}
use Rattle.rv_emit_steps.proofs.Placing.{done_by_both, can_do_both, regions_stay}
use Rattle.rv_emit_steps.specs.EmitMovesDoing.{Brings}
use Rattle.rv_emit_steps.proofs.Elements.{word_kept}
use Rattle.rv_emit_code.specs.Beginning.{saving_code, entering_code}
use Rattle.rv_emit_code.specs.Leaving.{moving_code}
use Rattle.rv_emit_runs.proofs.Leaving.{moved}
use Rattle.rv_emit_runs.proofs.Restoring.{AreSaved}

-- ---- Registers are stored

-- Behind the words each register was saved, no register was written, and memory is as it was elsewhere.
pub record Saves (code : List Instruction) (h : Holding) (saved : List ℕ) (a : ℕ) : Type 0 where
  pub can : CanDoAll code h
  pub have : AreSaved saved a (done_by_all code h).memory h.registers
  pub registers : (done_by_all code h).registers ≡ h.registers
  pub memory : (b : ℕ) → (b < a) ⊎ (a + 4 * length saved ≤ b) → (done_by_all code h).memory b ≡ h.memory b
  pub input : (done_by_all code h).input ≡ h.input

pub saving_saves : (saved : List ℕ) (o : ℕ) (h : Holding) → (h.registers 2 + o) % 4 ≡ 0 → stack_start h.regions ≤ h.registers 2 → h.registers 2 + o + 4 * length saved ≤ stack_end h.regions → ((r : ℕ) → IsHomeRegister r → h.registers r < 4294967296) → AllByRecursion IsHomeRegister saved
    → Saves (saving_code saved o) h saved (h.registers 2 + o)
saving_saves [] o h aligned low high words homes = record { can = tt; have = tt; registers = refl; memory = λ b out. refl; input = refl }
saving_saves (r ∷ more) o h aligned low high words homes =
    let top = (map_facts h.regions).whole in
    let at : word (h.registers 2 + o) ≡ h.registers 2 + o = omega (arith, high, top) in
    let there : IsDataAt h.regions 4 (word (h.registers 2 + o)) = (omega (arith, at, aligned), inr (omega (arith, at, low), omega (arith, at, high))) in
    let t : Holding = storing 4 (word (h.registers 2 + o)) (h.registers r) h in
    let a : ℕ = h.registers 2 + o in
    let made : t.memory ≡ with_bytes 4 a (h.registers r) h.memory = ap (λ x. with_bytes 4 x (h.registers r) h.memory) at in
    let small : (o + 4) % 4294967296 ≡ o + 4 = omega (arith, high, top) in
    let rest : Saves (saving_code more ((o + 4) % 4294967296)) t more (h.registers 2 + (o + 4)) =
    subst (λ k. Saves (saving_code more k) t more (h.registers 2 + (o + 4))) (sym small) (saving_saves more (o + 4) t (omega (arith, aligned)) low (omega (arith, high)) words homes.1) in
    let n : ℕ → ℕ = (done_by_all (saving_code more ((o + 4) % 4294967296)) t).memory in
    let same : h.registers 2 + (o + 4) ≡ a + 4 = omega arith in
    let byte : (b : ℕ) → b < a + 4 → n b ≡ with_bytes 4 a (h.registers r) h.memory b = λ b lt. rest.memory b (inl (omega (arith, lt))) ∙ ap (λ (m : ℕ → ℕ). m b) made in
    record {
      can = (there, rest.can);
      have = (
        word_kept (with_bytes 4 a (h.registers r) h.memory) n a (byte a (omega arith)) (byte (a + 1) (omega arith)) (byte (a + 2) (omega arith)) (byte (a + 3) (omega arith)) ∙ word_stored a (h.registers r) h.memory (words r homes.0),
        subst (λ x. AreSaved more x n h.registers) same rest.have,
      );
      registers = rest.registers;
      memory = λ b out. rest.memory b (later out) ∙ ap (λ (m : ℕ → ℕ). m b) made ∙ byte_outside 4 a (h.registers r) h.memory b (this out);
      input = rest.input;
    }
  where
    later : {b : ℕ} → (b < h.registers 2 + o) ⊎ (h.registers 2 + o + 4 * length (r ∷ more) ≤ b) → (b < h.registers 2 + (o + 4)) ⊎ (h.registers 2 + (o + 4) + 4 * length more ≤ b)
    later (inl lt) = inl (omega (arith, lt))
    later (inr le) = inr (omega (arith, le))

    this : {b : ℕ} → (b < h.registers 2 + o) ⊎ (h.registers 2 + o + 4 * length (r ∷ more) ≤ b) → (b < h.registers 2 + o) ⊎ (h.registers 2 + o + 4 ≤ b)
    this (inl lt) = inl lt
    this (inr le) = inr (omega (arith, le))

-- ---- The frame

-- Behind the words sp is below the frame, which has the return address and each register that it keeps. No other register but t0 was written, and memory is as it was but for those words.
pub record EntersBy (saved : List ℕ) (size : ℕ) (h t : Holding) : Type 0 where
  pub sp : t.registers 2 + size ≡ h.registers 2
  pub kept : (q : ℕ) → q ≢ 2 → q ≢ 5 → t.registers q ≡ h.registers q
  pub returns : word_at t.memory (t.registers 2) ≡ h.registers 1
  pub have : AreSaved saved (t.registers 2 + 4) t.memory h.registers
  pub memory : (b : ℕ) → (b < t.registers 2) ⊎ (t.registers 2 + (4 + 4 * length saved) ≤ b) → t.memory b ≡ h.memory b
  pub input : t.input ≡ h.input
  pub map : t.regions ≡ h.regions

pub record Enters (saved : List ℕ) (size : ℕ) (h : Holding) : Type 0 where
  pub can : CanDoAll (entering_code saved size) h
  pub by : EntersBy saved size h (done_by_all (entering_code saved size) h)

-- What there is to be for that: registers hold words, sp is aligned, and there is room for the frame.
pub record CanEnter (saved : List ℕ) (size : ℕ) (h : Holding) : Type 0 where
  pub words : (q : ℕ) → h.registers q < 4294967296
  pub none : h.registers 0 ≡ 0
  pub aligned : h.registers 2 % 4 ≡ 0
  pub whole : size % 4 ≡ 0
  pub low : stack_start h.regions + size ≤ h.registers 2
  pub high : h.registers 2 ≤ stack_end h.regions
  pub room : 4 + 4 * length saved ≤ size
  pub registers : AllByRecursion IsHomeRegister saved

-- What was saved of registers is what it was, where those registers are the same.
pub saved_same : (saved : List ℕ) (a : ℕ) (m before after : ℕ → ℕ) → AllByRecursion IsHomeRegister saved → ((r : ℕ) → IsHomeRegister r → after r ≡ before r) → AreSaved saved a m after → AreSaved saved a m before
saved_same [] a m before after all same have = tt
saved_same (r ∷ more) a m before after all same have = (have.0 ∙ same r all.0, saved_same more (a + 4) m before after all.1 same have.1)

pub home_no_scratch : (r : ℕ) → IsHomeRegister r → (r ≢ 2) × (r ≢ 5)
home_no_scratch r (inl is) = (λ e. omega (arith, is, e), λ e. omega (arith, is, e))
home_no_scratch r (inr (low, high)) = (λ e. omega (arith, low, e), λ e. omega (arith, low, e))

pub entering_enters : (saved : List ℕ) (size : ℕ) (h : Holding) → CanEnter saved size h → Enters saved size h
entering_enters saved size h can =
    let low : stack_start h.regions + size ≤ h.registers 2 = can.low in
    let high : h.registers 2 ≤ stack_end h.regions = can.high in
    let top = (map_facts h.regions).whole in
    let room : 4 + 4 * length saved ≤ size = can.room in
    let front = moving_code (subtracted 0 size) in
    let back = Store Sw 1 2 0 ∷ saving_code saved 4 in
    let one : Brings front h 2 2 (word (h.registers 2 + subtracted 0 size)) = moved h (subtracted 0 size) (omega (arith, low, high, top)) can.none in
    let h1 : Holding = done_by_all front h in
    let down : word (h.registers 2 + subtracted 0 size) + size ≡ h.registers 2 = omega (arith, low, high, top) in
    let sp : h1.registers 2 + size ≡ h.registers 2 = ap (λ x. x + size) one.value ∙ down in
    let a : ℕ = h1.registers 2 in
    let same : h1.regions ≡ h.regions = regions_stay front h in
    let start : stack_start h1.regions ≡ stack_start h.regions = ap (λ m. stack_start m) same in
    let at : word (h1.registers 2 + 0) ≡ h1.registers 2 = omega (arith, sp, high, top) in
    let whole : h1.registers 2 % 4 ≡ 0 = let z = can.whole in let y = can.aligned in omega (arith, sp, z, y) in
    let there : IsDataAt h1.regions 4 (word (h1.registers 2 + 0)) = (omega (arith, at, whole), inr (omega (arith, at, sp, low, start), omega (arith, at, sp, high, room, start))) in
    let h2 : Holding = storing 4 (word (h1.registers 2 + 0)) (h1.registers 1) h1 in
    let made : h2.memory ≡ with_bytes 4 a (h1.registers 1) h1.memory = ap (λ x. with_bytes 4 x (h1.registers 1) h1.memory) at in
    let ra : h1.registers 1 ≡ h.registers 1 = one.kept 1 (λ e. cc) (λ e. cc) in
    let two : Saves (saving_code saved 4) h2 saved (h1.registers 2 + 4) = saving_saves saved 4 h2 (omega (arith, whole)) (omega (arith, sp, low, start)) (omega (arith, sp, high, room, start)) (λ r is. subst (λ x. x < 4294967296) (sym (one.kept r (home_no_scratch r is).0 (home_no_scratch r is).1)) (can.words r)) can.registers in
    let t : Holding = done_by_all (saving_code saved 4) h2 in
    let both : done_by_all (entering_code saved size) h ≡ t = done_by_both front back h in
    let byte : (b : ℕ) → b < a + 4 → t.memory b ≡ with_bytes 4 a (h1.registers 1) h1.memory b = λ b lt. two.memory b (inl lt) ∙ ap (λ (m : ℕ → ℕ). m b) made in
    let sp2 : t.registers 2 ≡ a = ap (λ (f : ℕ → ℕ). f 2) two.registers in
    let made_it : EntersBy saved size h t = record {
      sp = ap (λ x. x + size) sp2 ∙ sp;
      kept = λ q n2 n5. ap (λ (f : ℕ → ℕ). f q) two.registers ∙ one.kept q n2 n5;
      returns = ap (word_at t.memory) sp2 ∙ word_kept (with_bytes 4 a (h1.registers 1) h1.memory) t.memory a (byte a (omega arith)) (byte (a + 1) (omega arith)) (byte (a + 2) (omega arith)) (byte (a + 3) (omega arith))
          ∙ word_stored a (h1.registers 1) h1.memory (subst (λ x. x < 4294967296) (sym ra) (can.words 1)) ∙ ra;
      have = subst (λ x. AreSaved saved (x + 4) t.memory h.registers) (sym sp2)
          (saved_same saved (a + 4) t.memory h.registers h1.registers can.registers (λ r is. one.kept r (home_no_scratch r is).0 (home_no_scratch r is).1) two.have);
      memory = λ b out. two.memory b (past sp2 out) ∙ ap (λ (m : ℕ → ℕ). m b) made ∙ byte_outside 4 a (h1.registers 1) h1.memory b (short sp2 out) ∙ ap (λ (m : ℕ → ℕ). m b) one.memory;
      input = two.input ∙ one.input;
      map = regions_stay (saving_code saved 4) h2 ∙ same;
    } in
    record {
      can = can_do_both front back h one.can (there, two.can);
      by = subst (λ (q : Holding). EntersBy saved size h q) (sym both) made_it;
    }
  where
    past : {x a b : ℕ} → x ≡ a → (b < x) ⊎ (x + (4 + 4 * length saved) ≤ b) → (b < a + 4) ⊎ (a + 4 + 4 * length saved ≤ b)
    past e (inl lt) = inl (omega (arith, lt, e))
    past e (inr le) = inr (omega (arith, le, e))

    short : {x a b : ℕ} → x ≡ a → (b < x) ⊎ (x + (4 + 4 * length saved) ≤ b) → (b < a) ⊎ (a + 4 ≤ b)
    short e (inl lt) = inl (omega (arith, lt, e))
    short e (inr le) = inr (omega (arith, le, e))
