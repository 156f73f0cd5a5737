-- The code with which a function ends restores what its frame keeps, leaves the frame and returns.
use Rattle.std.proofs.Common.{◌≡◌, ◌≢◌, ℕ, ◌+◌, ◌*◌, ◌%◌, ◌<◌, ◌≤◌, inl, inr, sym, ap, ◌∙◌, subst, arith, refl, Bool, true, false, cond, List, [], ◌∷◌, ◌++◌, length, length-append}
use Rattle.std.specs.List.{AllByRecursion}
use Rattle.memory_map.specs.declared.map.Map.{Map}
use Rattle.memory_map.specs.Maps.{most_words, stack_start, stack_end, code_start}
use Rattle.memory_map.proofs.Facts.{map_facts}
use Rattle.rv_code.specs.declared.instruction.Instruction.{Instruction}
use Rattle.rv_code.specs.declared.instruction.Instruction.TheVariants.{Load, Immediate, Register, Jalr}
use Rattle.rv_code.specs.declared.instruction.LoadOperation.TheVariants.{Lw}
use Rattle.rv_code.specs.declared.instruction.ImmediateOperation.TheVariants.{Addi}
use Rattle.rv_code.specs.declared.instruction.RegisterOperation.TheVariants.{Add}
use Rattle.rv_machine.specs.State.{MachineState, word}
use Rattle.rv_machine.specs.Table.{operation_result, operated_immediate}
use Rattle.graph_homes.specs.Homed.{IsHomeRegister}
use Rattle.rv_emit_words.specs.Constants.{is_small, constant_code}
use Rattle.rv_emit_steps.specs.Holding.{Holding, word_at, with_register, IsDataAt}
use Rattle.rv_emit_steps.specs.Doing.{done_by_all, CanDoAll, writing}
use Rattle.rv_emit_steps.specs.Programs.{Program, address_of, IsAt, CodeAt, behind, Stands}
use Rattle.rv_emit_steps.specs.Points.{Reaches}
use Rattle.rv_emit_steps.proofs.Placing.{code_front, code_rest, done_by_both, can_do_both, reaches_then, regions_stay}
use Rattle.rv_emit_steps.proofs.Registers.{register_other}
use Rattle.rv_emit_steps.proofs.Jumping.{return_does}
use Rattle.rv_emit_steps.proofs.Straight.{code_does}
use Rattle.rv_emit_steps.specs.EmitMovesDoing.{Brings}
use Rattle.rv_emit_steps.proofs.Limits.{constant_alone}
use Rattle.rv_emit_code.specs.Leaving.{moving_code, restoring_code, leaving_front, leaving_code}
use Rattle.rv_emit_runs.specs.Waiting.{restored}
use Rattle.rv_emit_runs.proofs.Restoring.{low_no_home, restored_low, restored_agree}

-- ---- sp moves

-- A word is added to sp, and no other register but t0 is written.
pub moved : (h : Holding) (n : ℕ) → n < 4294967296 → h.registers 0 ≡ 0 → Brings (moving_code n) h 2 2 (word (h.registers 2 + n))
unfolding operation_result operated_immediate
moved h n fits none = by_test (is_small n)
  where
    by_test : (b : Bool) → Brings (cond b (Immediate Addi 2 2 n ∷ []) (constant_code 5 n 0 ++ Register Add 2 2 5 ∷ [])) h 2 2 (word (h.registers 2 + n))
    by_test true = record {
      can = (tt, tt);
      value = refl;
      kept = λ q other scratch. register_other 2 (word (h.registers 2 + n)) q h.registers other;
      memory = refl;
      input = refl;
    }
    by_test false =
        let front = constant_code 5 n 0 in
        let a : Brings front h 5 5 n = constant_alone h 5 n (omega arith) fits none in
        let t : Holding = done_by_all front h in
        let v : ℕ = word (t.registers 2 + t.registers 5) in
        let both : done_by_all (front ++ Register Add 2 2 5 ∷ []) h ≡ writing 2 v t = done_by_both front (Register Add 2 2 5 ∷ []) h in
        let sp : t.registers 2 ≡ h.registers 2 = a.kept 2 (λ e. cc) (λ e. cc) in
        record {
          can = can_do_both front (Register Add 2 2 5 ∷ []) h a.can (tt, tt);
          value = ap (λ (u : Holding). u.registers 2) both ∙ ap (λ x. word (x + t.registers 5)) sp ∙ ap (λ x. word (h.registers 2 + x)) a.value;
          kept = λ q other scratch. ap (λ (u : Holding). u.registers q) both ∙ register_other 2 v q t.registers other ∙ a.kept q scratch scratch;
          memory = ap (λ (u : Holding). u.memory) both ∙ a.memory;
          input = ap (λ (u : Holding). u.input) both ∙ a.input;
        }

-- ---- Registers are loaded

-- Behind the words registers hold what is restored.
pub record Restores (code : List Instruction) (h : Holding) (saved : List ℕ) (a : ℕ) : Type 0 where
  pub can : CanDoAll code h
  pub registers : (done_by_all code h).registers ≡ restored saved a h.memory h.registers
  pub memory : (done_by_all code h).memory ≡ h.memory
  pub input : (done_by_all code h).input ≡ h.input

pub restoring_does : (saved : List ℕ) (o : ℕ) (h : Holding) → AllByRecursion IsHomeRegister saved → (h.registers 2 + o) % 4 ≡ 0 → stack_start h.regions ≤ h.registers 2 → h.registers 2 + o + 4 * length saved ≤ stack_end h.regions
    → Restores (restoring_code saved o) h saved (h.registers 2 + o)
restoring_does [] o h all aligned low high = record { can = tt; registers = refl; memory = refl; input = refl }
restoring_does (r ∷ more) o h all aligned low high =
    let whole = (map_facts h.regions).whole in
    let at : word (h.registers 2 + o) ≡ h.registers 2 + o = omega (arith, high, whole) in
    let v : ℕ = word_at h.memory (word (h.registers 2 + o)) in
    let t : Holding = writing r v h in
    let sp : t.registers 2 ≡ h.registers 2 = register_other r v 2 h.registers (low_no_home 2 r (omega arith) all.0) in
    let there : IsDataAt h.regions 4 (word (h.registers 2 + o)) = (omega (arith, at, aligned), inr (omega (arith, at, low), omega (arith, at, high))) in
    let small : (o + 4) % 4294967296 ≡ o + 4 = omega (arith, high, whole) in
    let rest : Restores (restoring_code more ((o + 4) % 4294967296)) t more (t.registers 2 + (o + 4)) =
    subst (λ k. Restores (restoring_code more k) t more (t.registers 2 + (o + 4))) (sym small) (restoring_does more (o + 4) t all.1 (omega (arith, sp, aligned)) (omega (arith, sp, low)) (omega (arith, sp, high))) in
    record {
      can = (there, rest.can);
      registers = rest.registers ∙ ap (λ a. restored more a h.memory t.registers) (omega (arith, sp)) ∙ ap (λ x. restored more (h.registers 2 + o + 4) h.memory (with_register r x h.registers)) (ap (word_at h.memory) at);
      memory = rest.memory;
      input = rest.input;
    }

-- ---- The end of a function

-- Behind the words before the return: sp is behind the frame, ra holds the return address, one more activation may begin, and else registers are restored.
pub record IsLeftBy (saved : List ℕ) (size : ℕ) (h t : Holding) : Type 0 where
  pub sp : t.registers 2 ≡ h.registers 2 + size
  pub ra : t.registers 1 ≡ word_at h.memory (h.registers 2)
  pub depth : t.registers 4 ≡ h.registers 4 + 1
  pub others : (q : ℕ) → q ≢ 1 → q ≢ 2 → q ≢ 4 → q ≢ 5 → t.registers q ≡ restored saved (h.registers 2 + 4) h.memory h.registers q
  pub memory : t.memory ≡ h.memory
  pub input : t.input ≡ h.input
  pub map : t.regions ≡ h.regions

pub record Leaves (saved : List ℕ) (size : ℕ) (h : Holding) : Type 0 where
  pub can : CanDoAll (leaving_front saved size) h
  pub left : IsLeftBy saved size h (done_by_all (leaving_front saved size) h)

-- What a frame has to be so that it can be left.
pub record CanLeave (saved : List ℕ) (size : ℕ) (h : Holding) : Type 0 where
  pub none : h.registers 0 ≡ 0
  pub aligned : h.registers 2 % 4 ≡ 0
  pub low : stack_start h.regions ≤ h.registers 2
  pub high : h.registers 2 + size ≤ stack_end h.regions
  pub kept : 4 + 4 * length saved ≤ size
  pub registers : AllByRecursion IsHomeRegister saved
  pub depth : h.registers 4 < 1024

pub leaving_leaves : (saved : List ℕ) (size : ℕ) (h : Holding) → CanLeave saved size h → Leaves saved size h
unfolding operated_immediate
leaving_leaves saved size h can =
    let high : h.registers 2 + size ≤ stack_end h.regions = can.high in
    let whole = (map_facts h.regions).whole in
    let room : 4 + 4 * length saved ≤ size = can.kept in
    let deep : h.registers 4 < 1024 = can.depth in
    let v1 : ℕ = word (h.registers 4 + 1) in
    let h1 : Holding = writing 4 v1 h in
    let back = restoring_code saved 4 in
    let last = Load Lw 1 2 0 ∷ moving_code size in
    let two : Restores back h1 saved (h.registers 2 + 4) = restoring_does saved 4 h1 can.registers (omega (arith, can.aligned)) can.low (omega (arith, high, room)) in
    let h2 : Holding = done_by_all back h1 in
    let sp2 : h2.registers 2 ≡ h.registers 2 = ap (λ (f : ℕ → ℕ). f 2) two.registers ∙ restored_low saved (h.registers 2 + 4) h.memory h1.registers 2 (omega arith) can.registers in
    let none2 : h2.registers 0 ≡ 0 = ap (λ (f : ℕ → ℕ). f 0) two.registers ∙ restored_low saved (h.registers 2 + 4) h.memory h1.registers 0 (omega arith) can.registers ∙ can.none in
    let at : word (h2.registers 2 + 0) ≡ h.registers 2 = omega (arith, sp2, high, whole) in
    let v3 : ℕ = word_at h2.memory (word (h2.registers 2 + 0)) in
    let h3 : Holding = writing 1 v3 h2 in
    let same : h2.regions ≡ h.regions = regions_stay back h1 in
    let inside : IsDataAt h.regions 4 (word (h2.registers 2 + 0)) = let a = can.aligned in let l = can.low in (omega (arith, at, a), inr (omega (arith, at, l), omega (arith, at, high, room))) in
    let there : IsDataAt h2.regions 4 (word (h2.registers 2 + 0)) = subst (λ m. IsDataAt m 4 (word (h2.registers 2 + 0))) (sym same) inside in
    let four : Brings (moving_code size) h3 2 2 (word (h3.registers 2 + size)) = moved h3 size (omega (arith, high, whole)) none2 in
    let t : Holding = done_by_all (moving_code size) h3 in
    let both : done_by_all (leaving_front saved size) h ≡ t = done_by_both back last h1 in
    let ra : v3 ≡ word_at h.memory (h.registers 2) = ap (λ (m : ℕ → ℕ). word_at m (word (h2.registers 2 + 0))) two.memory ∙ ap (word_at h.memory) at in
    let left : IsLeftBy saved size h t = record {
      sp = four.value ∙ ap (λ x. word (x + size)) sp2 ∙ (omega (arith, high, whole));
      ra = four.kept 1 (λ e. cc) (λ e. cc) ∙ ra;
      depth = four.kept 4 (λ e. cc) (λ e. cc) ∙ ap (λ (f : ℕ → ℕ). f 4) two.registers ∙ restored_low saved (h.registers 2 + 4) h.memory h1.registers 4 (omega arith) can.registers ∙ (omega (arith, deep));
      others = λ q n1 n2 n4 n5. four.kept q n2 n5 ∙ register_other 1 v3 q h2.registers n1 ∙ ap (λ (f : ℕ → ℕ). f q) two.registers
          ∙ restored_agree saved (h.registers 2 + 4) h.memory h.memory h.registers h1.registers q can.registers (λ b low high. refl) (inl (register_other 4 v1 q h.registers n4));
      memory = four.memory ∙ two.memory;
      input = four.input ∙ two.input;
      map = regions_stay (moving_code size) h3 ∙ same;
    } in
    record {
      can = (tt, can_do_both back last h1 two.can (there, four.can));
      left = subst (λ (u : Holding). IsLeftBy saved size h u) (sym both) left;
    }

-- The machine returns: it comes to the word to which the frame says that the function returns.
pub leaving_returns : (regions : Map) (p : Program) (s : MachineState) (i : ℕ) (b : Bool) (h : Holding) (saved : List ℕ) (size index : ℕ) → CanLeave saved size h → Stands p s i h → CodeAt p i b (leaving_code saved size) → word_at h.memory (h.registers 2) ≡ address_of index → index ≤ most_words regions
    → Reaches p (length (leaving_code saved size)) (record { state = s; shown = b }) [] index false (done_by_all (leaving_front saved size) h)
leaving_returns regions p s i b h saved size index can stands code returns low =
    let front = leaving_front saved size in
    let leaves : Leaves saved size h = leaving_leaves saved size h can in
    let t : Holding = done_by_all front h in
    let first = code_does p s i h b front stands (code_front p i b front (Jalr 0 1 0 ∷ []) code) leaves.can in
    let last : IsAt p (i + length front) (behind b front) (Jalr 0 1 0) = (code_rest p i b front (Jalr 0 1 0 ∷ []) code).0 in
    let ra : t.registers 1 ≡ code_start + 4 * index = leaves.left.ra ∙ returns in
    let second = return_does p first.state (i + length front) t index (behind b front) 0 1 0 first.stands last (omega (arith, ra, low, (map_facts regions).few)) in
    let n : length front + 1 ≡ length (leaving_code saved size) = sym (length-append front (Jalr 0 1 0 ∷ [])) in
    subst (λ m. Reaches p m (record { state = s; shown = b }) [] index false t) n
    (reaches_then p (length front) 1 (record { state = s; shown = b }) [] (i + length front) (behind b front) t [] index false t first second)
