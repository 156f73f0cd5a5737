-- The words that set words of memory to zero do so: one by one, and by a loop.
use Rattle.std.proofs.Common.{◌≡◌, ℕ, zero, suc, ◌+◌, ◌-◌, ◌*◌, ◌%◌, ◌<◌, ◌≤◌, ◌⊎◌, ⊎_elim, inl, inr, sym, ap, ◌∙◌, subst, arith, refl, List, [], ◌∷◌, ◌++◌}
use Rattle.std.proofs.lemmas.Bool.{cases_lt}
use Rattle.rv_code.specs.declared.instruction.Instruction.{Instruction}
use Rattle.rv_code.specs.declared.instruction.Instruction.TheVariants.{Store, Immediate}
use Rattle.rv_code.specs.declared.instruction.StoreOperation.TheVariants.{Sw}
use Rattle.rv_code.specs.declared.instruction.ImmediateOperation.TheVariants.{Addi}
use Rattle.rv_machine.specs.State.{word}
use Rattle.rv_machine.specs.Table.{operated_immediate}
use Rattle.rv_emit_instructions.specs.Filling.{zeros_code}
use Rattle.rv_emit_steps.specs.Holding.{Holding, byte_of, with_bytes, IsDataAt}
use Rattle.rv_emit_steps.specs.Doing.{done_by_all, CanDoAll}
use Rattle.rv_emit_steps.proofs.Placing.{done_by_both, can_do_both, regions_stay}
use Rattle.rv_emit_steps.proofs.Registers.{register_same, register_other}
use Rattle.rv_emit_steps.proofs.Apart.{byte_within, byte_outside}
use Rattle.rv_emit_steps.specs.EmitMovesDoing.{IsLeft}
use Rattle.rv_emit_steps.proofs.Looping.{Turns}

-- So many words from an address on are zero in a memory, and the rest is as it was in another.
pub record AreZeroed (a words : ℕ) (before after : ℕ → ℕ) : Type 0 where
  pub within : (b : ℕ) → a ≤ b → b < a + 4 * words → after b ≡ 0
  pub outside : (b : ℕ) → (b < a) ⊎ (a + 4 * words ≤ b) → after b ≡ before b

pub none_zeroed : (a : ℕ) (m : ℕ → ℕ) → AreZeroed a 0 m m
none_zeroed a m = record { within = λ b low high. absurd (omega arith); outside = λ b which. refl }

byte_of_none : (k : ℕ) → byte_of 0 k ≡ 0
byte_of_none zero = refl
byte_of_none (suc zero) = refl
byte_of_none (suc (suc zero)) = refl
byte_of_none (suc (suc (suc k))) = refl

-- One more word.
one_zeroed : (a words at : ℕ) (before after : ℕ → ℕ) → at ≡ a + 4 * words → AreZeroed a words before after → AreZeroed a (words + 1) before (with_bytes 4 at 0 after)
one_zeroed a words at before after e zeroed = record {
  within = λ b low high. ⊎_elim
      (λ (front : b < at). byte_outside 4 at 0 after b (inl front) ∙ zeroed.within b low (omega (arith, front, e)))
      (λ (here : at ≤ b). byte_within 4 at 0 after b here (omega (arith, high, e)) ∙ byte_of_none (b - at))
      (cases_lt b at);
  outside = λ b which. ⊎_elim
      (λ (low : b < a). byte_outside 4 at 0 after b (inl (omega (arith, low, e))) ∙ zeroed.outside b (inl low))
      (λ (high : a + 4 * (words + 1) ≤ b). byte_outside 4 at 0 after b (inr (omega (arith, high, e))) ∙ zeroed.outside b (inr (omega (arith, high))))
      which;
}

-- ---- One by one

pub record Zeroes (code : List Instruction) (h : Holding) (a words : ℕ) : Type 0 where
  pub can : CanDoAll code h
  pub kept : (q : ℕ) → (done_by_all code h).registers q ≡ h.registers q
  pub memory : AreZeroed a words h.memory (done_by_all code h).memory
  pub input : (done_by_all code h).input ≡ h.input

pub zeros_done : (h : Holding) (offset words : ℕ) → h.registers 0 ≡ 0 → h.registers 2 + offset + 4 * words ≤ 2147483648
    → ((k : ℕ) → k < words → IsDataAt h.regions 4 (h.registers 2 + offset + 4 * k)) → Zeroes (zeros_code offset words) h (h.registers 2 + offset) words
zeros_done h offset zero none fits there = record { can = tt; kept = λ q. refl; memory = none_zeroed (h.registers 2 + offset) h.memory; input = refl }
zeros_done h offset (suc n) none fits there =
    let front = zeros_code offset n in
    let rest : Zeroes front h (h.registers 2 + offset) n = zeros_done h offset n none (omega arith) (λ k lt. there k (omega arith)) in
    let t : Holding = done_by_all front h in
    let at : ℕ = word (t.registers 2 + (offset + n * 4 % 4294967296) % 4294967296) in
    let is : at ≡ h.registers 2 + offset + 4 * n = ap (λ s. word (s + (offset + n * 4 % 4294967296) % 4294967296)) (rest.kept 2) ∙ (omega arith) in
    let i : Instruction = Store Sw 0 2 ((offset + n * 4 % 4294967296) % 4294967296) in
    let both : done_by_all (front ++ i ∷ []) h ≡ done_by_all (i ∷ []) t = done_by_both front (i ∷ []) h in
    let next : n + 1 ≡ suc n = omega arith in
    record {
      can = can_do_both front (i ∷ []) h rest.can
          (subst (λ m. IsDataAt m 4 at) (sym (regions_stay front h)) (subst (IsDataAt h.regions 4) (sym is) (there n (omega arith))), tt);
      kept = λ q. ap (λ (u : Holding). u.registers q) both ∙ rest.kept q;
      memory = subst (λ k. AreZeroed (h.registers 2 + offset) k h.memory (done_by_all (front ++ i ∷ []) h).memory) next
          (subst (λ (m : ℕ → ℕ). AreZeroed (h.registers 2 + offset) (n + 1) h.memory m) (sym (ap (λ (u : Holding). u.memory) both ∙ ap (λ v. with_bytes 4 at v t.memory) (rest.kept 0 ∙ none)))
          (one_zeroed (h.registers 2 + offset) n at h.memory t.memory is rest.memory));
      input = ap (λ (u : Holding). u.input) both ∙ rest.input;
    }

-- ---- By a loop

abbrev pub zero_body : List Instruction
zero_body = Store Sw 0 6 0 ∷ Immediate Addi 6 6 4 ∷ []

-- While so many turns are left of all, the words before are zero, and t1 is at the next one.
pub record ZerosLeft (start : Holding) (a words left : ℕ) (h : Holding) : Type 0 where
  pub done : ℕ
  pub sum : done + left ≡ words
  pub at : h.registers 6 ≡ a + 4 * done
  pub limit : h.registers 7 ≡ a + 4 * words
  pub none : h.registers 0 ≡ 0
  pub kept : (q : ℕ) → IsLeft q → h.registers q ≡ start.registers q
  pub memory : AreZeroed a done start.memory h.memory
  pub input : h.input ≡ start.input
  pub regions : h.regions ≡ start.regions

pub zero_turns : (start : Holding) (a words : ℕ) → a + 4 * words ≤ 2147483648 → ((k : ℕ) → k < words → IsDataAt start.regions 4 (a + 4 * k)) → Turns zero_body 7 (ZerosLeft start a words)
unfolding operated_immediate
zero_turns start a words fits there = record {
  can = λ k h l. (let sum = l.sum in let is : word (h.registers 6 + 0) ≡ a + 4 * l.done = omega (arith, l.at, sum) in (subst (λ m. IsDataAt m 4 (word (h.registers 6 + 0))) (sym l.regions) (subst (IsDataAt start.regions 4) (sym is) (there l.done (omega (arith, sum)))), (tt, tt)));
  next = λ k h l.
      (let sum = l.sum in
      let is : word (h.registers 6 + 0) ≡ a + 4 * l.done = omega (arith, l.at, sum) in
      let v : ℕ = word (h.registers 6 + 4) in
      record {
        done = l.done + 1;
        sum = omega (arith, sum);
        at = register_same 6 v h.registers (omega arith) ∙ (omega (arith, l.at, sum));
        limit = register_other 6 v 7 h.registers (λ e. cc) ∙ l.limit;
        none = register_other 6 v 0 h.registers (λ e. cc) ∙ l.none;
        kept = λ q left. register_other 6 v q h.registers left.t1 ∙ l.kept q left;
        memory = subst (λ (m : ℕ → ℕ). AreZeroed a (l.done + 1) start.memory m) (ap (λ x. with_bytes 4 (word (h.registers 6 + 0)) x h.memory) (sym l.none)) (one_zeroed a l.done (word (h.registers 6 + 0)) start.memory h.memory is l.memory);
        input = l.input;
        regions = l.regions;
      });
  ends = λ h l. (let sum = l.sum in omega (arith, l.at, l.limit, sum));
  goes = λ k h l. (let sum = l.sum in λ e. omega (arith, l.at, l.limit, sum, e));
}
