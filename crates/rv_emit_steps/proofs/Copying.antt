-- A loop that copies words from one place of memory to another does so.
use Rattle.std.proofs.Common.{◌≡◌, ℕ, zero, suc, ◌+◌, ◌-◌, ◌*◌, ◌<◌, ◌≤◌, ◌⊎◌, ⊎_elim, inl, inr, sym, ap, ◌∙◌, subst, arith, refl, List, [], ◌∷◌}
use Rattle.std.proofs.lemmas.Bool.{cases_lt}
use Rattle.rv_code.specs.declared.instruction.Instruction.{Instruction}
use Rattle.rv_code.specs.declared.instruction.Instruction.TheVariants.{Load, Store, Immediate}
use Rattle.rv_code.specs.declared.instruction.LoadOperation.TheVariants.{Lw}
use Rattle.rv_code.specs.declared.instruction.StoreOperation.TheVariants.{Sw}
use Rattle.rv_code.specs.declared.instruction.ImmediateOperation.TheVariants.{Addi}
use Rattle.rv_machine.specs.State.{word}
use Rattle.rv_machine.specs.Table.{operated_immediate}
use Rattle.rv_emit_steps.specs.Holding.{Holding, byte_of, with_register, word_at, with_bytes, IsDataAt}
use Rattle.rv_emit_steps.specs.Doing.{done_by_all}
use Rattle.rv_emit_steps.proofs.Registers.{register_same, register_other}
use Rattle.rv_emit_steps.proofs.Apart.{byte_within, byte_outside, bytes_in_range}
use Rattle.rv_emit_steps.specs.EmitMovesDoing.{IsLeft}
use Rattle.rv_emit_steps.proofs.Looping.{Turns}

-- So many words from an address on are those that stood from another one on, and the rest is as it was.
pub record AreCopied (to from words : ℕ) (before after : ℕ → ℕ) : Type 0 where
  pub within : (k : ℕ) → k < 4 * words → after (to + k) ≡ before (from + k)
  pub outside : (b : ℕ) → (b < to) ⊎ (to + 4 * words ≤ b) → after b ≡ before b

pub none_copied : (to from : ℕ) (m : ℕ → ℕ) → AreCopied to from 0 m m
none_copied to from m = record { within = λ k lt. absurd (omega arith); outside = λ b which. refl }

-- The bytes of a word of memory are the word's.
byte_of_word : (m : ℕ → ℕ) (a k : ℕ) → ((b : ℕ) → m b < 256) → k < 4 → byte_of (word_at m a) k ≡ m (a + k)
byte_of_word m a zero small lt = let h0 = small a in let here : a + 0 ≡ a = omega arith in (omega (arith, h0)) ∙ ap m (sym here)
byte_of_word m a (suc zero) small lt = let h0 = small a in let h1 = small (a + 1) in omega (arith, h0, h1)
byte_of_word m a (suc (suc zero)) small lt = let h0 = small a in let h1 = small (a + 1) in let h2 = small (a + 2) in omega (arith, h0, h1, h2)
byte_of_word m a (suc (suc (suc zero))) small lt = let h0 = small a in let h1 = small (a + 1) in let h2 = small (a + 2) in let h3 = small (a + 3) in omega (arith, h0, h1, h2, h3)
byte_of_word m a (suc (suc (suc (suc k)))) small lt = absurd (omega (arith, lt))

-- One more word, of bytes that are apart from those that are written.
one_copied : (to from words at source : ℕ) (before after : ℕ → ℕ) → at ≡ to + 4 * words → source ≡ from + 4 * words → ((b : ℕ) → after b < 256) → (from + 4 * (words + 1) ≤ to) ⊎ (to + 4 * (words + 1) ≤ from)
    → AreCopied to from words before after → AreCopied to from (words + 1) before (with_bytes 4 at (word_at after source) after)
one_copied to from words at source before after e f small apart copied = record {
  within = λ k lt. ⊎_elim
      (λ (front : k < 4 * words). byte_outside 4 at (word_at after source) after (to + k) (inl (omega (arith, front, e))) ∙ copied.within k front)
      (λ (here : 4 * words ≤ k). last k here lt)
      (cases_lt k (4 * words));
  outside = λ b which. ⊎_elim
      (λ (low : b < to). byte_outside 4 at (word_at after source) after b (inl (omega (arith, low, e))) ∙ copied.outside b (inl low))
      (λ (high : to + 4 * (words + 1) ≤ b). byte_outside 4 at (word_at after source) after b (inr (omega (arith, high, e))) ∙ copied.outside b (inr (omega (arith, high))))
      which;
}
  where
    last : (k : ℕ) → 4 * words ≤ k → k < 4 * (words + 1) → with_bytes 4 at (word_at after source) after (to + k) ≡ before (from + k)
    last k here lt =
        let d : to + k - at ≡ k - 4 * words = omega (arith, e) in
        let there : source + (k - 4 * words) ≡ from + k = omega (arith, f, here) in
        byte_within 4 at (word_at after source) after (to + k) (omega (arith, e, here)) (omega (arith, e, lt)) ∙ ap (byte_of (word_at after source)) d
        ∙ byte_of_word after source (k - 4 * words) small (omega (arith, here, lt)) ∙ ap after there
        ∙ copied.outside (from + k) (⊎_elim (λ (below : from + 4 * (words + 1) ≤ to). inl (omega (arith, below, lt))) (λ (above : to + 4 * (words + 1) ≤ from). inr (omega (arith, above))) apart)

abbrev pub copy_body : List Instruction
copy_body = Load Lw 5 7 0 ∷ Store Sw 5 6 0 ∷ Immediate Addi 7 7 4 ∷ Immediate Addi 6 6 4 ∷ []

-- While so many turns are left of all, the words before are copied, t1 is where the next one goes, and t2 where it stands.
pub record CopiesLeft (start : Holding) (to from words left : ℕ) (h : Holding) : Type 0 where
  pub done : ℕ
  pub sum : done + left ≡ words
  pub at : h.registers 6 ≡ to + 4 * done
  pub source : h.registers 7 ≡ from + 4 * done
  pub limit : h.registers 10 ≡ to + 4 * words
  pub small : (b : ℕ) → h.memory b < 256
  pub kept : (q : ℕ) → IsLeft q → h.registers q ≡ start.registers q
  pub memory : AreCopied to from done start.memory h.memory
  pub input : h.input ≡ start.input
  pub regions : h.regions ≡ start.regions

pub copy_turns : (start : Holding) (to from words : ℕ) → to + 4 * words ≤ 2147483648 → from + 4 * words ≤ 2147483648 → (from + 4 * words ≤ to) ⊎ (to + 4 * words ≤ from)
    → ((k : ℕ) → k < words → IsDataAt start.regions 4 (to + 4 * k)) → ((k : ℕ) → k < words → IsDataAt start.regions 4 (from + 4 * k)) → Turns copy_body 10 (CopiesLeft start to from words)
unfolding operated_immediate
copy_turns start to from words fits also apart there here = record {
  can = λ k h l.
      (let sum = l.sum in
      let f1 : ℕ → ℕ = with_register 5 (word_at h.memory (word (h.registers 7 + 0))) h.registers in
      let is : word (h.registers 7 + 0) ≡ from + 4 * l.done = omega (arith, l.source, sum) in
      let t1 : f1 6 ≡ h.registers 6 = register_other 5 (word_at h.memory (word (h.registers 7 + 0))) 6 h.registers (λ e. cc) in
      let to_is : word (f1 6 + 0) ≡ to + 4 * l.done = omega (arith, t1, l.at, sum) in (
        subst (λ m. IsDataAt m 4 (word (h.registers 7 + 0))) (sym l.regions) (subst (IsDataAt start.regions 4) (sym is) (here l.done (omega (arith, sum)))),
        (subst (λ m. IsDataAt m 4 (word (f1 6 + 0))) (sym l.regions) (subst (IsDataAt start.regions 4) (sym to_is) (there l.done (omega (arith, sum)))), (tt, (tt, tt))),
      ));
  next = λ k h l. next_copied k h l;
  ends = λ h l. (let sum = l.sum in omega (arith, l.at, l.limit, sum));
  goes = λ k h l. (let sum = l.sum in λ e. omega (arith, l.at, l.limit, sum, e));
}
  where
    next_copied : (k : ℕ) (h : Holding) → CopiesLeft start to from words (suc k) h → CopiesLeft start to from words k (done_by_all copy_body h)
    next_copied k h l =
        let sum = l.sum in
        let a : ℕ = word (h.registers 7 + 0) in
        let v5 : ℕ = word_at h.memory a in
        let f1 : ℕ → ℕ = with_register 5 v5 h.registers in
        let v7 : ℕ = word (f1 7 + 4) in
        let f2 : ℕ → ℕ = with_register 7 v7 f1 in
        let v6 : ℕ = word (f2 6 + 4) in
        let e7 : f1 7 ≡ h.registers 7 = register_other 5 v5 7 h.registers (λ e. cc) in
        let e6 : f1 6 ≡ h.registers 6 = register_other 5 v5 6 h.registers (λ e. cc) in
        let e62 : f2 6 ≡ h.registers 6 = register_other 7 v7 6 f1 (λ e. cc) ∙ e6 in
        let is : a ≡ from + 4 * l.done = omega (arith, l.source, sum) in
        let to_is : word (f1 6 + 0) ≡ to + 4 * l.done = omega (arith, e6, l.at, sum) in
        let e5 : f1 5 ≡ v5 = register_same 5 v5 h.registers (omega arith) in
        record {
          done = l.done + 1;
          sum = omega (arith, sum);
          at = register_same 6 v6 f2 (omega arith) ∙ (omega (arith, e62, l.at, sum));
          source = register_other 6 v6 7 f2 (λ e. cc) ∙ register_same 7 v7 f1 (omega arith) ∙ (omega (arith, e7, l.source, sum));
          limit = register_other 6 v6 10 f2 (λ e. cc) ∙ register_other 7 v7 10 f1 (λ e. cc) ∙ register_other 5 v5 10 h.registers (λ e. cc) ∙ l.limit;
          small = bytes_in_range 4 (word (f1 6 + 0)) (f1 5) h.memory l.small;
          kept = λ q left. register_other 6 v6 q f2 left.t1 ∙ register_other 7 v7 q f1 left.t2 ∙ register_other 5 v5 q h.registers left.t0 ∙ l.kept q left;
          memory = subst (λ (m : ℕ → ℕ). AreCopied to from (l.done + 1) start.memory m) (ap (λ x. with_bytes 4 (word (f1 6 + 0)) x h.memory) (sym e5))
              (one_copied to from l.done (word (f1 6 + 0)) a start.memory h.memory to_is is l.small
              (⊎_elim (λ (below : from + 4 * words ≤ to). inl (omega (arith, below, sum))) (λ (above : to + 4 * words ≤ from). inr (omega (arith, above, sum))) apart) l.memory);
          input = l.input;
          regions = l.regions;
        }
