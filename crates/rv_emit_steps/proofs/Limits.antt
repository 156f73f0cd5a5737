-- The words that set up a loop over words: where it begins and where it ends.
use Rattle.std.proofs.Common.{◌≡◌, ◌≢◌, ℕ, ◌+◌, ◌*◌, ◌<◌, sym, ap, ◌∙◌, arith, refl, List, [], ◌∷◌, ◌++◌, Bool, true, false, cond, not, ◌||◌, ◌&&◌}
use Rattle.std.specs.Prelude.{◌==◌, nat_lt}
use Rattle.std.proofs.lemmas.Bool.{eqb-true}
use Rattle.word_base.specs.Arithmetic.{subtracted}
use Rattle.rv_code.specs.declared.instruction.Instruction.{Instruction}
use Rattle.rv_code.specs.declared.instruction.Instruction.TheVariants.{Lui, Immediate, Register}
use Rattle.rv_code.specs.declared.instruction.ImmediateOperation.TheVariants.{Addi}
use Rattle.rv_code.specs.declared.instruction.RegisterOperation.TheVariants.{Add}
use Rattle.rv_machine.specs.State.{word}
use Rattle.rv_machine.specs.Table.{operation_result, operated_immediate}
use Rattle.rv_emit_words.specs.Constants.{is_small, low_part, high_part, constant_code}
use Rattle.rv_emit_words.specs.Operands.{address_code}
use Rattle.rv_emit_instructions.specs.Filling.{limit_code}
use Rattle.rv_emit_steps.specs.Holding.{Holding, with_register}
use Rattle.rv_emit_steps.specs.Doing.{done_by_all, writing}
use Rattle.rv_emit_steps.proofs.Placing.{done_by_both, can_do_both}
use Rattle.rv_emit_steps.proofs.Registers.{register_same, register_other}
use Rattle.rv_emit_steps.specs.EmitMovesDoing.{Brings}
use Rattle.rv_emit_steps.proofs.Constants.{addi_brings, lui_brings, both_bring}
use Rattle.rv_emit_steps.proofs.Parts.{high_part_alone, parts_make}

-- The address of a byte of the frame is brought into a register by way of itself.
pub address_brings : (h : Holding) (r offset : ℕ) → 0 < r → r ≢ 2 → h.registers 2 + offset < 4294967296 → Brings (address_code r r offset) h r r (h.registers 2 + offset)
unfolding operation_result operated_immediate
address_brings h r offset some apart fits = by_tests (nat_lt offset 2048) (low_part offset == 0) refl
  where
    by_tests : (b z : Bool) → (low_part offset == 0) ≡ z
        → Brings (cond b (Immediate Addi r 2 offset ∷ []) (cond z (Lui r (high_part offset) ∷ Register Add r r 2 ∷ []) (Lui r (high_part offset) ∷ Immediate Addi r r (low_part offset) ∷ Register Add r r 2 ∷ []))) h r r (h.registers 2 + offset)
    by_tests true z e = addi_brings h r 2 offset (h.registers 2 + offset) some (omega arith)
    by_tests false true e =
        let alone : high_part offset * 4096 ≡ offset = high_part_alone offset (omega arith) (eqb-true (low_part offset) 0 e) in
        let v1 : ℕ = high_part offset * 4096 in
        let f1 : ℕ → ℕ = with_register r v1 h.registers in
        let sp : f1 2 ≡ h.registers 2 = register_other r v1 2 h.registers (λ f. apart (sym f)) in
        let v2 : ℕ = word (f1 r + f1 2) in
        record {
          can = (tt, (tt, tt));
          value = register_same r v2 f1 some ∙ ap (λ x. word (x + f1 2)) (register_same r v1 h.registers some) ∙ ap (λ x. word (v1 + x)) sp ∙ (omega (arith, alone));
          kept = λ q other scratch. register_other r v2 q f1 other ∙ register_other r v1 q h.registers other;
          memory = refl;
          input = refl;
        }
    by_tests false false e =
        let made : word (high_part offset * 4096 + low_part offset) ≡ offset = parts_make offset (omega arith) in
        let v1 : ℕ = high_part offset * 4096 in
        let f1 : ℕ → ℕ = with_register r v1 h.registers in
        let v2 : ℕ = word (f1 r + low_part offset) in
        let f2 : ℕ → ℕ = with_register r v2 f1 in
        let sp : f2 2 ≡ h.registers 2 = register_other r v2 2 f1 (λ f. apart (sym f)) ∙ register_other r v1 2 h.registers (λ f. apart (sym f)) in
        let v3 : ℕ = word (f2 r + f2 2) in
        let upper : v2 ≡ offset = ap (λ x. word (x + low_part offset)) (register_same r v1 h.registers some) ∙ made in
        record {
          can = (tt, (tt, (tt, tt)));
          value = register_same r v3 f2 some ∙ ap (λ x. word (x + f2 2)) (register_same r v2 f1 some ∙ upper) ∙ ap (λ x. word (offset + x)) sp ∙ (omega arith);
          kept = λ q other scratch. register_other r v3 q f2 other ∙ register_other r v2 q f1 other ∙ register_other r v1 q h.registers other;
          memory = refl;
          input = refl;
        }

-- A constant by no other register: it is never near 0 where it is not small.
pub constant_alone : (h : Holding) (r n : ℕ) → 0 < r → n < 4294967296 → h.registers 0 ≡ 0 → Brings (constant_code r n 0) h r r n
constant_alone h r n some fits none = by_tests (is_small n) (low_part n == 0) (is_small (subtracted n 0)) refl refl refl
  where
    same : subtracted n 0 ≡ n
    same = omega arith

    code_by : (small alone near : Bool) → List Instruction
    code_by s z m =
        cond (cond (s || (z || (not s && (not z && m)))) 1 2 == 1)
        (cond s (Immediate Addi r 0 n) (cond (not s && (not z && m)) (Immediate Addi r 3 (subtracted n 0)) (Lui r (high_part n))) ∷ [])
        (Lui r (high_part n) ∷ Immediate Addi r r (low_part n) ∷ [])

    by_tests : (s z m : Bool) → is_small n ≡ s → (low_part n == 0) ≡ z → is_small (subtracted n 0) ≡ m → Brings (code_by s z m) h r r n
    by_tests true z m es ez em = addi_brings h r 0 n n some (ap (λ x. word (x + n)) none ∙ (omega arith))
    by_tests false true m es ez em = lui_brings h r (high_part n) n some (high_part_alone n fits (eqb-true (low_part n) 0 ez))
    by_tests false false true es ez em = let clash : false ≡ true = sym es ∙ ap is_small (sym same) ∙ em in cc
    by_tests false false false es ez em = both_bring h r (high_part n) (low_part n) n some (parts_make n fits)

-- The sum of t1 and a number of bytes is brought into another register.
pub limit_brings : (h : Holding) (r bytes : ℕ) → 0 < r → r ≢ 6 → bytes < 4294967296 → h.registers 0 ≡ 0 → h.registers 6 + bytes < 4294967296 → Brings (limit_code r bytes) h r r (h.registers 6 + bytes)
unfolding operation_result
limit_brings h r bytes some apart fits none sum = by_test (is_small bytes)
  where
    by_test : (b : Bool) → Brings (cond b (Immediate Addi r 6 bytes ∷ []) (constant_code r bytes 0 ++ Register Add r r 6 ∷ [])) h r r (h.registers 6 + bytes)
    by_test true = addi_brings h r 6 bytes (h.registers 6 + bytes) some (omega arith)
    by_test false =
        let front = constant_code r bytes 0 in
        let a : Brings front h r r bytes = constant_alone h r bytes some fits none in
        let t : Holding = done_by_all front h in
        let v : ℕ = word (t.registers r + t.registers 6) in
        let both : done_by_all (front ++ Register Add r r 6 ∷ []) h ≡ writing r v t = done_by_both front (Register Add r r 6 ∷ []) h in
        let t1 : t.registers 6 ≡ h.registers 6 = a.kept 6 (λ e. apart (sym e)) (λ e. cc) in
        record {
          can = can_do_both front (Register Add r r 6 ∷ []) h a.can (tt, tt);
          value = ap (λ (u : Holding). u.registers r) both ∙ register_same r v t.registers some ∙ ap (λ x. word (x + t.registers 6)) a.value ∙ ap (λ x. word (bytes + x)) t1 ∙ (omega arith);
          kept = λ q other scratch. ap (λ (u : Holding). u.registers q) both ∙ register_other r v q t.registers other ∙ a.kept q other scratch;
          memory = ap (λ (u : Holding). u.memory) both ∙ a.memory;
          input = ap (λ (u : Holding). u.input) both ∙ a.input;
        }
