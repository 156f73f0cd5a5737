-- The words that bring a constant into a register do so.
use Rattle.std.proofs.Common.{◌≡◌, ℕ, ◌+◌, ◌*◌, ◌<◌, ap, ◌∙◌, arith, refl, Bool, true, false, cond, ◌||◌, ◌&&◌, not, List, [], ◌∷◌}
use Rattle.std.specs.Prelude.{◌==◌}
use Rattle.std.proofs.lemmas.Bool.{eqb-true}
use Rattle.rv_code.specs.declared.instruction.Instruction.{Instruction}
use Rattle.rv_code.specs.declared.instruction.Instruction.TheVariants.{Lui, Immediate}
use Rattle.rv_code.specs.declared.instruction.ImmediateOperation.TheVariants.{Addi}
use Rattle.rv_machine.specs.State.{word}
use Rattle.rv_machine.specs.Table.{operated_immediate}
use Rattle.word_base.specs.Arithmetic.{subtracted}
use Rattle.rv_emit_words.specs.Constants.{is_small, low_part, high_part, constant_code}
use Rattle.rv_emit_steps.specs.Holding.{Holding}
use Rattle.rv_emit_steps.proofs.Registers.{register_same, register_other}
use Rattle.rv_emit_steps.specs.EmitMovesDoing.{Brings}
use Rattle.rv_emit_steps.proofs.Parts.{parts_make, high_part_alone, difference_adds}

-- An ADDI to a register that holds a number.
pub addi_brings : (h : Holding) (r a n v : ℕ) → 0 < r → word (h.registers a + n) ≡ v → Brings (Immediate Addi r a n ∷ []) h r r v
unfolding operated_immediate
addi_brings h r a n v some e = record {
  can = (tt, tt);
  value = register_same r (word (h.registers a + n)) h.registers some ∙ e;
  kept = λ q other scratch. register_other r (word (h.registers a + n)) q h.registers other;
  memory = refl;
  input = refl;
}

pub lui_brings : (h : Holding) (r n v : ℕ) → 0 < r → n * 4096 ≡ v → Brings (Lui r n ∷ []) h r r v
lui_brings h r n v some e = record {
  can = (tt, tt);
  value = register_same r (n * 4096) h.registers some ∙ e;
  kept = λ q other scratch. register_other r (n * 4096) q h.registers other;
  memory = refl;
  input = refl;
}

pub both_bring : (h : Holding) (r n m v : ℕ) → 0 < r → word (n * 4096 + m) ≡ v → Brings (Lui r n ∷ Immediate Addi r r m ∷ []) h r r v
unfolding operated_immediate
both_bring h r n m v some e = record {
  can = (tt, (tt, tt));
  value = register_same r _ _ some ∙ ap (λ x. word (x + m)) (register_same r (n * 4096) h.registers some) ∙ e;
  kept = λ q other scratch. register_other r _ q _ other ∙ register_other r (n * 4096) q h.registers other;
  memory = refl;
  input = refl;
}

-- A constant is brought into a register, where register 0 holds 0 and gp the base.
pub constant_brings : (h : Holding) (r w base : ℕ) → 0 < r → w < 4294967296 → base < 4294967296 → h.registers 0 ≡ 0 → h.registers 3 ≡ base → Brings (constant_code r w base) h r r w
constant_brings h r w base some fits within none gp = by_tests (is_small w) (low_part w == 0) (is_small (subtracted w base)) refl
  where
    code_by : (small alone near : Bool) → List Instruction
    code_by s z n =
        cond (cond (s || (z || (not s && (not z && n)))) 1 2 == 1)
        (cond s (Immediate Addi r 0 w) (cond (not s && (not z && n)) (Immediate Addi r 3 (subtracted w base)) (Lui r (high_part w))) ∷ [])
        (Lui r (high_part w) ∷ Immediate Addi r r (low_part w) ∷ [])

    by_tests : (s z n : Bool) → (low_part w == 0) ≡ z → Brings (code_by s z n) h r r w
    by_tests true z n e = addi_brings h r 0 w w some (ap (λ x. word (x + w)) none ∙ (omega arith))
    by_tests false true n e = lui_brings h r (high_part w) w some (high_part_alone w fits (eqb-true (low_part w) 0 e))
    by_tests false false true e = addi_brings h r 3 (subtracted w base) w some (ap (λ x. word (x + subtracted w base)) gp ∙ difference_adds w base fits within)
    by_tests false false false e = both_bring h r (high_part w) (low_part w) w some (parts_make w fits)
