-- The words that load and store a slot do so, near and far.
use Rattle.std.proofs.Common.{◌≡◌, ◌≢◌, ℕ, ◌+◌, ◌*◌, ◌%◌, ◌<◌, ◌≤◌, inr, ap, ◌∙◌, arith, refl, Bool, true, false, cond, List, [], ◌∷◌}
use Rattle.std.specs.Prelude.{nat_lt}
use Rattle.memory_map.specs.Maps.{stack_end, stack_start}
use Rattle.memory_map.proofs.Facts.{map_facts}
use Rattle.rv_code.specs.declared.instruction.Instruction.{Instruction}
use Rattle.rv_code.specs.declared.instruction.Instruction.TheVariants.{Lui, Load, Store, Register}
use Rattle.rv_code.specs.declared.instruction.LoadOperation.TheVariants.{Lw}
use Rattle.rv_code.specs.declared.instruction.StoreOperation.TheVariants.{Sw}
use Rattle.rv_code.specs.declared.instruction.RegisterOperation.TheVariants.{Add}
use Rattle.rv_machine.specs.State.{word}
use Rattle.rv_machine.specs.Table.{operation_result}
use Rattle.rv_emit_words.specs.Constants.{low_part, high_part}
use Rattle.rv_emit_words.specs.Operands.{load_slot_code, store_slot_code}
use Rattle.rv_emit_steps.specs.Holding.{Holding, with_register, word_at, with_bytes, IsDataAt}
use Rattle.rv_emit_steps.proofs.Registers.{register_same, register_other}
use Rattle.rv_emit_steps.specs.EmitMovesDoing.{Brings, Stores, HasSlot}
use Rattle.rv_emit_steps.proofs.Parts.{parts_reach}

-- The address of a slot, from sp and from t0.
near_address : (h : Holding) (offset : ℕ) → HasSlot h offset → word (h.registers 2 + offset) ≡ h.registers 2 + offset
near_address h offset slot = let high : h.registers 2 + offset + 4 ≤ stack_end h.regions = slot.high in let whole = (map_facts h.regions).whole in omega arith

far_address : (h : Holding) (offset : ℕ) → HasSlot h offset → word (word (high_part offset * 4096 + h.registers 2) + low_part offset) ≡ h.registers 2 + offset
far_address h offset slot = let high : h.registers 2 + offset + 4 ≤ stack_end h.regions = slot.high in let whole = (map_facts h.regions).whole in parts_reach offset (h.registers 2) (omega arith) ∙ near_address h offset slot

slot_data : (h : Holding) (offset a : ℕ) → HasSlot h offset → a ≡ h.registers 2 + offset → IsDataAt h.regions 4 a
slot_data h offset a slot e =
    let aligned : (h.registers 2 + offset) % 4 ≡ 0 = slot.aligned in
    let low : stack_start h.regions ≤ h.registers 2 = slot.low in
    let high : h.registers 2 + offset + 4 ≤ stack_end h.regions = slot.high in
    (omega arith, inr (omega arith, omega arith))

-- A slot is loaded into a register that is not t0.
pub slot_brings : (h : Holding) (r offset : ℕ) → 0 < r → HasSlot h offset → Brings (load_slot_code r offset) h r r (word_at h.memory (h.registers 2 + offset))
unfolding operation_result
slot_brings h r offset some slot = by_test (nat_lt offset 2048)
  where
    far : List Instruction
    far = Lui 5 (high_part offset) ∷ Register Add 5 5 2 ∷ Load Lw r 5 (low_part offset) ∷ []

    by_test : (b : Bool) → Brings (cond b (Load Lw r 2 offset ∷ []) far) h r r (word_at h.memory (h.registers 2 + offset))
    by_test true =
        let at : word (h.registers 2 + offset) ≡ h.registers 2 + offset = near_address h offset slot in
        record {
          can = (slot_data h offset (word (h.registers 2 + offset)) slot at, tt);
          value = register_same r (word_at h.memory (word (h.registers 2 + offset))) h.registers some ∙ ap (word_at h.memory) at;
          kept = λ q other scratch. register_other r (word_at h.memory (word (h.registers 2 + offset))) q h.registers other;
          memory = refl;
          input = refl;
        }
    by_test false =
        let v1 : ℕ = high_part offset * 4096 in
        let f1 : ℕ → ℕ = with_register 5 v1 h.registers in
        let v2 : ℕ = word (v1 + h.registers 2) in
        let f2 : ℕ → ℕ = with_register 5 v2 f1 in
        let a : ℕ = word (word (high_part offset * 4096 + h.registers 2) + low_part offset) in
        let at : a ≡ h.registers 2 + offset = far_address h offset slot in
        record {
          can = (tt, (tt, (slot_data h offset a slot at, tt)));
          value = register_same r (word_at h.memory a) f2 some ∙ ap (word_at h.memory) at;
          kept = λ q other scratch. register_other r (word_at h.memory a) q f2 other ∙ register_other 5 v2 q f1 scratch ∙ register_other 5 v1 q h.registers scratch;
          memory = refl;
          input = refl;
        }

-- A register that is not t0 is stored in a slot.
pub slot_stored : (h : Holding) (r offset : ℕ) → r ≢ 5 → HasSlot h offset → Stores (store_slot_code r offset) h (h.registers 2 + offset) (h.registers r)
unfolding operation_result
slot_stored h r offset apart slot = by_test (nat_lt offset 2048)
  where
    far : List Instruction
    far = Lui 5 (high_part offset) ∷ Register Add 5 5 2 ∷ Store Sw r 5 (low_part offset) ∷ []

    by_test : (b : Bool) → Stores (cond b (Store Sw r 2 offset ∷ []) far) h (h.registers 2 + offset) (h.registers r)
    by_test true =
        let at : word (h.registers 2 + offset) ≡ h.registers 2 + offset = near_address h offset slot in
        record {
          can = (slot_data h offset (word (h.registers 2 + offset)) slot at, tt);
          kept = λ q scratch. refl;
          memory = ap (λ a. with_bytes 4 a (h.registers r) h.memory) at;
          input = refl;
        }
    by_test false =
        let v1 : ℕ = high_part offset * 4096 in
        let f1 : ℕ → ℕ = with_register 5 v1 h.registers in
        let v2 : ℕ = word (v1 + h.registers 2) in
        let f2 : ℕ → ℕ = with_register 5 v2 f1 in
        let a : ℕ = word (word (high_part offset * 4096 + h.registers 2) + low_part offset) in
        let at : a ≡ h.registers 2 + offset = far_address h offset slot in
        record {
          can = (tt, (tt, (slot_data h offset a slot at, tt)));
          kept = λ q scratch. register_other 5 v2 q f1 scratch ∙ register_other 5 v1 q h.registers scratch;
          memory = ap (λ v. with_bytes 4 a v h.memory) (register_other 5 v2 r f1 apart ∙ register_other 5 v1 r h.registers apart) ∙ ap (λ x. with_bytes 4 x (h.registers r) h.memory) at;
          input = refl;
        }
