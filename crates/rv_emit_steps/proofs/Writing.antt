-- The words that write a home do so.
use Rattle.std.proofs.Common.{◌≡◌, ◌≢◌, ℕ, ◌+◌, ◌%◌, ◌<◌, ap, ◌∙◌, arith, refl}
use Rattle.graph_homes.specs.declared.home.Home.{Home}
use Rattle.graph_homes.specs.declared.home.Home.TheVariants.{Register, Slot}
use Rattle.rv_emit_storage.specs.Storages.{StorageForm, slot_at}
use Rattle.rv_emit_words.specs.Operands.{home_written, result_register, finishing}
use Rattle.rv_emit_steps.specs.Holding.{Holding, word_at, with_bytes}
use Rattle.rv_emit_steps.specs.Doing.{done_by_all}
use Rattle.rv_emit_steps.proofs.Apart.{word_stored}
use Rattle.rv_emit_steps.specs.EmitMovesDoing.{Writes, HasSlot, CanWrite}
use Rattle.rv_emit_steps.proofs.Constants.{addi_brings}
use Rattle.rv_emit_steps.proofs.Slots.{slot_stored}

-- A slot that is stored holds what was stored.
slot_written : (g : StorageForm) (h : Holding) (r k v : ℕ) → r ≢ 5 → HasSlot h (slot_at g k) → h.registers r ≡ v → v < 4294967296 → Writes g (finishing g (Slot k) r) h (Slot k) v
slot_written g h r k v apart slot is fits =
    let made = slot_stored h r (slot_at g k) apart slot in
    let a : ℕ = h.registers 2 + slot_at g k in
    record {
      can = made.can;
      value = ap (λ s. word_at (done_by_all (finishing g (Slot k) r) h).memory (s + slot_at g k)) (made.kept 2 (λ e. cc))
          ∙ ap (λ (m : ℕ → ℕ). word_at m a) made.memory ∙ ap (λ x. word_at (with_bytes 4 a x h.memory) a) is ∙ word_stored a v h.memory fits;
      kept = λ q none scratch. made.kept q scratch;
      memory = made.memory ∙ ap (λ x. with_bytes 4 a x h.memory) is;
      input = made.input;
    }

-- A home is written from a register that holds a word.
pub home_writes : (g : StorageForm) (h : Holding) (home : Home) (r v : ℕ) → CanWrite g h home → r ≢ 5 → h.registers r ≡ v → v < 4294967296 → Writes g (home_written g home r) h home v
home_writes g h (Register q) r v can apart is fits =
    let made = addi_brings h q r 0 v can.0 (ap (λ x. (x + 0) % 4294967296) is ∙ (omega arith)) in
    record { can = made.can; value = made.value; kept = made.kept; memory = made.memory; input = made.input }
home_writes g h (Slot k) r v can apart is fits = slot_written g h r k v apart can is fits

-- A result that was made in its register is in its home: nothing is to be done for a register, and a slot is stored from t1.
pub result_finished : (g : StorageForm) (h : Holding) (home : Home) (v : ℕ) → CanWrite g h home → h.registers (result_register home) ≡ v → v < 4294967296 → Writes g (finishing g home (result_register home)) h home v
result_finished g h (Register r) v can is fits = record { can = tt; value = is; kept = λ q none scratch. refl; memory = refl; input = refl }
result_finished g h (Slot k) v can is fits = slot_written g h 6 k v (λ e. cc) can is fits
