-- The words that bring what is read into one register do so.
use Rattle.std.proofs.Common.{◌≡◌, ◌≢◌, ℕ, ◌+◌, ◌<◌, sym, ap, arith, refl, Bool, true, false, cond, List, [], ◌∷◌}
use Rattle.std.specs.Prelude.{◌==◌}
use Rattle.std.proofs.lemmas.Bool.{eqb-true}
use Rattle.rv_code.specs.declared.instruction.Instruction.TheVariants.{Immediate}
use Rattle.rv_code.specs.declared.instruction.ImmediateOperation.TheVariants.{Addi}
use Rattle.graph_homes.specs.declared.home.Home.{Home}
use Rattle.graph_homes.specs.declared.home.Home.TheVariants.{Register, Slot}
use Rattle.rv_emit_words.specs.declared.piece.Held.{Held}
use Rattle.rv_emit_storage.specs.declared.storage.Source.{Source}
use Rattle.rv_emit_storage.specs.declared.storage.Source.TheVariants.{Home as OfHome, Word}
use Rattle.rv_emit_storage.specs.Storages.{StorageForm, slot_at}
use Rattle.rv_emit_words.specs.Operands.{bringing, home_written}
use Rattle.rv_code.specs.declared.instruction.LoadOperation.TheVariants.{Lw}
use Rattle.rv_emit_steps.specs.Holding.{Holding, AreInRange}
use Rattle.rv_emit_steps.proofs.Apart.{loaded_in_range}
use Rattle.rv_emit_steps.specs.EmitMovesDoing.{Brings, Writes, Makes, CanFetch, CanWrite, IsLeft, IsReadable, value_of}
use Rattle.rv_emit_steps.proofs.Constants.{addi_brings}
use Rattle.rv_emit_steps.proofs.Moves.{constant_set}
use Rattle.rv_emit_steps.proofs.Slots.{slot_brings}
use Rattle.rv_emit_steps.proofs.Writing.{home_writes}

-- Registers that no fetch writes hold words, and memory bytes.
pub record HoldsWords (h : Holding) : Type 0 where
  pub words : (q : ℕ) → IsLeft q → h.registers q < 4294967296
  pub bytes : (a : ℕ) → h.memory a < 256

pub words_in_range : (h : Holding) → AreInRange h → HoldsWords h
words_in_range h range = record { words = λ q left. range.words q; bytes = range.bytes }

-- What is read is a word.
pub read_fits : (g : StorageForm) (h : Holding) (source : Source) → HoldsWords h → IsReadable g h source → value_of g h source < 4294967296
read_fits g h (OfHome (Register r)) range readable = range.words r readable
read_fits g h (OfHome (Slot k)) range readable = loaded_in_range Lw (h.registers 2 + slot_at g k) h.memory range.bytes
read_fits g h (Word w) range readable = omega (arith, readable)

-- It is brought into a register.
pub source_brought : (g : StorageForm) (held : List Held) (h : Holding) (r : ℕ) (source : Source) → 0 < r → CanFetch g held h → HoldsWords h → IsReadable g h source → Brings (bringing g held r source) h r r (value_of g h source)
source_brought g held h r (Word w) some can range readable = constant_set held h g r w some (omega (arith, readable)) can
source_brought g held h r (OfHome (Slot k)) some can range readable = slot_brings h r (slot_at g k) some readable
source_brought g held h r (OfHome (Register q)) some can range readable = by_test (q == r) refl
  where
    by_test : (b : Bool) → (q == r) ≡ b → Brings (cond b [] (Immediate Addi r q 0 ∷ [])) h r r (h.registers q)
    by_test true e = record { can = tt; value = ap h.registers (sym (eqb-true q r e)); kept = λ z other scratch. refl; memory = refl; input = refl }
    by_test false e = addi_brings h r q 0 (h.registers q) some (let fits : h.registers q < 4294967296 = range.words q readable in omega (arith, fits))

-- A home is written from a register that is none.
pub home_made : (g : StorageForm) (h : Holding) (home : Home) (r v : ℕ) → CanWrite g h home → r ≢ 5 → h.registers r ≡ v → v < 4294967296 → Makes g (home_written g home r) h home v
home_made g h home r v can apart is fits =
    let writes : Writes g (home_written g home r) h home v = home_writes g h home r v can apart is fits in
    record { can = writes.can; value = writes.value; kept = λ q none left. writes.kept q none left.t0; memory = writes.memory; input = writes.input }
