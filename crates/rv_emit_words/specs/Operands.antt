-- The words by which operands are fetched and results are written.
use Rattle.std.specs.Prelude.{ℕ, ◌==◌, nat_lt, if◌then◌else◌, List, [], ◌∷◌}
use Rattle.rv_code.specs.declared.instruction.Instruction.{Instruction}
use Rattle.rv_code.specs.declared.instruction.Instruction.TheVariants.{Lui, Load, Store, Immediate, Register as OnRegisters}
use Rattle.rv_code.specs.declared.instruction.LoadOperation.TheVariants.{Lw}
use Rattle.rv_code.specs.declared.instruction.StoreOperation.TheVariants.{Sw}
use Rattle.rv_code.specs.declared.instruction.ImmediateOperation.TheVariants.{Addi}
use Rattle.rv_code.specs.declared.instruction.RegisterOperation.TheVariants.{Add}
use Rattle.graph_homes.specs.declared.home.Home.{Home}
use Rattle.graph_homes.specs.declared.home.Home.TheVariants.{Register, Slot}
use Rattle.rv_emit_words.specs.declared.piece.Held.{Held}
use Rattle.rv_emit_storage.specs.declared.storage.Source.{Source}
use Rattle.rv_emit_storage.specs.declared.storage.Source.TheVariants.{Home as OfHome, Word}
use Rattle.rv_emit_storage.specs.Storages.{StorageForm, slot_at}
use Rattle.rv_emit_words.specs.Constants.{low_part, high_part, constant_register, fetched_constant, set_constant_code}

-- Registers 2 and 5 to 7 are sp and t0 to t2. What lies less than 2,048 bytes behind sp is reached from sp, and else
-- from t0, which gets sp and the upper part of the offset.

-- A word of the frame into a register.
abbrev pub load_slot_code : (register offset : ℕ) → List Instruction
load_slot_code r offset =
    if nat_lt offset 2048 then Load Lw r 2 offset ∷ []
    else Lui 5 (high_part offset) ∷ OnRegisters Add 5 5 2 ∷ Load Lw r 5 (low_part offset) ∷ []

-- A register into a word of the frame.
abbrev pub store_slot_code : (register offset : ℕ) → List Instruction
store_slot_code r offset =
    if nat_lt offset 2048 then Store Sw r 2 offset ∷ []
    else Lui 5 (high_part offset) ∷ OnRegisters Add 5 5 2 ∷ Store Sw r 5 (low_part offset) ∷ []

-- The address of a byte of the frame into a register, by way of a scratch register where it lies far from sp.
abbrev pub address_code : (register scratch offset : ℕ) → List Instruction
address_code r scratch offset =
    if nat_lt offset 2048 then Immediate Addi r 2 offset ∷ []
    else if low_part offset == 0 then Lui scratch (high_part offset) ∷ OnRegisters Add r scratch 2 ∷ []
    else Lui scratch (high_part offset) ∷ Immediate Addi scratch scratch (low_part offset) ∷ OnRegisters Add r scratch 2
    ∷ []

-- ---- What is read

-- The register in which what a home holds is found: the home itself, or a scratch register that a slot is loaded into.
abbrev pub home_register : Home → (scratch : ℕ) → ℕ
home_register (Register r) scratch = r
home_register (Slot k) scratch = scratch

-- the words that bring what a home holds into a register, none where the home is one
abbrev pub fetched_home : StorageForm → Home → (scratch : ℕ) → List Instruction
fetched_home g (Register r) scratch = []
fetched_home g (Slot k) scratch = load_slot_code scratch (slot_at g k)

-- The register in which what is read is found, and the words that bring it there.
abbrev pub source_register : StorageForm → List Held → Source → (scratch : ℕ) → ℕ
source_register g held (OfHome home) scratch = home_register home scratch
source_register g held (Word w) scratch = constant_register w g.base scratch held

-- the words that bring what is read into a register, none where one has it already
abbrev pub fetched_source : StorageForm → List Held → Source → (scratch : ℕ) → List Instruction
fetched_source g held (OfHome home) scratch = fetched_home g home scratch
fetched_source g held (Word w) scratch = fetched_constant w g.base scratch held

-- The words that bring what is read into one register.
abbrev pub bringing : StorageForm → List Held → (register : ℕ) → Source → List Instruction
bringing g held r (Word w) = set_constant_code r w g.base held
bringing g held r (OfHome (Slot k)) = load_slot_code r (slot_at g k)
bringing g held r (OfHome (Register q)) = if q == r then [] else Immediate Addi r q 0 ∷ []

-- ---- What is written

-- The register in which the result of an instruction is made: the target's home, or t1 on the way to a slot.
abbrev pub result_register : Home → ℕ
result_register (Register r) = r
result_register (Slot k) = 6

-- The words behind it: a slot is stored.
abbrev pub finishing : StorageForm → Home → (register : ℕ) → List Instruction
finishing g (Register home) r = []
finishing g (Slot k) r = store_slot_code r (slot_at g k)

-- The words that write a home from a register that is none: a move or a store.
abbrev pub home_written : StorageForm → Home → (register : ℕ) → List Instruction
home_written g (Register home) r = Immediate Addi home r 0 ∷ []
home_written g (Slot k) r = store_slot_code r (slot_at g k)
