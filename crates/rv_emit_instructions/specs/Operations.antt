-- The code of moves, operations, truncations and comparisons. Registers 6 and 7 are t1 and t2.
use Rattle.std.specs.Prelude.{ℕ, zero, suc, ◌+◌, ◌-◌, ◌%◌, ◌^◌, ◌==◌, nat_le, Bool, true, false, if◌then◌else◌, Option, Some, None, option_map, List, [], ◌∷◌, ◌++◌}
use Rattle.std.specs.Option.{option_map_or}
use Rattle.word_base.specs.Arithmetic.{subtracted}
use Rattle.word_base.specs.WordOperations.{word_operation}
use Rattle.word_base.specs.declared.operation.Operation.{Operation}
use Rattle.word_base.specs.declared.operation.Operation.TheVariants.{Add, Sub, Mul, Div, Divu, Rem, Remu, Sll, Srl, Sra, And, Or, Xor, Slt, Sltu}
use Rattle.word_base.specs.declared.operation.Truncation.{Truncation}
use Rattle.word_base.specs.declared.operation.Truncation.TheVariants.{Unsigned8, Signed16, Unsigned16, Signed8}
use Rattle.rv_code.specs.declared.instruction.Instruction.{Instruction}
use Rattle.rv_code.specs.declared.instruction.Instruction.TheVariants.{Immediate, Register as OnRegisters}
use Rattle.rv_code.specs.declared.instruction.ImmediateOperation.{ImmediateOperation}
use Rattle.rv_code.specs.declared.instruction.ImmediateOperation.TheVariants.{Addi, Slti, Sltiu, Xori, Ori, Andi, Slli, Srli, Srai}
use Rattle.rv_code.specs.declared.instruction.RegisterOperation.{RegisterOperation}
use Rattle.rv_code.specs.declared.instruction.RegisterOperation.TheVariants as on
use Rattle.graph_homes.specs.declared.home.Home.{Home}
use Rattle.graph_homes.specs.declared.home.Home.TheVariants.{Register, Slot}
use Rattle.rv_emit_words.specs.declared.piece.Held.{Held}
use Rattle.rv_emit_storage.specs.declared.storage.Source.{Source}
use Rattle.rv_emit_storage.specs.declared.storage.Source.TheVariants.{Home as OfHome, Word}
use Rattle.rv_emit_storage.specs.Storages.{StorageForm, slot_at}
use Rattle.rv_emit_words.specs.Constants.{is_small, constant_register, fetched_constant, set_constant_code}
use Rattle.rv_emit_words.specs.Operands.{load_slot_code, home_register, fetched_home, source_register, fetched_source, result_register, finishing, home_written}

-- ---- Which operation of the machine

-- The operation on two registers that is an operation of units.
abbrev pub register_operation : Operation → RegisterOperation
register_operation Add = on.Add
register_operation Sub = on.Sub
register_operation Mul = on.Mul
register_operation Div = on.Div
register_operation Divu = on.Divu
register_operation Rem = on.Rem
register_operation Remu = on.Remu
register_operation Sll = on.Sll
register_operation Srl = on.Srl
register_operation Sra = on.Sra
register_operation And = on.And
register_operation Or = on.Or
register_operation Xor = on.Xor
register_operation Slt = on.Slt
register_operation Sltu = on.Sltu

-- Its operands may change places.
abbrev pub is_commutative : Operation → Bool
is_commutative Add = true
is_commutative Sub = false
is_commutative Mul = true
is_commutative Div = false
is_commutative Divu = false
is_commutative Rem = false
is_commutative Remu = false
is_commutative Sll = false
is_commutative Srl = false
is_commutative Sra = false
is_commutative And = true
is_commutative Or = true
is_commutative Xor = true
is_commutative Slt = false
is_commutative Sltu = false

-- Of which number, from one on and so many of them, a word is the power of two.
abbrev pub power_from : (exponent count word : ℕ) → Option ℕ
power_from e zero w = None
power_from e (suc n) w = if w == 2 ^ e then Some e else power_from (e + 1) n w

-- The same of all powers that are words.
unfoldable pub power_of_two : (word : ℕ) → Option ℕ
power_of_two w = power_from 0 32 w

-- The operation on a register and an immediate that does what an operation does with a word on the right, if there is
-- one: the shift by its low five bits; the sum with a small word, or with the negative of a small one; a bitwise
-- operation or a comparison with a small one; and with a power of two a product or a quotient by a shift, a remainder
-- by the bits below it.
abbrev pub if_small : ImmediateOperation → (word : ℕ) → Option (ImmediateOperation × ℕ)
if_small op w = if is_small w then Some (op, w) else None

-- a remainder by a power of two up to 2048 is an AND with one less
abbrev pub if_low_power : (word exponent : ℕ) → Option (ImmediateOperation × ℕ)
if_low_power w e = if nat_le e 11 then Some (Andi, subtracted w 1) else None

-- the form of an operation by a constant that the instruction itself can hold, if there is one
abbrev pub immediate_form : Operation → (word : ℕ) → Option (ImmediateOperation × ℕ)
immediate_form Add w = if_small Addi w
immediate_form Sub w = if_small Addi (subtracted 0 w)
immediate_form Mul w = option_map (λ e. (Slli, e)) (power_of_two w)
immediate_form Div w = None
immediate_form Divu w = option_map (λ e. (Srli, e)) (power_of_two w)
immediate_form Rem w = None
immediate_form Remu w = option_map_or (if_low_power w) (power_of_two w) None
immediate_form Sll w = Some (Slli, w % 32)
immediate_form Srl w = Some (Srli, w % 32)
immediate_form Sra w = Some (Srai, w % 32)
immediate_form And w = if_small Andi w
immediate_form Or w = if_small Ori w
immediate_form Xor w = if_small Xori w
immediate_form Slt w = if_small Slti w
immediate_form Sltu w = if_small Sltiu w

module _ (g : StorageForm) (held : List Held) (target : Home) where
  -- ---- Its words

  -- The target becomes a constant.
  abbrev pub constant_to : Home → (word : ℕ) → List Instruction
  constant_to (Register r) w = set_constant_code r w g.base held
  constant_to (Slot k) w =
      fetched_constant w g.base 6 held ++ home_written g (Slot k) (constant_register w g.base 6 held)

  -- the target becomes a constant
  abbrev pub constant_written : (word : ℕ) → List Instruction
  constant_written w = constant_to target w

  -- The target becomes what an operation makes of two registers: both are fetched, the operation is done in the
  -- target's register, and a slot is stored.
  abbrev pub on_registers : RegisterOperation → (left right : Source) → List Instruction
  on_registers op left right =
      fetched_source g held left 6 ++ fetched_source g held right 7
      ++ OnRegisters op (result_register target) (source_register g held left 6) (source_register g held right 7)
      ∷ finishing g target (result_register target)

  -- The same of a register and an immediate.
  abbrev pub on_immediate : ImmediateOperation → Source → (immediate : ℕ) → List Instruction
  on_immediate op source n =
      fetched_source g held source 6 ++ Immediate op (result_register target) (source_register g held source 6) n
      ∷ finishing g target (result_register target)

  -- The same of a register and a word, by an immediate where the operation has that form.
  abbrev pub by_word : Operation → (left : Source) → (right : ℕ) → List Instruction
  by_word op left w =
      option_map_or (λ (form : ImmediateOperation × ℕ). on_immediate form.0 left form.1) (immediate_form op w)
      (on_registers (register_operation op) left (Word w))

  -- The target becomes what an operation makes of two operands: the result itself where both are known.
  abbrev pub operation_code : Operation → (left right : Source) → List Instruction
  operation_code op (Word a) (Word b) = constant_written (word_operation op a b)
  operation_code op (OfHome a) (Word b) = by_word op (OfHome a) b
  operation_code op (Word a) (OfHome b) =
      if is_commutative op then by_word op (OfHome b) a else on_registers (register_operation op) (Word a) (OfHome b)
  operation_code op (OfHome a) (OfHome b) = on_registers (register_operation op) (OfHome a) (OfHome b)

  -- The target becomes the low bits of an operand, so many less than 32 of them, by a shift to the left and one back.
  abbrev pub shifted_twice : Source → (by : ℕ) → (back : ImmediateOperation) → List Instruction
  shifted_twice source by back =
      fetched_source g held source 6 ++ Immediate Slli 6 (source_register g held source 6) by
      ∷ Immediate back (result_register target) 6 by ∷ finishing g target (result_register target)

  -- The target becomes what a truncation leaves of an operand.
  abbrev pub truncation_code : Truncation → Source → List Instruction
  truncation_code Unsigned8 source = on_immediate Andi source 255
  truncation_code Signed8 source = shifted_twice source 24 Srai
  truncation_code Unsigned16 source = shifted_twice source 16 Srli
  truncation_code Signed16 source = shifted_twice source 16 Srai

  -- The target becomes 1 where two operands are the same, and else 0: their difference bit by bit is less than 1, or
  -- one of them is where the other is 0.
  abbrev pub compared : (left right : Source) → List Instruction
  compared left right =
      fetched_source g held left 6 ++ fetched_source g held right 7
      ++ OnRegisters on.Xor 6 (source_register g held left 6) (source_register g held right 7)
      ∷ Immediate Sltiu (result_register target) 6 1 ∷ finishing g target (result_register target)

  -- the target becomes whether two words are the same: a comparison with 0 takes one instruction
  abbrev pub comparison_code : (left right : Source) → List Instruction
  comparison_code (Word a) (Word b) =
      if a == 0 then on_immediate Sltiu (Word b) 1 else if b == 0 then on_immediate Sltiu (Word a) 1
      else compared (Word a) (Word b)
  comparison_code (Word a) (OfHome b) = if a == 0 then on_immediate Sltiu (OfHome b) 1 else compared (Word a) (OfHome b)
  comparison_code (OfHome a) (Word b) = if b == 0 then on_immediate Sltiu (OfHome a) 1 else compared (OfHome a) (Word b)
  comparison_code (OfHome a) (OfHome b) = compared (OfHome a) (OfHome b)

  -- The target becomes what a home holds: a slot is loaded into a register at once, and else fetched and written.
  abbrev pub moved : (to from : Home) → List Instruction
  moved (Register r) (Slot k) = load_slot_code r (slot_at g k)
  moved (Register r) (Register q) = Immediate Addi r q 0 ∷ []
  moved (Slot k) from = fetched_home g from 6 ++ home_written g (Slot k) (home_register from 6)

  -- The target becomes an operand.
  abbrev pub move_code : Source → List Instruction
  move_code (Word w) = constant_written w
  move_code (OfHome from) = moved target from
