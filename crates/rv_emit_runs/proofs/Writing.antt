-- The code of an instruction with a target ends with words that write the home of that.
use Rattle.std.proofs.Common.{◌≡◌, ℕ, ◌==◌, nat_lt, cond, List, [], ◌∷◌, ◌++◌, refl, sym, ap, ◌∙◌, append_assoc}
use Rattle.std.specs.Option.{option_map_or}
use Rattle.word_base.specs.Arithmetic.{subtracted}
use Rattle.word_base.specs.declared.operation.Operation.{Operation}
use Rattle.word_base.specs.declared.operation.Truncation.{Truncation}
use Rattle.word_base.specs.declared.operation.Truncation.TheVariants.{Unsigned8, Signed16, Unsigned16, Signed8}
use Rattle.word_base.specs.WordOperations.{word_operation}
use Rattle.rv_code.specs.declared.instruction.Instruction.{Instruction}
use Rattle.rv_code.specs.declared.instruction.Instruction.TheVariants.{Lui, Load, Immediate, Register as OnRegisters}
use Rattle.rv_code.specs.declared.instruction.ImmediateOperation.{ImmediateOperation}
use Rattle.rv_code.specs.declared.instruction.ImmediateOperation.TheVariants.{Addi, Slli, Srai, Srli, Andi, Sltiu}
use Rattle.rv_code.specs.declared.instruction.LoadOperation.TheVariants.{Lw}
use Rattle.rv_code.specs.declared.instruction.RegisterOperation.{RegisterOperation}
use Rattle.rv_code.specs.declared.instruction.RegisterOperation.TheVariants as on
use Rattle.graph_core.specs.declared.instruction.Element.{Element}
use Rattle.graph_homes.specs.declared.home.Home.{Home}
use Rattle.graph_homes.specs.declared.home.Home.TheVariants.{Register, Slot}
use Rattle.rv_emit_words.specs.declared.piece.Held.{Held}
use Rattle.rv_emit_storage.specs.declared.storage.Source.{Source}
use Rattle.rv_emit_storage.specs.declared.storage.Source.TheVariants.{Home as OfHome, Word}
use Rattle.rv_emit_storage.specs.Storages.{StorageForm, object_at, slot_at}
use Rattle.rv_emit_words.specs.Constants.{constant_by, constant_register, fetched_constant, high_part, is_near_base, is_small, low_part, one_word_constant, set_constant_code, words_of_constant}
use Rattle.rv_emit_words.specs.Growing.{holder_of}
use Rattle.rv_emit_words.specs.Operands.{address_code, fetched_home, fetched_source, finishing, home_register, home_written, load_slot_code, result_register, source_register, store_slot_code}
use Rattle.rv_emit_instructions.specs.Operations.{by_word, compared, comparison_code, constant_written, immediate_form, is_commutative, move_code, moved, on_immediate, on_registers, operation_code, register_operation, shifted_twice, truncation_code}
use Rattle.rv_emit_instructions.specs.Memory.{Reach, load_operation, loading, object_address_code}
use Rattle.rv_emit_runs.specs.Writing.{EndsWriting, MakesRegister}
use Rattle.rv_emit_runs.proofs.Forms.{choice, perhaps}

-- ---- Code that ends by making a register

-- Code ends with an instruction that has its result in a register.
record EndsMaking (r : ℕ) (code : List Instruction) : Type 0 where
  pub before : List Instruction
  pub last : Instruction
  pub is : code ≡ before ++ last ∷ []
  pub makes : MakesRegister r last

one_made : (r : ℕ) (i : Instruction) → MakesRegister r i → EndsMaking r (i ∷ [])
one_made r i makes = record { before = []; last = i; is = refl; makes = makes }

made_behind : (r : ℕ) (front code : List Instruction) → EndsMaking r code → EndsMaking r (front ++ code)
made_behind r front code ends = record { before = front ++ ends.before; last = ends.last; is = ap (λ l. front ++ l) ends.is ∙ sym (append_assoc front ends.before (ends.last ∷ [])); makes = ends.makes }

one_word_made : (r w base : ℕ) → MakesRegister r (one_word_constant r w base)
one_word_made r w base =
    choice (MakesRegister r) (is_small w) (Immediate Addi r 0 w) (cond (is_near_base w base) (Immediate Addi r 3 (subtracted w base)) (Lui r (high_part w))) (λ e. refl)
    (λ e. choice (MakesRegister r) (is_near_base w base) (Immediate Addi r 3 (subtracted w base)) (Lui r (high_part w)) (λ e. refl) (λ e. refl))

constant_made : (n r w base : ℕ) → EndsMaking r (constant_by n r w base)
constant_made n r w base =
    choice (EndsMaking r) (n == 1) (one_word_constant r w base ∷ []) (Lui r (high_part w) ∷ Immediate Addi r r (low_part w) ∷ []) (λ e. one_made r (one_word_constant r w base) (one_word_made r w base))
    (λ e. made_behind r (Lui r (high_part w) ∷ []) (Immediate Addi r r (low_part w) ∷ []) (one_made r (Immediate Addi r r (low_part w)) refl))

set_made : (r w base : ℕ) (held : List Held) → EndsMaking r (set_constant_code r w base held)
set_made r w base held =
    choice (EndsMaking r) (is_small w) (constant_by (words_of_constant w base) r w base) (option_map_or (λ q. Immediate Addi r q 0 ∷ []) (holder_of w held) (constant_by (words_of_constant w base) r w base)) (λ e. constant_made (words_of_constant w base) r w base)
    (λ e. perhaps (EndsMaking r) (λ q. Immediate Addi r q 0 ∷ []) (holder_of w held) (constant_by (words_of_constant w base) r w base) (λ q at. one_made r (Immediate Addi r q 0) refl) (constant_made (words_of_constant w base) r w base))

slot_made : (r offset : ℕ) → EndsMaking r (load_slot_code r offset)
slot_made r offset =
    choice (EndsMaking r) (nat_lt offset 2048) (Load Lw r 2 offset ∷ []) (Lui 5 (high_part offset) ∷ OnRegisters on.Add 5 5 2 ∷ Load Lw r 5 (low_part offset) ∷ []) (λ e. one_made r (Load Lw r 2 offset) refl)
    (λ e. made_behind r (Lui 5 (high_part offset) ∷ OnRegisters on.Add 5 5 2 ∷ []) (Load Lw r 5 (low_part offset) ∷ []) (one_made r (Load Lw r 5 (low_part offset)) refl))

address_made : (r scratch offset : ℕ) → EndsMaking r (address_code r scratch offset)
address_made r scratch offset =
    choice (EndsMaking r) (nat_lt offset 2048) (Immediate Addi r 2 offset ∷ [])
    (cond (low_part offset == 0) (Lui scratch (high_part offset) ∷ OnRegisters on.Add r scratch 2 ∷ []) (Lui scratch (high_part offset) ∷ Immediate Addi scratch scratch (low_part offset) ∷ OnRegisters on.Add r scratch 2 ∷ []))
    (λ e. one_made r (Immediate Addi r 2 offset) refl)
    (λ e. choice (EndsMaking r) (low_part offset == 0) (Lui scratch (high_part offset) ∷ OnRegisters on.Add r scratch 2 ∷ []) (Lui scratch (high_part offset) ∷ Immediate Addi scratch scratch (low_part offset) ∷ OnRegisters on.Add r scratch 2 ∷ [])
    (λ e. made_behind r (Lui scratch (high_part offset) ∷ []) (OnRegisters on.Add r scratch 2 ∷ []) (one_made r (OnRegisters on.Add r scratch 2) refl))
    (λ e. made_behind r (Lui scratch (high_part offset) ∷ Immediate Addi scratch scratch (low_part offset) ∷ []) (OnRegisters on.Add r scratch 2 ∷ []) (one_made r (OnRegisters on.Add r scratch 2) refl)))

-- ---- Code that ends by writing a home

module _ (g : StorageForm) where
  writing_behind : (home : Home) (front code : List Instruction) → EndsWriting g home code → EndsWriting g home (front ++ code)
  writing_behind home front code ends = record { before = front ++ ends.before; last = ends.last; is = ap (λ l. front ++ l) ends.is ∙ sym (append_assoc front ends.before ends.last); writes = ends.writes }

  stored : (k register : ℕ) → EndsWriting g (Slot k) (store_slot_code register (slot_at g k))
  stored k register = record { before = []; last = store_slot_code register (slot_at g k); is = refl; writes = (register, refl) }

  -- A result is made, and a slot is stored behind it.
  finished : (home : Home) (code : List Instruction) → EndsMaking (result_register home) code → EndsWriting g home (code ++ finishing g home (result_register home))
  finished (Register r) code ends = record { before = ends.before; last = ends.last ∷ []; is = none code ∙ ends.is; writes = (ends.last, refl, ends.makes) }
    where
      none : (l : List Instruction) → l ++ [] ≡ l
      none [] = refl
      none (x ∷ l) = ap (λ m. x ∷ m) (none l)
  finished (Slot k) code ends = writing_behind (Slot k) code (store_slot_code 6 (slot_at g k)) (stored k 6)

  -- An instruction that makes it, behind others.
  finished_behind : (home : Home) (front : List Instruction) (i : Instruction) → MakesRegister (result_register home) i → EndsWriting g home (front ++ i ∷ finishing g home (result_register home))
  finished_behind home front i makes = writing_behind home front (i ∷ finishing g home (result_register home)) (finished home (i ∷ []) (one_made (result_register home) i makes))

  pub home_is_written : (home : Home) (register : ℕ) → EndsWriting g home (home_written g home register)
  home_is_written (Register r) register = record { before = []; last = Immediate Addi r register 0 ∷ []; is = refl; writes = (Immediate Addi r register 0, refl, refl) }
  home_is_written (Slot k) register = stored k register

  made_writes : (r : ℕ) (code : List Instruction) → EndsMaking r code → EndsWriting g (Register r) code
  made_writes r code ends = record { before = ends.before; last = ends.last ∷ []; is = ends.is; writes = (ends.last, refl, ends.makes) }

  module _ (held : List Held) where
    constant_writes : (target : Home) (w : ℕ) → EndsWriting g target (constant_written g held target w)
    constant_writes (Register r) w = made_writes r (set_constant_code r w g.base held) (set_made r w g.base held)
    constant_writes (Slot k) w = writing_behind (Slot k) (fetched_constant w g.base 6 held) (home_written g (Slot k) (constant_register w g.base 6 held)) (stored k (constant_register w g.base 6 held))

    moved_writes : (to from : Home) → EndsWriting g to (moved g held to to from)
    moved_writes (Register r) (Slot k) = made_writes r (load_slot_code r (slot_at g k)) (slot_made r (slot_at g k))
    moved_writes (Register r) (Register q) = made_writes r (Immediate Addi r q 0 ∷ []) (one_made r (Immediate Addi r q 0) refl)
    moved_writes (Slot k) from = writing_behind (Slot k) (fetched_home g from 6) (home_written g (Slot k) (home_register from 6)) (stored k (home_register from 6))

    pub move_writes : (target : Home) (s : Source) → EndsWriting g target (move_code g held target s)
    move_writes target (Word w) = constant_writes target w
    move_writes target (OfHome from) = moved_writes target from

    registers_write : (target : Home) (op : RegisterOperation) (left right : Source) → EndsWriting g target (on_registers g held target op left right)
    registers_write target op left right =
        finished_behind target (fetched_source g held left 6 ++ fetched_source g held right 7) (OnRegisters op (result_register target) (source_register g held left 6) (source_register g held right 7)) refl

    immediate_writes : (target : Home) (op : ImmediateOperation) (source : Source) (n : ℕ) → EndsWriting g target (on_immediate g held target op source n)
    immediate_writes target op source n = finished_behind target (fetched_source g held source 6) (Immediate op (result_register target) (source_register g held source 6) n) refl

    by_word_writes : (target : Home) (op : Operation) (left : Source) (w : ℕ) → EndsWriting g target (by_word g held target op left w)
    by_word_writes target op left w =
        perhaps (EndsWriting g target) (λ (form : ImmediateOperation × ℕ). on_immediate g held target form.0 left form.1) (immediate_form op w) (on_registers g held target (register_operation op) left (Word w))
        (λ form at. immediate_writes target form.0 left form.1) (registers_write target (register_operation op) left (Word w))

    pub operation_writes : (target : Home) (op : Operation) (left right : Source) → EndsWriting g target (operation_code g held target op left right)
    operation_writes target op (Word a) (Word b) = constant_writes target (word_operation op a b)
    operation_writes target op (OfHome a) (Word b) = by_word_writes target op (OfHome a) b
    operation_writes target op (Word a) (OfHome b) =
        choice (EndsWriting g target) (is_commutative op) (by_word g held target op (OfHome b) a) (on_registers g held target (register_operation op) (Word a) (OfHome b)) (λ e. by_word_writes target op (OfHome b) a) (λ e. registers_write target (register_operation op) (Word a) (OfHome b))
    operation_writes target op (OfHome a) (OfHome b) = registers_write target (register_operation op) (OfHome a) (OfHome b)

    shifted_writes : (target : Home) (source : Source) (by : ℕ) (back : ImmediateOperation) → EndsWriting g target (shifted_twice g held target source by back)
    shifted_writes target source by back =
        writing_behind target (fetched_source g held source 6) (Immediate Slli 6 (source_register g held source 6) by ∷ Immediate back (result_register target) 6 by ∷ finishing g target (result_register target))
        (finished_behind target (Immediate Slli 6 (source_register g held source 6) by ∷ []) (Immediate back (result_register target) 6 by) refl)

    pub truncation_writes : (target : Home) (t : Truncation) (source : Source) → EndsWriting g target (truncation_code g held target t source)
    truncation_writes target Unsigned8 source = immediate_writes target Andi source 255
    truncation_writes target Signed8 source = shifted_writes target source 24 Srai
    truncation_writes target Unsigned16 source = shifted_writes target source 16 Srli
    truncation_writes target Signed16 source = shifted_writes target source 16 Srai

    compared_writes : (target : Home) (left right : Source) → EndsWriting g target (compared g held target left right)
    compared_writes target left right =
        writing_behind target (fetched_source g held left 6 ++ fetched_source g held right 7)
        (OnRegisters on.Xor 6 (source_register g held left 6) (source_register g held right 7) ∷ Immediate Sltiu (result_register target) 6 1 ∷ finishing g target (result_register target))
        (finished_behind target (OnRegisters on.Xor 6 (source_register g held left 6) (source_register g held right 7) ∷ []) (Immediate Sltiu (result_register target) 6 1) refl)

    pub comparison_writes : (target : Home) (left right : Source) → EndsWriting g target (comparison_code g held target left right)
    comparison_writes target (Word a) (Word b) =
        choice (EndsWriting g target) (a == 0) (on_immediate g held target Sltiu (Word b) 1) (cond (b == 0) (on_immediate g held target Sltiu (Word a) 1) (compared g held target (Word a) (Word b))) (λ e. immediate_writes target Sltiu (Word b) 1)
        (λ e. choice (EndsWriting g target) (b == 0) (on_immediate g held target Sltiu (Word a) 1) (compared g held target (Word a) (Word b)) (λ e. immediate_writes target Sltiu (Word a) 1) (λ e. compared_writes target (Word a) (Word b)))
    comparison_writes target (Word a) (OfHome b) =
        choice (EndsWriting g target) (a == 0) (on_immediate g held target Sltiu (OfHome b) 1) (compared g held target (Word a) (OfHome b)) (λ e. immediate_writes target Sltiu (OfHome b) 1) (λ e. compared_writes target (Word a) (OfHome b))
    comparison_writes target (OfHome a) (Word b) =
        choice (EndsWriting g target) (b == 0) (on_immediate g held target Sltiu (OfHome a) 1) (compared g held target (OfHome a) (Word b)) (λ e. immediate_writes target Sltiu (OfHome a) 1) (λ e. compared_writes target (OfHome a) (Word b))
    comparison_writes target (OfHome a) (OfHome b) = compared_writes target (OfHome a) (OfHome b)

  pub address_writes : (target : Home) (object : ℕ) → EndsWriting g target (object_address_code g target object)
  address_writes target object = finished target (address_code (result_register target) 7 (object_at g object)) (address_made (result_register target) 7 (object_at g object))

  pub loading_writes : (target : Home) (e : Element) (reach : Reach) → EndsWriting g target (loading g target e reach)
  loading_writes target e reach = finished_behind target reach.code (Load (load_operation e) (result_register target) reach.base reach.offset) refl
