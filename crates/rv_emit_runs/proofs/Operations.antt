-- Words can spell the code of moves, operations, truncations and comparisons.
use Rattle.std.proofs.Common.{◌≡◌, ℕ, zero, suc, ◌+◌, ◌^◌, ◌<◌, ◌≤◌, ◌==◌, nat_le, Bool, true, false, cond, Option, Some, None, List, ◌∷◌, refl, arith, inl, subst}
use Rattle.std.specs.Option.{option_map_or}
use Rattle.std.specs.Prelude.{option_map}
use Rattle.std.proofs.lemmas.Bool.{eqb-true, leb-true}
use Rattle.std.proofs.lemmas.Nat.{pow_pos}
use Rattle.std.proofs.Math.Nat.{pow-le-pow_right}
use Rattle.word_base.specs.Arithmetic.{subtracted}
use Rattle.word_base.specs.WordOperations.{word_operation}
use Rattle.word_base.specs.declared.operation.Operation.{Operation}
use Rattle.word_base.specs.declared.operation.Operation.TheVariants.{Add, Sub, Mul, Div, Divu, Rem, Remu, Sll, Srl, Sra, And, Or, Xor, Slt, Sltu}
use Rattle.word_base.specs.declared.operation.Truncation.{Truncation}
use Rattle.word_base.specs.declared.operation.Truncation.TheVariants.{Unsigned8, Signed8, Unsigned16, Signed16}
use Rattle.rv_code.specs.declared.instruction.ImmediateOperation.{ImmediateOperation}
use Rattle.rv_code.specs.declared.instruction.ImmediateOperation.TheVariants.{Addi, Slti, Sltiu, Xori, Ori, Andi, Slli, Srli, Srai}
use Rattle.rv_code.specs.declared.instruction.RegisterOperation.{RegisterOperation}
use Rattle.rv_code.specs.declared.instruction.RegisterOperation.TheVariants as on
use Rattle.rv_code.specs.declared.instruction.Instruction.TheVariants as instruction
use Rattle.rv_code.specs.InForm.{IsImmediateOf, IsSigned12}
use Rattle.graph_homes.specs.declared.home.Home.{Home}
use Rattle.graph_homes.specs.declared.home.Home.TheVariants.{Register, Slot}
use Rattle.rv_emit_words.specs.declared.piece.Held.{Held}
use Rattle.rv_emit_storage.specs.declared.storage.Source.{Source}
use Rattle.rv_emit_storage.specs.declared.storage.Source.TheVariants.{Home as OfHome, Word}
use Rattle.rv_emit_storage.specs.Storages.{StorageForm, slot_at}
use Rattle.rv_emit_words.specs.Constants.{is_small, constant_register, fetched_constant, words_of_constant}
use Rattle.rv_emit_words.specs.Operands.{fetched_home, fetched_source, finishing, home_register, home_written, result_register, source_register}
use Rattle.rv_emit_instructions.specs.Operations.{by_word, compared, comparison_code, constant_to, if_low_power, if_small, immediate_form, is_commutative, move_code, moved, on_immediate, on_registers, operation_code, power_from, power_of_two, register_operation, shifted_twice, truncation_code}
use Rattle.rv_emit_steps.proofs.Operating.{operated_in_range}
use Rattle.rv_emit_steps.proofs.Operations.{register_does}
use Rattle.rv_emit_runs.proofs.Forms.{AreInForm, AreRegisters, IsFitHome, IsFitSource, both_in_form, choice, constant_register_is, fetched_constant_fits, fetched_fits, fetched_home_fits, finishing_fits, home_register_is, load_slot_fits, result_is, set_constant_fits, small_is, source_register_is, three_in_form, written_fits}

-- ---- Immediates

-- A form of an operation has an immediate that may stand there.
abbrev pub IsFitForm : Option (ImmediateOperation × ℕ) → Type 0
IsFitForm None = Unit {0}
IsFitForm (Some form) = IsImmediateOf form.0 form.1

small_form : (i : ImmediateOperation) (n : ℕ) → (IsSigned12 n → IsImmediateOf i n) → n < 4294967296 → IsFitForm (if_small i n)
small_form i n is low = choice IsFitForm (is_small n) (Some (i, n)) None (λ e. is (small_is n low e)) (λ e. tt)

-- A word is the power of two that was found, of a number below a limit.
abbrev IsPower : (word limit : ℕ) → Option ℕ → Type 0
IsPower w k None = Unit {0}
IsPower w k (Some e) = (w ≡ 2 ^ e) × (e < k)

power_is : (e n k w : ℕ) → e + n ≡ k → IsPower w k (power_from e n w)
power_is e zero k w sum = tt
power_is e (suc n) k w sum = by_test (w == 2 ^ e) refl (power_is (e + 1) n k w (omega arith))
  where
    by_test : (b : Bool) → (w == 2 ^ e) ≡ b → IsPower w k (power_from (e + 1) n w) → IsPower w k (cond b (Some e) (power_from (e + 1) n w))
    by_test true is rest = (eqb-true w (2 ^ e) is, omega arith)
    by_test false is rest = rest

left_form : (w : ℕ) (o : Option ℕ) → IsPower w 32 o → IsFitForm (option_map (λ e. (Slli, e)) o)
left_form w None power = tt
left_form w (Some e) power = power.1

right_form : (w : ℕ) (o : Option ℕ) → IsPower w 32 o → IsFitForm (option_map (λ e. (Srli, e)) o)
right_form w None power = tt
right_form w (Some e) power = power.1

low_bits_form : (w : ℕ) (o : Option ℕ) → IsPower w 32 o → IsFitForm (option_map_or (if_low_power w) o None)
low_bits_form w None power = tt
low_bits_form w (Some e) power = choice IsFitForm (nat_le e 11) (Some (Andi, subtracted w 1)) None (λ le. inl (low (leb-true e 11 le))) (λ le. tt)
  where
    low : e ≤ 11 → subtracted w 1 < 2048
    low le =
        let some : 0 < 2 ^ e = pow_pos e in
        let most : 2 ^ e ≤ 2048 = pow-le-pow_right {n = 2} (omega arith) le in
        let is : w ≡ 2 ^ e = power.0 in
        omega (arith, is, some, most)

form_is : (op : Operation) (w : ℕ) → w < 4294967296 → IsFitForm (immediate_form op w)
unfolding power_of_two
form_is Add w low = small_form Addi w (λ is. is) low
form_is Sub w low = small_form Addi (subtracted 0 w) (λ is. is) (omega arith)
form_is Mul w low = left_form w (power_of_two w) (power_is 0 32 32 w refl)
form_is Div w low = tt
form_is Divu w low = right_form w (power_of_two w) (power_is 0 32 32 w refl)
form_is Rem w low = tt
form_is Remu w low = low_bits_form w (power_of_two w) (power_is 0 32 32 w refl)
form_is Sll w low = omega arith
form_is Srl w low = omega arith
form_is Sra w low = omega arith
form_is And w low = small_form Andi w (λ is. is) low
form_is Or w low = small_form Ori w (λ is. is) low
form_is Xor w low = small_form Xori w (λ is. is) low
form_is Slt w low = small_form Slti w (λ is. is) low
form_is Sltu w low = small_form Sltiu w (λ is. is) low

-- What an operation makes of words is a word.
operated_low : (op : Operation) (a b : ℕ) → a < 4294967296 → b < 4294967296 → word_operation op a b < 4294967296
operated_low op a b low also = subst (λ x. x < 4294967296) (register_does op a b) (operated_in_range (register_operation op) a b low also)

-- ---- Code

module _ (g : StorageForm) (held : List Held) (all : AreRegisters held) (target : Home) (fit : IsFitHome target) where
  constant_fits_in : (t : Home) → IsFitHome t → (w : ℕ) → w < 4294967296 → AreInForm (constant_to g held target t w)
  constant_fits_in (Register r) is w low = set_constant_fits (words_of_constant w g.base) r w g.base held is low all
  constant_fits_in (Slot k) is w low =
      both_in_form (fetched_constant w g.base 6 held) (home_written g (Slot k) (constant_register w g.base 6 held))
      (fetched_constant_fits w g.base 6 held (omega arith) low) (written_fits g (Slot k) (constant_register w g.base 6 held) tt (constant_register_is w g.base 6 held (omega arith) all))

  on_registers_fits : (op : RegisterOperation) (l r : Source) → IsFitSource l → IsFitSource r → AreInForm (on_registers g held target op l r)
  on_registers_fits op l r left right =
      three_in_form (fetched_source g held l 6) (fetched_source g held r 7) (instruction.Register op (result_register target) (source_register g held l 6) (source_register g held r 7) ∷ finishing g target (result_register target))
      (fetched_fits g held l 6 left (omega arith)) (fetched_fits g held r 7 right (omega arith))
      ((result_is target fit, source_register_is g held l 6 left all (omega arith), source_register_is g held r 7 right all (omega arith)), finishing_fits g target (result_register target) (result_is target fit))

  on_immediate_fits : (op : ImmediateOperation) (s : Source) (n : ℕ) → IsFitSource s → IsImmediateOf op n → AreInForm (on_immediate g held target op s n)
  on_immediate_fits op s n source is =
      both_in_form (fetched_source g held s 6) (instruction.Immediate op (result_register target) (source_register g held s 6) n ∷ finishing g target (result_register target))
      (fetched_fits g held s 6 source (omega arith))
      ((result_is target fit, source_register_is g held s 6 source all (omega arith), is), finishing_fits g target (result_register target) (result_is target fit))

  by_word_fits : (op : Operation) (l : Source) (w : ℕ) → IsFitSource l → w < 4294967296 → AreInForm (by_word g held target op l w)
  by_word_fits op l w left low = by_form (immediate_form op w) (form_is op w low)
    where
      by_form : (o : Option (ImmediateOperation × ℕ)) → IsFitForm o → AreInForm (option_map_or (λ (form : ImmediateOperation × ℕ). on_immediate g held target form.0 l form.1) o (on_registers g held target (register_operation op) l (Word w)))
      by_form None is = on_registers_fits (register_operation op) l (Word w) left low
      by_form (Some form) is = on_immediate_fits form.0 l form.1 left is

  pub operation_fits : (op : Operation) (l r : Source) → IsFitSource l → IsFitSource r → AreInForm (operation_code g held target op l r)
  operation_fits op (Word a) (Word b) left right = constant_fits_in target fit (word_operation op a b) (operated_low op a b left right)
  operation_fits op (OfHome a) (Word b) left right = by_word_fits op (OfHome a) b left right
  operation_fits op (Word a) (OfHome b) left right =
      choice AreInForm (is_commutative op) (by_word g held target op (OfHome b) a) (on_registers g held target (register_operation op) (Word a) (OfHome b))
      (λ e. by_word_fits op (OfHome b) a right left) (λ e. on_registers_fits (register_operation op) (Word a) (OfHome b) left right)
  operation_fits op (OfHome a) (OfHome b) left right = on_registers_fits (register_operation op) (OfHome a) (OfHome b) left right

  shifted_fits : (s : Source) (by : ℕ) (back : ImmediateOperation) → IsFitSource s → by < 32 → IsImmediateOf back by → AreInForm (shifted_twice g held target s by back)
  shifted_fits s by back source low is =
      both_in_form (fetched_source g held s 6) (instruction.Immediate Slli 6 (source_register g held s 6) by ∷ instruction.Immediate back (result_register target) 6 by ∷ finishing g target (result_register target))
      (fetched_fits g held s 6 source (omega arith))
      ((omega arith, source_register_is g held s 6 source all (omega arith), low), ((result_is target fit, omega arith, is), finishing_fits g target (result_register target) (result_is target fit)))

  pub truncation_fits : (t : Truncation) (s : Source) → IsFitSource s → AreInForm (truncation_code g held target t s)
  truncation_fits Unsigned8 s source = on_immediate_fits Andi s 255 source (inl (omega arith))
  truncation_fits Signed8 s source = shifted_fits s 24 Srai source (omega arith) (omega arith)
  truncation_fits Unsigned16 s source = shifted_fits s 16 Srli source (omega arith) (omega arith)
  truncation_fits Signed16 s source = shifted_fits s 16 Srai source (omega arith) (omega arith)

  compared_fits : (l r : Source) → IsFitSource l → IsFitSource r → AreInForm (compared g held target l r)
  compared_fits l r left right =
      three_in_form (fetched_source g held l 6) (fetched_source g held r 7) (instruction.Register on.Xor 6 (source_register g held l 6) (source_register g held r 7) ∷ instruction.Immediate Sltiu (result_register target) 6 1 ∷ finishing g target (result_register target))
      (fetched_fits g held l 6 left (omega arith)) (fetched_fits g held r 7 right (omega arith)) (
        (omega arith, source_register_is g held l 6 left all (omega arith), source_register_is g held r 7 right all (omega arith)),
        ((result_is target fit, omega arith, inl (omega arith)), finishing_fits g target (result_register target) (result_is target fit)),
      )

  none_fits : (s : Source) → IsFitSource s → AreInForm (on_immediate g held target Sltiu s 1)
  none_fits s source = on_immediate_fits Sltiu s 1 source (inl (omega arith))

  pub comparison_fits : (l r : Source) → IsFitSource l → IsFitSource r → AreInForm (comparison_code g held target l r)
  comparison_fits (Word a) (Word b) left right =
      choice AreInForm (a == 0) (on_immediate g held target Sltiu (Word b) 1) (cond (b == 0) (on_immediate g held target Sltiu (Word a) 1) (compared g held target (Word a) (Word b))) (λ e. none_fits (Word b) right)
      (λ e. choice AreInForm (b == 0) (on_immediate g held target Sltiu (Word a) 1) (compared g held target (Word a) (Word b)) (λ e. none_fits (Word a) left) (λ e. compared_fits (Word a) (Word b) left right))
  comparison_fits (Word a) (OfHome b) left right =
      choice AreInForm (a == 0) (on_immediate g held target Sltiu (OfHome b) 1) (compared g held target (Word a) (OfHome b)) (λ e. none_fits (OfHome b) right) (λ e. compared_fits (Word a) (OfHome b) left right)
  comparison_fits (OfHome a) (Word b) left right =
      choice AreInForm (b == 0) (on_immediate g held target Sltiu (OfHome a) 1) (compared g held target (OfHome a) (Word b)) (λ e. none_fits (OfHome a) left) (λ e. compared_fits (OfHome a) (Word b) left right)
  comparison_fits (OfHome a) (OfHome b) left right = compared_fits (OfHome a) (OfHome b) left right

  moved_fits : (to from : Home) → IsFitHome to → IsFitHome from → AreInForm (moved g held target to from)
  moved_fits (Register r) (Slot k) to from = load_slot_fits r (slot_at g k) to
  moved_fits (Register r) (Register q) to from = ((to, from, inl (omega arith)), tt)
  moved_fits (Slot k) from to is =
      both_in_form (fetched_home g from 6) (home_written g (Slot k) (home_register from 6)) (fetched_home_fits g from 6 (omega arith)) (written_fits g (Slot k) (home_register from 6) tt (home_register_is from 6 is (omega arith)))

  pub move_fits : (s : Source) → IsFitSource s → AreInForm (move_code g held target s)
  move_fits (Word w) source = constant_fits_in target fit w source
  move_fits (OfHome from) source = moved_fits target from fit source
