-- The words of moves, operations, truncations and comparisons make the target what they are to make it.
use Rattle.std.proofs.Common.{◌≡◌, ◌≢◌, ℕ, ◌+◌, ◌%◌, ◌<◌, sym, ap, ◌∙◌, subst, arith, refl, Option, Some, None, Bool, true, false, cond, List, [], ◌∷◌, ◌++◌, append_assoc}
use Rattle.std.specs.Prelude.{◌==◌, nat_lt}
use Rattle.std.proofs.lemmas.Bool.{eqb-true, eq-eqb, ne_eqb}
use Rattle.std.specs.Option.{option_map_or}
use Rattle.word_base.specs.Words.{word_of_test}
use Rattle.word_base.specs.WordOperations.{word_operation, truncated}
use Rattle.word_base.specs.declared.operation.Operation.{Operation}
use Rattle.word_base.specs.declared.operation.Truncation.{Truncation}
use Rattle.word_base.specs.declared.operation.Truncation.TheVariants.{Unsigned8, Signed16, Unsigned16, Signed8}
use Rattle.rv_code.specs.declared.instruction.Instruction.{Instruction}
use Rattle.rv_code.specs.declared.instruction.Instruction.TheVariants.{Immediate, Register as OnRegisters}
use Rattle.rv_code.specs.declared.instruction.ImmediateOperation.{ImmediateOperation}
use Rattle.rv_code.specs.declared.instruction.ImmediateOperation.TheVariants.{Addi, Sltiu, Andi, Slli, Srli, Srai}
use Rattle.rv_code.specs.declared.instruction.RegisterOperation.TheVariants as on
use Rattle.rv_code.specs.declared.instruction.LoadOperation.TheVariants.{Lw}
use Rattle.rv_machine.specs.Table.{operation_result as done_on, operated_immediate}
use Rattle.graph_homes.specs.declared.home.Home.{Home}
use Rattle.graph_homes.specs.declared.home.Home.TheVariants.{Register, Slot}
use Rattle.rv_emit_words.specs.declared.piece.Held.{Held}
use Rattle.rv_emit_storage.specs.declared.storage.Source.{Source}
use Rattle.rv_emit_storage.specs.declared.storage.Source.TheVariants.{Home as OfHome, Word}
use Rattle.rv_emit_storage.specs.Storages.{StorageForm, slot_at}
use Rattle.rv_emit_words.specs.Growing.{holder_of}
use Rattle.rv_emit_words.specs.Constants.{is_small, constant_code, constant_register, fetched_constant, set_constant_code}
use Rattle.rv_emit_words.specs.Operands.{home_register, fetched_home, source_register, fetched_source, result_register, finishing, home_written}
use Rattle.rv_emit_instructions.specs.Operations.{register_operation, is_commutative, immediate_form, constant_written, on_registers, on_immediate, by_word, operation_code, shifted_twice, truncation_code, compared, comparison_code, move_code}
use Rattle.rv_emit_steps.specs.Holding.{Holding, AreInRange}
use Rattle.rv_emit_steps.specs.Doing.{done_by_all, writing}
use Rattle.rv_emit_steps.proofs.Placing.{done_by_both, can_do_both, regions_stay}
use Rattle.rv_emit_steps.proofs.Registers.{register_same, register_other}
use Rattle.rv_emit_steps.proofs.Apart.{loaded_in_range}
use Rattle.rv_emit_steps.proofs.Operating.{operated_in_range}
use Rattle.rv_emit_steps.specs.EmitMovesDoing.{Brings, Writes, Computes, Makes, IsReadable, CanFetch, CanWrite, value_of}
use Rattle.rv_emit_steps.proofs.Constants.{addi_brings, constant_brings}
use Rattle.rv_emit_steps.proofs.Slots.{slot_brings}
use Rattle.rv_emit_steps.proofs.Fetching.{holder_holds}
use Rattle.rv_emit_steps.proofs.Writing.{home_writes}
use Rattle.rv_emit_steps.proofs.Computing.{can_write_stays, memory_with_stays, fetched, found_apart, immediate_computes, registers_compute, computed_made, immediate_made, registers_made, result_some}
use Rattle.rv_emit_steps.proofs.Operations.{register_does, FormDoes, form_does, commutes, low_byte, low_half, signed_low_byte, signed_low_half, is_none, none_differ}
use Rattle.base_laws.proofs.Numbers.{chosen_fits}

-- ---- What is read is a word

pub value_fits : (g : StorageForm) (h : Holding) (source : Source) → AreInRange h → IsReadable g h source → value_of g h source < 4294967296
value_fits g h (OfHome (Register r)) range readable = range.words r
value_fits g h (OfHome (Slot k)) range readable = loaded_in_range Lw (h.registers 2 + slot_at g k) h.memory range.bytes
value_fits g h (Word w) range readable = omega arith

operated_fits : (op : Operation) (a b : ℕ) → a < 4294967296 → b < 4294967296 → word_operation op a b < 4294967296
operated_fits op a b ha hb = subst (λ x. x < 4294967296) (register_does op a b) (operated_in_range (register_operation op) a b ha hb)

-- ---- Constants

-- Words that bring a value into a home that is a register make it that.
brought_made : (g : StorageForm) (code : List Instruction) (h : Holding) (r v : ℕ) → Brings code h r r v → Makes g code h (Register r) v
brought_made g code h r v a = record { can = a.can; value = a.value; kept = λ q none left. a.kept q none left.t0; memory = a.memory; input = a.input }

-- Words that find a value in a register, and those that write a home from it, make the home that.
found_made : (g : StorageForm) (code : List Instruction) (h : Holding) (home : Home) (r v : ℕ) → r ≢ 5 → CanWrite g h home → v < 4294967296 → Brings code h 6 r v → Makes g (code ++ home_written g home r) h home v
found_made g code h home r v apart can fits a =
    let rest = home_written g home r in
    let t : Holding = done_by_all code h in
    let sp : t.registers 2 ≡ h.registers 2 = a.kept 2 (λ e. cc) (λ e. cc) in
    let b : Writes g rest t home v = home_writes g t home r v (can_write_stays g h t home (regions_stay code h) sp can) apart a.value fits in
    let both : done_by_all (code ++ rest) h ≡ done_by_all rest t = done_by_both code rest h in
    record {
      can = can_do_both code rest h a.can b.can;
      value = ap (λ (u : Holding). value_of g u (OfHome home)) both ∙ b.value;
      kept = λ q none left. ap (λ (u : Holding). u.registers q) both ∙ b.kept q none left.t0 ∙ a.kept q left.t1 left.t0;
      memory = ap (λ (u : Holding). u.memory) both ∙ b.memory ∙ memory_with_stays g h t home v sp a.memory;
      input = ap (λ (u : Holding). u.input) both ∙ b.input ∙ a.input;
    }

pub constant_set : (held : List Held) (h : Holding) (g : StorageForm) (r w : ℕ) → 0 < r → w < 4294967296 → CanFetch g held h → Brings (set_constant_code r w g.base held) h r r w
constant_set held h g r w some fits can = by_test (is_small w) (holder_of w held) refl
  where
    made : Brings (constant_code r w g.base) h r r w
    made = constant_brings h r w g.base some fits (omega (arith, can.fits)) can.none can.gp

    by_test : (b : Bool) (o : Option ℕ) → holder_of w held ≡ o → Brings (cond b (constant_code r w g.base) (option_map_or (λ q. Immediate Addi r q 0 ∷ []) o (constant_code r w g.base))) h r r w
    by_test true o e = made
    by_test false None e = made
    by_test false (Some q) e = addi_brings h r q 0 w some (ap (λ x. (x + 0) % 4294967296) (holder_holds held h w q can.all e) ∙ (omega arith))

constant_made : (g : StorageForm) (held : List Held) (h : Holding) (target : Home) (w : ℕ) → CanFetch g held h → CanWrite g h target → w < 4294967296 → Makes g (constant_written g held target w) h target w
constant_made g held h (Register r) w can write fits = brought_made g _ h r w (constant_set held h g r w write.0 fits can)
constant_made g held h (Slot k) w can write fits =
    let readable : IsReadable g h (Word w) = omega arith in
    found_made g (fetched_constant w g.base 6 held) h (Slot k) (constant_register w g.base 6 held) w (found_apart g held h (Word w) can.left readable).0 write fits (fetched g held h (Word w) 6 (omega arith) can readable)

-- ---- Operations

-- An operation of the unit on two registers.
on_registers_made : (g : StorageForm) (held : List Held) (h : Holding) (target : Home) (op : Operation) (left right : Source) → CanFetch g held h → CanWrite g h target → AreInRange h → IsReadable g h left → IsReadable g h right
    → Makes g (on_registers g held target (register_operation op) left right) h target (word_operation op (value_of g h left) (value_of g h right))
on_registers_made g held h target op left right can write range readable also =
    subst (λ v. Makes g (on_registers g held target (register_operation op) left right) h target v) (register_does op (value_of g h left) (value_of g h right))
    (registers_made g held h target (register_operation op) left right can write readable also
    (operated_in_range (register_operation op) (value_of g h left) (value_of g h right) (value_fits g h left range readable) (value_fits g h right range also)))

by_word_made : (g : StorageForm) (held : List Held) (h : Holding) (target : Home) (op : Operation) (left : Source) (w : ℕ) → CanFetch g held h → CanWrite g h target → AreInRange h → IsReadable g h left → w < 4294967296
    → Makes g (by_word g held target op left w) h target (word_operation op (value_of g h left) w)
by_word_made g held h target op left w can write range readable fits = by_form (immediate_form op w) (form_does op w fits)
  where
    x : ℕ
    x = value_of g h left

    by_form : (o : Option (ImmediateOperation × ℕ)) → FormDoes op w o
        → Makes g (option_map_or (λ (form : ImmediateOperation × ℕ). on_immediate g held target form.0 left form.1) o (on_registers g held target (register_operation op) left (Word w))) h target (word_operation op x w)
    by_form None does = on_registers_made g held h target op left (Word w) can write range readable (omega arith)
    by_form (Some f) does =
        let is : operated_immediate f.0 x f.1 ≡ word_operation op x w = does x (value_fits g h left range readable) in
        subst (λ v. Makes g (on_immediate g held target f.0 left f.1) h target v) is
        (immediate_made g held h target f.0 left f.1 can write readable (subst (λ v. v < 4294967296) (sym is) (operated_fits op x w (value_fits g h left range readable) fits)))

-- The words of an operation.
pub operation_made : (g : StorageForm) (held : List Held) (h : Holding) (target : Home) (op : Operation) (left right : Source) → CanFetch g held h → CanWrite g h target → AreInRange h → IsReadable g h left → IsReadable g h right
    → Makes g (operation_code g held target op left right) h target (word_operation op (value_of g h left) (value_of g h right))
operation_made g held h target op (Word a) (Word b) can write range readable also = constant_made g held h target (word_operation op a b) can write (operated_fits op a b (omega arith) (omega arith))
operation_made g held h target op (OfHome a) (Word b) can write range readable also = by_word_made g held h target op (OfHome a) b can write range readable (omega arith)
operation_made g held h target op (OfHome a) (OfHome b) can write range readable also = on_registers_made g held h target op (OfHome a) (OfHome b) can write range readable also
operation_made g held h target op (Word a) (OfHome b) can write range readable also = by_test (is_commutative op) refl
  where
    y : ℕ
    y = value_of g h (OfHome b)

    by_test : (c : Bool) → is_commutative op ≡ c → Makes g (cond c (by_word g held target op (OfHome b) a) (on_registers g held target (register_operation op) (Word a) (OfHome b))) h target (word_operation op a y)
    by_test true is = subst (λ v. Makes g (by_word g held target op (OfHome b) a) h target v) (commutes op y a is) (by_word_made g held h target op (OfHome b) a can write range also (omega arith))
    by_test false is = on_registers_made g held h target op (Word a) (OfHome b) can write range readable also

-- ---- Truncations and comparisons

-- One more operation on t1, in which a value was made.
then_immediate : (code : List Instruction) (h : Holding) (op : ImmediateOperation) (rd v n : ℕ) → 0 < rd → Computes code h 6 v → Computes (code ++ Immediate op rd 6 n ∷ []) h rd (operated_immediate op v n)
then_immediate code h op rd v n some a =
    let t : Holding = done_by_all code h in
    let w : ℕ = operated_immediate op (t.registers 6) n in
    let both : done_by_all (code ++ Immediate op rd 6 n ∷ []) h ≡ writing rd w t = done_by_both code (Immediate op rd 6 n ∷ []) h in
    record {
      can = can_do_both code (Immediate op rd 6 n ∷ []) h a.can (tt, tt);
      value = ap (λ (u : Holding). u.registers rd) both ∙ register_same rd w t.registers some ∙ ap (λ x. operated_immediate op x n) a.value;
      kept = λ q other left. ap (λ (u : Holding). u.registers q) both ∙ register_other rd w q t.registers other ∙ a.kept q left.t1 left;
      memory = ap (λ (u : Holding). u.memory) both ∙ a.memory;
      input = ap (λ (u : Holding). u.input) both ∙ a.input;
    }

truncated_fits : (t : Truncation) (a : ℕ) → truncated t a < 4294967296
unfolding truncated
truncated_fits Unsigned8 a = omega arith
truncated_fits Signed16 a = chosen_fits (nat_lt (a % 65536) 32768) (a % 65536) (a % 65536 + 4294901760) (omega arith) (omega arith)
truncated_fits Unsigned16 a = omega arith
truncated_fits Signed8 a = chosen_fits (nat_lt (a % 256) 128) (a % 256) (a % 256 + 4294967040) (omega arith) (omega arith)

shifted_made : (g : StorageForm) (held : List Held) (h : Holding) (target : Home) (source : Source) (by : ℕ) (back : ImmediateOperation) (v : ℕ) → CanFetch g held h → CanWrite g h target → IsReadable g h source
    → operated_immediate back (operated_immediate Slli (value_of g h source) by) by ≡ v → v < 4294967296 → Makes g (shifted_twice g held target source by back) h target v
shifted_made g held h target source by back v can write readable is fits =
    let rd : ℕ = result_register target in
    let front = fetched_source g held source 6 in
    let i : Instruction = Immediate Slli 6 (source_register g held source 6) by in
    let j : Instruction = Immediate back rd 6 by in
    let rest = finishing g target rd in
    let x : ℕ = value_of g h source in
    let a : Computes (front ++ i ∷ []) h 6 (operated_immediate Slli x by) = immediate_computes g held h Slli source 6 by (omega arith) can readable in
    let b : Computes ((front ++ i ∷ []) ++ j ∷ []) h rd (operated_immediate back (operated_immediate Slli x by) by) = then_immediate (front ++ i ∷ []) h back rd (operated_immediate Slli x by) by (result_some g h target write) a in
    subst (λ l. Makes g l h target v) (append_assoc (front ++ i ∷ []) (j ∷ []) rest ∙ append_assoc front (i ∷ []) (j ∷ rest))
    (computed_made g ((front ++ i ∷ []) ++ j ∷ []) h target v write (subst (λ y. Computes ((front ++ i ∷ []) ++ j ∷ []) h rd y) is b) fits)

-- The words of a truncation.
pub truncation_made : (g : StorageForm) (held : List Held) (h : Holding) (target : Home) (t : Truncation) (source : Source) → CanFetch g held h → CanWrite g h target → IsReadable g h source
    → Makes g (truncation_code g held target t source) h target (truncated t (value_of g h source))
truncation_made g held h target Unsigned8 source can write readable =
    let is = low_byte (value_of g h source) in
    subst (λ v. Makes g (on_immediate g held target Andi source 255) h target v) is (immediate_made g held h target Andi source 255 can write readable (subst (λ v. v < 4294967296) (sym is) (truncated_fits Unsigned8 (value_of g h source))))
truncation_made g held h target Signed8 source can write readable = shifted_made g held h target source 24 Srai _ can write readable (signed_low_byte (value_of g h source)) (truncated_fits Signed8 (value_of g h source))
truncation_made g held h target Unsigned16 source can write readable = shifted_made g held h target source 16 Srli _ can write readable (low_half (value_of g h source)) (truncated_fits Unsigned16 (value_of g h source))
truncation_made g held h target Signed16 source can write readable = shifted_made g held h target source 16 Srai _ can write readable (signed_low_half (value_of g h source)) (truncated_fits Signed16 (value_of g h source))

test_fits : (b : Bool) → word_of_test b < 4294967296
test_fits true = omega arith
test_fits false = omega arith

-- A test whether what is read is 0.
zero_made : (g : StorageForm) (held : List Held) (h : Holding) (target : Home) (source : Source) → CanFetch g held h → CanWrite g h target → IsReadable g h source
    → Makes g (on_immediate g held target Sltiu source 1) h target (word_of_test (value_of g h source == 0))
zero_made g held h target source can write readable =
    let is = is_none (value_of g h source) in
    subst (λ v. Makes g (on_immediate g held target Sltiu source 1) h target v) is (immediate_made g held h target Sltiu source 1 can write readable (subst (λ v. v < 4294967296) (sym is) (test_fits (value_of g h source == 0))))

-- A word is 0, and another one is the same: it is 0.
none_first : (a y : ℕ) → a ≡ 0 → (y == 0) ≡ (a == y)
none_first a y none = by_test (y == 0) refl
  where
    by_test : (c : Bool) → (y == 0) ≡ c → c ≡ (a == y)
    by_test true is = sym (eq-eqb a y (none ∙ sym (eqb-true y 0 is)))
    by_test false is = sym (ne_eqb a y (λ same. cc (eq-eqb y 0 (sym same ∙ none))))

compared_made : (g : StorageForm) (held : List Held) (h : Holding) (target : Home) (left right : Source) → CanFetch g held h → CanWrite g h target → IsReadable g h left → IsReadable g h right
    → Makes g (compared g held target left right) h target (word_of_test (value_of g h left == value_of g h right))
compared_made g held h target left right can write readable also =
    let rd : ℕ = result_register target in
    let front = fetched_source g held left 6 in
    let back = fetched_source g held right 7 in
    let i : Instruction = OnRegisters on.Xor 6 (source_register g held left 6) (source_register g held right 7) in
    let j : Instruction = Immediate Sltiu rd 6 1 in
    let rest = finishing g target rd in
    let x : ℕ = value_of g h left in
    let y : ℕ = value_of g h right in
    let a : Computes ((front ++ back) ++ i ∷ []) h 6 (done_on on.Xor x y) = registers_compute g held h on.Xor left right 6 (omega arith) can readable also in
    let b : Computes (((front ++ back) ++ i ∷ []) ++ j ∷ []) h rd (operated_immediate Sltiu (done_on on.Xor x y) 1) = then_immediate ((front ++ back) ++ i ∷ []) h Sltiu rd (done_on on.Xor x y) 1 (result_some g h target write) a in
    subst (λ l. Makes g l h target (word_of_test (x == y))) (append_assoc ((front ++ back) ++ i ∷ []) (j ∷ []) rest ∙ append_assoc (front ++ back) (i ∷ []) (j ∷ rest))
    (computed_made g (((front ++ back) ++ i ∷ []) ++ j ∷ []) h target (word_of_test (x == y)) write (subst (λ v. Computes (((front ++ back) ++ i ∷ []) ++ j ∷ []) h rd v) (none_differ x y) b) (test_fits (x == y)))

-- The words of a comparison.
pub comparison_made : (g : StorageForm) (held : List Held) (h : Holding) (target : Home) (left right : Source) → CanFetch g held h → CanWrite g h target → IsReadable g h left → IsReadable g h right
    → Makes g (comparison_code g held target left right) h target (word_of_test (value_of g h left == value_of g h right))
comparison_made g held h target (OfHome a) (OfHome b) can write readable also = compared_made g held h target (OfHome a) (OfHome b) can write readable also
comparison_made g held h target (Word a) (OfHome b) can write readable also = by_test (a == 0) refl
  where
    y : ℕ
    y = value_of g h (OfHome b)

    by_test : (c : Bool) → (a == 0) ≡ c → Makes g (cond c (on_immediate g held target Sltiu (OfHome b) 1) (compared g held target (Word a) (OfHome b))) h target (word_of_test (a == y))
    by_test true is = subst (λ c. Makes g (on_immediate g held target Sltiu (OfHome b) 1) h target (word_of_test c)) (none_first a y (eqb-true a 0 is)) (zero_made g held h target (OfHome b) can write also)
    by_test false is = compared_made g held h target (Word a) (OfHome b) can write readable also
comparison_made g held h target (OfHome a) (Word b) can write readable also = by_test (b == 0) refl
  where
    x : ℕ
    x = value_of g h (OfHome a)

    by_test : (c : Bool) → (b == 0) ≡ c → Makes g (cond c (on_immediate g held target Sltiu (OfHome a) 1) (compared g held target (OfHome a) (Word b))) h target (word_of_test (x == b))
    by_test true is = subst (λ n. Makes g (on_immediate g held target Sltiu (OfHome a) 1) h target (word_of_test (x == n))) (sym (eqb-true b 0 is)) (zero_made g held h target (OfHome a) can write readable)
    by_test false is = compared_made g held h target (OfHome a) (Word b) can write readable also
comparison_made g held h target (Word a) (Word b) can write readable also = by_tests (a == 0) (b == 0) refl refl
  where
    by_tests : (c d : Bool) → (a == 0) ≡ c → (b == 0) ≡ d
        → Makes g (cond c (on_immediate g held target Sltiu (Word b) 1) (cond d (on_immediate g held target Sltiu (Word a) 1) (compared g held target (Word a) (Word b)))) h target (word_of_test (a == b))
    by_tests true d is eb = subst (λ c. Makes g (on_immediate g held target Sltiu (Word b) 1) h target (word_of_test c)) (none_first a b (eqb-true a 0 is)) (zero_made g held h target (Word b) can write also)
    by_tests false true ea is = subst (λ n. Makes g (on_immediate g held target Sltiu (Word a) 1) h target (word_of_test (a == n))) (sym (eqb-true b 0 is)) (zero_made g held h target (Word a) can write readable)
    by_tests false false ea eb = compared_made g held h target (Word a) (Word b) can write readable also

-- ---- Moves

-- The words of a move.
pub move_made : (g : StorageForm) (held : List Held) (h : Holding) (target : Home) (source : Source) → CanFetch g held h → CanWrite g h target → AreInRange h → IsReadable g h source
    → Makes g (move_code g held target source) h target (value_of g h source)
move_made g held h target (Word w) can write range readable = constant_made g held h target w can write (omega arith)
move_made g held h (Register r) (OfHome (Slot k)) can write range readable = brought_made g _ h r _ (slot_brings h r (slot_at g k) write.0 readable)
move_made g held h (Register r) (OfHome (Register q)) can write range readable =
    let fits : h.registers q < 4294967296 = range.words q in
    brought_made g _ h r (h.registers q) (addi_brings h r q 0 (h.registers q) write.0 (omega arith))
move_made g held h (Slot k) (OfHome from) can write range readable =
    found_made g (fetched_home g from 6) h (Slot k) (home_register from 6) (value_of g h (OfHome from)) (found_apart g held h (OfHome from) can.left readable).0 write (value_fits g h (OfHome from) range readable) (fetched g held h (OfHome from) 6 (omega arith) can readable)
