-- The words of an operation do it: operands are fetched, the operation is done, and a slot is stored.
use Rattle.std.proofs.Common.{◌≡◌, ◌≢◌, ℕ, ◌+◌, ◌%◌, ◌<◌, ◌≤◌, sym, ap, ◌∙◌, subst, arith, refl, Option, Some, None, Bool, true, false, cond, List, [], ◌∷◌, ◌++◌, append_assoc}
use Rattle.std.specs.Prelude.{◌==◌}
use Rattle.std.specs.Option.{option_map_or}
use Rattle.memory_map.specs.Maps.{stack_end, stack_start}
use Rattle.rv_code.specs.declared.instruction.Instruction.{Instruction}
use Rattle.rv_code.specs.declared.instruction.Instruction.TheVariants.{Immediate, Register as OnRegisters}
use Rattle.rv_code.specs.declared.instruction.ImmediateOperation.{ImmediateOperation}
use Rattle.rv_code.specs.declared.instruction.RegisterOperation.{RegisterOperation}
use Rattle.rv_machine.specs.Table.{operation_result, operated_immediate}
use Rattle.graph_homes.specs.declared.home.Home.{Home}
use Rattle.graph_homes.specs.declared.home.Home.TheVariants.{Register, Slot}
use Rattle.rv_emit_words.specs.declared.piece.Held.{Held}
use Rattle.rv_emit_storage.specs.declared.storage.Source.{Source}
use Rattle.rv_emit_storage.specs.declared.storage.Source.TheVariants.{Home as OfHome, Word}
use Rattle.rv_emit_storage.specs.Storages.{StorageForm, slot_at}
use Rattle.rv_emit_words.specs.Growing.{holder_of}
use Rattle.rv_emit_words.specs.Operands.{source_register, fetched_source, result_register, finishing}
use Rattle.rv_emit_steps.specs.Holding.{Holding, word_at, with_bytes}
use Rattle.rv_emit_steps.specs.Doing.{done_by_all, CanDoAll, writing}
use Rattle.rv_emit_steps.proofs.Placing.{done_by_both, can_do_both, regions_stay}
use Rattle.rv_emit_steps.proofs.Registers.{register_same, register_other}
use Rattle.rv_emit_steps.specs.EmitMovesDoing.{Brings, Writes, Computes, Makes, HasSlot, HoldsAll, AreLeft, IsLeft, IsReadable, CanFetch, CanRead, CanWrite, IsNoHome, value_of, memory_with}
use Rattle.rv_emit_steps.proofs.Fetching.{source_found}
use Rattle.rv_emit_steps.proofs.Writing.{result_finished}

-- ---- What stays as it was behind a fetch

pub slot_stays : (h t : Holding) (offset : ℕ) → t.regions ≡ h.regions → t.registers 2 ≡ h.registers 2 → HasSlot h offset → HasSlot t offset
slot_stays h t offset regions sp slot =
    let aligned : (h.registers 2 + offset) % 4 ≡ 0 = slot.aligned in
    let low : stack_start h.regions ≤ h.registers 2 = slot.low in
    let high : h.registers 2 + offset + 4 ≤ stack_end h.regions = slot.high in
    record {
      aligned = ap (λ s. (s + offset) % 4) sp ∙ aligned;
      low = subst (λ m. stack_start m ≤ t.registers 2) (sym regions) (omega arith);
      high = subst (λ m. t.registers 2 + offset + 4 ≤ stack_end m) (sym regions) (omega arith);
    }

holding_stays : (held : List Held) (h t : Holding) → ((q : ℕ) → IsLeft q → t.registers q ≡ h.registers q) → AreLeft held → HoldsAll held h → HoldsAll held t
holding_stays [] h t kept left all = tt
holding_stays (x ∷ more) h t kept left all = (kept x.register left.0 ∙ all.0, holding_stays more h t kept left.1 all.1)

pub left_0 : IsLeft 0
left_0 = record { t0 = λ e. cc; t1 = λ e. cc; t2 = λ e. cc }

pub left_2 : IsLeft 2
left_2 = record { t0 = λ e. cc; t1 = λ e. cc; t2 = λ e. cc }

pub left_3 : IsLeft 3
left_3 = record { t0 = λ e. cc; t1 = λ e. cc; t2 = λ e. cc }

pub can_fetch_stays : (g : StorageForm) (held : List Held) (h t : Holding) → ((q : ℕ) → IsLeft q → t.registers q ≡ h.registers q) → CanFetch g held h → CanFetch g held t
can_fetch_stays g held h t kept can = record {
  fits = can.fits;
  none = kept 0 left_0 ∙ can.none;
  gp = kept 3 left_3 ∙ can.gp;
  all = holding_stays held h t kept can.left can.all;
  left = can.left;
}

pub readable_stays : (g : StorageForm) (h t : Holding) (source : Source) → t.regions ≡ h.regions → t.registers 2 ≡ h.registers 2 → IsReadable g h source → IsReadable g t source
readable_stays g h t (OfHome (Register r)) regions sp can = can
readable_stays g h t (OfHome (Slot k)) regions sp can = slot_stays h t (slot_at g k) regions sp can
readable_stays g h t (Word w) regions sp can = can

pub value_stays : (g : StorageForm) (h t : Holding) (source : Source) → ((q : ℕ) → IsLeft q → t.registers q ≡ h.registers q) → t.memory ≡ h.memory → IsReadable g h source → value_of g t source ≡ value_of g h source
value_stays g h t (OfHome (Register r)) kept memory can = kept r can
value_stays g h t (OfHome (Slot k)) kept memory can = ap (λ s. word_at t.memory (s + slot_at g k)) (kept 2 left_2) ∙ ap (λ (m : ℕ → ℕ). word_at m (h.registers 2 + slot_at g k)) memory
value_stays g h t (Word w) kept memory can = refl

pub can_write_stays : (g : StorageForm) (h t : Holding) (home : Home) → t.regions ≡ h.regions → t.registers 2 ≡ h.registers 2 → CanWrite g h home → CanWrite g t home
can_write_stays g h t (Register r) regions sp can = can
can_write_stays g h t (Slot k) regions sp can = slot_stays h t (slot_at g k) regions sp can

pub memory_with_stays : (g : StorageForm) (h t : Holding) (home : Home) (v : ℕ) → t.registers 2 ≡ h.registers 2 → t.memory ≡ h.memory → memory_with g t home v ≡ memory_with g h home v
memory_with_stays g h t (Register r) v sp memory = memory
memory_with_stays g h t (Slot k) v sp memory = ap (λ s. with_bytes 4 (s + slot_at g k) v t.memory) sp ∙ ap (λ (m : ℕ → ℕ). with_bytes 4 (h.registers 2 + slot_at g k) v m) memory

-- ---- A fetch

readable_read : (g : StorageForm) (h : Holding) (source : Source) → IsReadable g h source → CanRead g h source
readable_read g h (OfHome (Register r)) can = tt
readable_read g h (OfHome (Slot k)) can = can
readable_read g h (Word w) can = can

-- What is read is brought into a register, by way of a scratch register.
pub fetched : (g : StorageForm) (held : List Held) (h : Holding) (source : Source) (scratch : ℕ) → 0 < scratch → CanFetch g held h → IsReadable g h source
    → Brings (fetched_source g held source scratch) h scratch (source_register g held source scratch) (value_of g h source)
fetched g held h source scratch some can readable = source_found g h held source scratch some (omega (arith, can.fits)) can.none can.gp can.all (readable_read g h source readable)

-- The register in which something is found is left by other fetches, but for the scratch register itself.
holder_left : (held : List Held) (w r : ℕ) → AreLeft held → holder_of w held ≡ Some r → IsLeft r
holder_left [] w r left found = cc
holder_left (x ∷ more) w r left found = by_test (λ is. holder_left more w r left.1 is) (x.word == w) found
  where
    by_test : (holder_of w more ≡ Some r → IsLeft r) → (b : Bool) → cond b (Some x.register) (holder_of w more) ≡ Some r → IsLeft r
    by_test rest true is = let reg : x.register ≡ r = cc in subst IsLeft reg left.0
    by_test rest false is = rest is

not_t0_t2 : (q : ℕ) → IsLeft q → (q ≢ 5) × (q ≢ 7)
not_t0_t2 q left = (left.t0, left.t2)

-- A register that was found by way of t1 is neither t0 nor t2.
pub found_apart : (g : StorageForm) (held : List Held) (h : Holding) (source : Source) → AreLeft held → IsReadable g h source → (source_register g held source 6 ≢ 5) × (source_register g held source 6 ≢ 7)
found_apart g held h (OfHome (Register r)) left readable = (readable.t0, readable.t2)
found_apart g held h (OfHome (Slot k)) left readable = (λ e. cc, λ e. cc)
found_apart g held h (Word w) left readable = by_tests (w == 0) (w == g.base) (holder_of w held) refl
  where
    by_tests : (z b : Bool) (o : Option ℕ) → holder_of w held ≡ o → (cond z 0 (cond b 3 (option_map_or (λ r. r) o 6)) ≢ 5) × (cond z 0 (cond b 3 (option_map_or (λ r. r) o 6)) ≢ 7)
    by_tests true b o e = (λ e. cc, λ e. cc)
    by_tests false true o e = (λ e. cc, λ e. cc)
    by_tests false false (Some r) e = not_t0_t2 r (holder_left held w r left e)
    by_tests false false None e = (λ e. cc, λ e. cc)

-- ---- Operations

-- An operation on a register and an immediate behind the fetch of the register.
pub immediate_computes : (g : StorageForm) (held : List Held) (h : Holding) (op : ImmediateOperation) (source : Source) (rd n : ℕ) → 0 < rd → CanFetch g held h → IsReadable g h source
    → Computes (fetched_source g held source 6 ++ Immediate op rd (source_register g held source 6) n ∷ []) h rd (operated_immediate op (value_of g h source) n)
immediate_computes g held h op source rd n some can readable =
    let code = fetched_source g held source 6 in
    let rs : ℕ = source_register g held source 6 in
    let a : Brings code h 6 rs (value_of g h source) = fetched g held h source 6 (omega arith) can readable in
    let t : Holding = done_by_all code h in
    let v : ℕ = operated_immediate op (t.registers rs) n in
    let both : done_by_all (code ++ Immediate op rd rs n ∷ []) h ≡ writing rd v t = done_by_both code (Immediate op rd rs n ∷ []) h in
    record {
      can = can_do_both code (Immediate op rd rs n ∷ []) h a.can (tt, tt);
      value = ap (λ (u : Holding). u.registers rd) both ∙ register_same rd v t.registers some ∙ ap (λ x. operated_immediate op x n) a.value;
      kept = λ q other left. ap (λ (u : Holding). u.registers q) both ∙ register_other rd v q t.registers other ∙ a.kept q left.t1 left.t0;
      memory = ap (λ (u : Holding). u.memory) both ∙ a.memory;
      input = ap (λ (u : Holding). u.input) both ∙ a.input;
    }

-- Two fetches, one behind the other.
pub record BothFound (g : StorageForm) (held : List Held) (h : Holding) (left right : Source) : Type 0 where
  pub can : CanDoAll (fetched_source g held left 6 ++ fetched_source g held right 7) h
  pub left_value : (done_by_all (fetched_source g held left 6 ++ fetched_source g held right 7) h).registers (source_register g held left 6) ≡ value_of g h left
  pub right_value : (done_by_all (fetched_source g held left 6 ++ fetched_source g held right 7) h).registers (source_register g held right 7) ≡ value_of g h right
  pub kept : (q : ℕ) → IsLeft q → (done_by_all (fetched_source g held left 6 ++ fetched_source g held right 7) h).registers q ≡ h.registers q
  pub memory : (done_by_all (fetched_source g held left 6 ++ fetched_source g held right 7) h).memory ≡ h.memory
  pub input : (done_by_all (fetched_source g held left 6 ++ fetched_source g held right 7) h).input ≡ h.input

pub both_found : (g : StorageForm) (held : List Held) (h : Holding) (left right : Source) → CanFetch g held h → IsReadable g h left → IsReadable g h right → BothFound g held h left right
both_found g held h left right can readable also =
    let first = fetched_source g held left 6 in
    let second = fetched_source g held right 7 in
    let a : Brings first h 6 (source_register g held left 6) (value_of g h left) = fetched g held h left 6 (omega arith) can readable in
    let t : Holding = done_by_all first h in
    let stays : (q : ℕ) → IsLeft q → t.registers q ≡ h.registers q = λ q l. a.kept q l.t1 l.t0 in
    let b : Brings second t 7 (source_register g held right 7) (value_of g t right) =
    fetched g held t right 7 (omega arith) (can_fetch_stays g held h t stays can) (readable_stays g h t right (regions_stay first h) (stays 2 left_2) also) in
    let both : done_by_all (first ++ second) h ≡ done_by_all second t = done_by_both first second h in
    let apart = found_apart g held h left can.left readable in
    record {
      can = can_do_both first second h a.can b.can;
      left_value = ap (λ (u : Holding). u.registers (source_register g held left 6)) both ∙ b.kept (source_register g held left 6) apart.1 apart.0 ∙ a.value;
      right_value = ap (λ (u : Holding). u.registers (source_register g held right 7)) both ∙ b.value ∙ value_stays g h t right stays a.memory also;
      kept = λ q l. ap (λ (u : Holding). u.registers q) both ∙ b.kept q l.t2 l.t0 ∙ stays q l;
      memory = ap (λ (u : Holding). u.memory) both ∙ b.memory ∙ a.memory;
      input = ap (λ (u : Holding). u.input) both ∙ b.input ∙ a.input;
    }

-- An operation on two registers behind their fetches.
pub registers_compute : (g : StorageForm) (held : List Held) (h : Holding) (op : RegisterOperation) (left right : Source) (rd : ℕ) → 0 < rd → CanFetch g held h → IsReadable g h left → IsReadable g h right
    → Computes ((fetched_source g held left 6 ++ fetched_source g held right 7) ++ OnRegisters op rd (source_register g held left 6) (source_register g held right 7) ∷ []) h rd (operation_result op (value_of g h left) (value_of g h right))
registers_compute g held h op left right rd some can readable also =
    let code = fetched_source g held left 6 ++ fetched_source g held right 7 in
    let q1 : ℕ = source_register g held left 6 in
    let q2 : ℕ = source_register g held right 7 in
    let a : BothFound g held h left right = both_found g held h left right can readable also in
    let t : Holding = done_by_all code h in
    let v : ℕ = operation_result op (t.registers q1) (t.registers q2) in
    let both : done_by_all (code ++ OnRegisters op rd q1 q2 ∷ []) h ≡ writing rd v t = done_by_both code (OnRegisters op rd q1 q2 ∷ []) h in
    record {
      can = can_do_both code (OnRegisters op rd q1 q2 ∷ []) h a.can (tt, tt);
      value = ap (λ (u : Holding). u.registers rd) both ∙ register_same rd v t.registers some ∙ ap (λ x. operation_result op x (t.registers q2)) a.left_value ∙ ap (λ y. operation_result op (value_of g h left) y) a.right_value;
      kept = λ q other l. ap (λ (u : Holding). u.registers q) both ∙ register_other rd v q t.registers other ∙ a.kept q l;
      memory = ap (λ (u : Holding). u.memory) both ∙ a.memory;
      input = ap (λ (u : Holding). u.input) both ∙ a.input;
    }

-- ---- Results

pub result_some : (g : StorageForm) (h : Holding) (home : Home) → CanWrite g h home → 0 < result_register home
result_some g h (Register r) can = can.0
result_some g h (Slot k) can = omega arith

result_no_sp : (g : StorageForm) (h : Holding) (home : Home) → CanWrite g h home → 2 ≢ result_register home
result_no_sp g h (Register r) can = λ e. can.1 (sym e)
result_no_sp g h (Slot k) can = λ e. cc

no_result : (home : Home) (q : ℕ) → IsNoHome home q → IsLeft q → q ≢ result_register home
no_result (Register r) q none left = none
no_result (Slot k) q none left = left.t1

-- Words that compute a result in its register, and those that store it in a slot, make it the target's value.
pub computed_made : (g : StorageForm) (code : List Instruction) (h : Holding) (home : Home) (v : ℕ) → CanWrite g h home → Computes code h (result_register home) v → v < 4294967296
    → Makes g (code ++ finishing g home (result_register home)) h home v
computed_made g code h home v can a fits =
    let rest = finishing g home (result_register home) in
    let t : Holding = done_by_all code h in
    let sp : t.registers 2 ≡ h.registers 2 = a.kept 2 (result_no_sp g h home can) left_2 in
    let b : Writes g rest t home v = result_finished g t home v (can_write_stays g h t home (regions_stay code h) sp can) a.value fits in
    let both : done_by_all (code ++ rest) h ≡ done_by_all rest t = done_by_both code rest h in
    record {
      can = can_do_both code rest h a.can b.can;
      value = ap (λ (u : Holding). value_of g u (OfHome home)) both ∙ b.value;
      kept = λ q none left. ap (λ (u : Holding). u.registers q) both ∙ b.kept q none left.t0 ∙ a.kept q (no_result home q none left) left;
      memory = ap (λ (u : Holding). u.memory) both ∙ b.memory ∙ memory_with_stays g h t home v sp a.memory;
      input = ap (λ (u : Holding). u.input) both ∙ b.input ∙ a.input;
    }

-- The words of an operation on what is read and an immediate.
pub immediate_made : (g : StorageForm) (held : List Held) (h : Holding) (target : Home) (op : ImmediateOperation) (source : Source) (n : ℕ) → CanFetch g held h → CanWrite g h target → IsReadable g h source
    → operated_immediate op (value_of g h source) n < 4294967296
    → Makes g (fetched_source g held source 6 ++ Immediate op (result_register target) (source_register g held source 6) n ∷ finishing g target (result_register target)) h target (operated_immediate op (value_of g h source) n)
immediate_made g held h target op source n can write readable fits =
    let rd : ℕ = result_register target in
    let v : ℕ = operated_immediate op (value_of g h source) n in
    subst (λ l. Makes g l h target v) (append_assoc (fetched_source g held source 6) (Immediate op rd (source_register g held source 6) n ∷ []) (finishing g target rd))
    (computed_made g (fetched_source g held source 6 ++ Immediate op rd (source_register g held source 6) n ∷ []) h target v write (immediate_computes g held h op source rd n (result_some g h target write) can readable) fits)

-- The words of an operation on two things that are read.
pub registers_made : (g : StorageForm) (held : List Held) (h : Holding) (target : Home) (op : RegisterOperation) (left right : Source) → CanFetch g held h → CanWrite g h target → IsReadable g h left → IsReadable g h right
    → operation_result op (value_of g h left) (value_of g h right) < 4294967296
    → Makes g (fetched_source g held left 6 ++ fetched_source g held right 7 ++ OnRegisters op (result_register target) (source_register g held left 6) (source_register g held right 7) ∷ finishing g target (result_register target)) h target
    (operation_result op (value_of g h left) (value_of g h right))
registers_made g held h target op left right can write readable also fits =
    let rd : ℕ = result_register target in
    let v : ℕ = operation_result op (value_of g h left) (value_of g h right) in
    let front = fetched_source g held left 6 in
    let back = fetched_source g held right 7 in
    let i : Instruction = OnRegisters op rd (source_register g held left 6) (source_register g held right 7) in
    let rest = finishing g target rd in
    subst (λ l. Makes g l h target v) (append_assoc (front ++ back) (i ∷ []) rest)
    (computed_made g ((front ++ back) ++ i ∷ []) h target v write (registers_compute g held h op left right rd (result_some g h target write) can readable also) fits)
