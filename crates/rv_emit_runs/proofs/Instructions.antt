-- Words can spell the code of each instruction.
use Rattle.std.proofs.Common.{◌≡◌, ℕ, zero, suc, ◌+◌, ◌*◌, ◌%◌, ◌<◌, ◌≤◌, inl, inr, ⊎_elim, ◌==◌, ◌&&◌, ◌||◌, nat_lt, nat_le, true, Option, Some, None, List, [], ◌∷◌, ◌++◌, refl, sym, subst, arith}
use Rattle.std.proofs.lemmas.Bool.{and_parts, or_cases, ltb-true, leb-true, eqb-true}
use Rattle.word_base.specs.Arithmetic.{subtracted}
use Rattle.rv_code.specs.declared.instruction.Instruction.{Instruction}
use Rattle.rv_code.specs.declared.instruction.Instruction.TheVariants as instruction
use Rattle.rv_code.specs.declared.instruction.ImmediateOperation.TheVariants.{Addi}
use Rattle.rv_code.specs.declared.instruction.RegisterOperation.TheVariants as on
use Rattle.rv_code.specs.declared.instruction.LoadOperation.TheVariants.{Lw}
use Rattle.rv_code.specs.declared.instruction.StoreOperation.TheVariants.{Sw}
use Rattle.rv_code.specs.InForm.{IsBranchDistance, IsSigned12}
use Rattle.graph_core.specs.declared.instruction.Callee.{Callee}
use Rattle.graph_core.specs.declared.instruction.Callee.TheVariants as callee
use Rattle.graph_core.specs.declared.instruction.Element.{Element}
use Rattle.graph_core.specs.Graphs.{Operand, Location, Automatic, Static, At, Instruction as UnitInstruction, Marker, Note, Move, Operate, Truncate, Same, Address, Load, Store, Zero, CopyWords, Call}
use Rattle.graph_homes.specs.declared.home.Home.{Home}
use Rattle.rv_emit_words.specs.declared.piece.Held.{Held}
use Rattle.rv_emit_words.specs.declared.piece.Piece.{Piece}
use Rattle.rv_emit_words.specs.declared.piece.Piece.TheVariants as piece
use Rattle.rv_emit_words.specs.declared.piece.PlacedPiece.{PlacedPiece}
use Rattle.rv_emit_storage.specs.declared.storage.Source.{Source}
use Rattle.rv_emit_storage.specs.declared.storage.Source.TheVariants.{Home as OfHome, Word}
use Rattle.rv_emit_storage.specs.Storages.{StorageForm, array_bytes_at, home_at, object_at, source_of, static_object_at}
use Rattle.rv_emit_words.specs.Constants.{constant_code, constant_register, fetched_constant, high_part, is_small, low_part, set_constant_code, words_of_constant}
use Rattle.rv_emit_words.specs.Growing.{CodeState, marked, settled, with_code, with_piece}
use Rattle.rv_emit_words.specs.Operands.{address_code, bringing, fetched_source, finishing, home_written, result_register, source_register}
use Rattle.rv_emit_instructions.specs.Calls.{answered, argument_register, called, environment_called, forgetting, passed, passed_from}
use Rattle.rv_emit_instructions.specs.Code.{with_instruction}
use Rattle.rv_emit_instructions.specs.Filling.{copy_code, limit_code, turn_code, zero_code, zeros_code}
use Rattle.rv_emit_instructions.specs.Memory.{Reach, frame_reach, load_code, load_operation, loading, object_address_code, pointer_reach, reach_of, static_reach, store_code, store_operation, storing, upper_of}
use Rattle.rv_emit_steps.specs.Frames.{IsWord, IsWordIn}
use Rattle.rv_emit_runs.specs.Passing.{AreWords}
use Rattle.rv_emit_runs.specs.Laid.{HasWords}
use Rattle.rv_emit_runs.specs.EmitPlacedStanding.{AreSpelled, IsSpelled}
use Rattle.rv_emit_runs.proofs.Forms.{AreInForm, AreRegisters, IsFitHome, IsFitSource, IsFitStorage, address_fits, both_in_form, bringing_fits, choice, constant_fits, constant_register_is, fetched_constant_fits, fetched_fits, fetched_home_fits, finishing_fits, forgotten_registers, high_is, home_register_is, low_is, offset_is, result_is, set_constant_fits, small_is, source_fits, source_register_is, three_in_form, written_fits}
use Rattle.rv_emit_runs.proofs.Operations.{comparison_fits, move_fits, operation_fits, truncation_fits}
use Rattle.rv_emit_runs.proofs.Stops.{all_append}

-- ---- Memory

-- What it takes to reach memory can be spelled, and so can the offset.
pub record IsFitReach (r : Reach) : Type 0 where
  pub code : AreInForm r.code
  pub base : r.base < 32
  pub offset : IsSigned12 r.offset

static_fits : (g : StorageForm) (held : List Held) (address : ℕ) → AreRegisters held → IsFitReach (static_reach g held address)
static_fits g held address all =
    choice IsFitReach (is_small (subtracted address g.base))
    (record { code = []; base = 3; offset = subtracted address g.base })
    (record { code = fetched_constant (upper_of address) g.base 7 held; base = constant_register (upper_of address) g.base 7 held; offset = low_part address })
    (λ e. record { code = tt; base = omega arith; offset = small_is (subtracted address g.base) (omega arith) e })
    (λ e. record { code = fetched_constant_fits (upper_of address) g.base 7 held (omega arith) (omega arith); base = constant_register_is (upper_of address) g.base 7 held (omega arith) all; offset = low_is address })

pub frame_fits : (offset : ℕ) → IsFitReach (frame_reach offset)
frame_fits offset =
    choice IsFitReach (nat_lt offset 2048)
    (record { code = []; base = 2; offset = offset })
    (record { code = instruction.Lui 7 (high_part offset) ∷ instruction.Register on.Add 7 7 2 ∷ []; base = 7; offset = low_part offset })
    (λ e. record { code = tt; base = omega arith; offset = offset_is offset e })
    (λ e. record { code = ((omega arith, high_is offset), ((omega arith, omega arith, omega arith), tt)); base = omega arith; offset = low_is offset })

pointer_fits : (g : StorageForm) (held : List Held) (s : Source) → IsFitSource s → AreRegisters held → IsFitReach (pointer_reach g held s)
pointer_fits g held (Word address) is all = static_fits g held address all
pointer_fits g held (OfHome home) is all = record { code = fetched_home_fits g home 7 (omega arith); base = home_register_is home 7 is (omega arith); offset = inl (omega arith) }

reach_fits : (g : StorageForm) (held : List Held) → IsFitStorage g → AreRegisters held → (l : Location) → IsWordIn l → IsFitReach (reach_of g held l)
reach_fits g held fit all (Automatic object offset) is = frame_fits ((object_at g object + offset) % 4294967296)
reach_fits g held fit all (Static object) is = static_fits g held (static_object_at g object) all
reach_fits g held fit all (At a) is = pointer_fits g held (source_of g a) (source_fits g fit a is) all

loading_fits : (g : StorageForm) (target : Home) (e : Element) (r : Reach) → IsFitHome target → IsFitReach r → AreInForm (loading g target e r)
loading_fits g target e r home reach =
    both_in_form r.code (instruction.Load (load_operation e) (result_register target) r.base r.offset ∷ finishing g target (result_register target))
    reach.code ((result_is target home, reach.base, reach.offset), finishing_fits g target (result_register target) (result_is target home))

pub storing_fits : (e : Element) (r : Reach) (register : ℕ) → IsFitReach r → register < 32 → AreInForm (storing e r register)
storing_fits e r register reach low = both_in_form r.code (instruction.Store (store_operation e) register r.base r.offset ∷ []) reach.code ((low, reach.base, reach.offset), tt)

-- ---- Objects that are filled

zeros_fit : (offset n : ℕ) → offset < 2032 → n ≤ 4 → AreInForm (zeros_code offset n)
zeros_fit offset zero low few = tt
zeros_fit offset (suc n) low few =
    both_in_form (zeros_code offset n) (instruction.Store Sw 0 2 ((offset + n * 4 % 4294967296) % 4294967296) ∷ []) (zeros_fit offset n low (omega (arith, few)))
    ((omega arith, omega arith, inl (omega (arith, low, few))), tt)

limit_fits : (r bytes : ℕ) → r < 32 → bytes < 4294967296 → AreInForm (limit_code r bytes)
limit_fits r bytes reg low =
    choice AreInForm (is_small bytes) (instruction.Immediate Addi r 6 bytes ∷ []) (constant_code r bytes 0 ++ instruction.Register on.Add r r 6 ∷ [])
    (λ e. ((reg, omega arith, small_is bytes low e), tt))
    (λ e. both_in_form (constant_code r bytes 0) (instruction.Register on.Add r r 6 ∷ []) (constant_fits (words_of_constant bytes 0) r bytes 0 reg low) ((reg, reg, omega arith), tt))

turn_fits : (limit back : ℕ) → limit < 32 → IsBranchDistance (subtracted 0 back) → AreInForm (turn_code limit back)
turn_fits limit back reg is = ((omega arith, omega arith, inl (omega arith)), ((omega arith, reg, is), tt))

zero_fits : (g : StorageForm) (object words : ℕ) → AreInForm (zero_code g object words)
zero_fits g object words =
    choice AreInForm (words == 0 || (nat_le words 4 && nat_lt (object_at g object) 2032)) (zeros_code (object_at g object) words)
    (address_code 6 6 (object_at g object) ++ limit_code 7 (words * 4 % 4294967296) ++ instruction.Store Sw 0 6 0 ∷ turn_code 7 8)
    (λ e. ⊎_elim
    (λ (none : (words == 0) ≡ true). subst (λ n. AreInForm (zeros_code (object_at g object) n)) (sym (eqb-true words 0 none)) tt)
    (λ (both : (nat_le words 4 && nat_lt (object_at g object) 2032) ≡ true).
    let parts = and_parts (nat_le words 4) (nat_lt (object_at g object) 2032) both in
    zeros_fit (object_at g object) words (ltb-true (object_at g object) 2032 parts.1) (leb-true words 4 parts.0))
    (or_cases (words == 0) (nat_le words 4 && nat_lt (object_at g object) 2032) e))
    (λ e. three_in_form (address_code 6 6 (object_at g object)) (limit_code 7 (words * 4 % 4294967296)) (instruction.Store Sw 0 6 0 ∷ turn_code 7 8)
    (address_fits 6 6 (object_at g object) (omega arith) (omega arith)) (limit_fits 7 (words * 4 % 4294967296) (omega arith) (omega arith))
    ((omega arith, omega arith, inl (omega arith)), turn_fits 7 8 (omega arith) (refl, inr (omega arith, omega arith))))

copy_fits : (g : StorageForm) (held : List Held) → IsFitStorage g → AreRegisters held → (object bytes words : ℕ) → AreInForm (copy_code g held object bytes words)
copy_fits g held fit all object bytes words =
    choice AreInForm (words == 0) []
    (address_code 6 6 (object_at g object) ++ set_constant_code 7 (array_bytes_at g bytes) g.base held ++ limit_code 10 (words * 4 % 4294967296) ++ instruction.Load Lw 5 7 0 ∷ instruction.Store Sw 5 6 0 ∷ instruction.Immediate Addi 7 7 4 ∷ turn_code 10 16)
    (λ e. tt)
    (λ e. both_in_form (address_code 6 6 (object_at g object) ++ set_constant_code 7 (array_bytes_at g bytes) g.base held ++ limit_code 10 (words * 4 % 4294967296))
    (instruction.Load Lw 5 7 0 ∷ instruction.Store Sw 5 6 0 ∷ instruction.Immediate Addi 7 7 4 ∷ turn_code 10 16)
    (three_in_form (address_code 6 6 (object_at g object)) (set_constant_code 7 (array_bytes_at g bytes) g.base held) (limit_code 10 (words * 4 % 4294967296))
    (address_fits 6 6 (object_at g object) (omega arith) (omega arith)) (set_constant_fits (words_of_constant (array_bytes_at g bytes) g.base) 7 (array_bytes_at g bytes) g.base held (omega arith) (fit.arrays bytes) all)
    (limit_fits 10 (words * 4 % 4294967296) (omega arith) (omega arith)))
    ((omega arith, omega arith, inl (omega arith)), ((omega arith, omega arith, inl (omega arith)), ((omega arith, omega arith, inl (omega arith)), turn_fits 10 16 (omega arith) (refl, inr (omega arith, omega arith))))))

-- ---- Code as it grows

-- Words can spell the pieces so far, and constants are held in registers.
pub record IsFitCode (s : CodeState) : Type 0 where
  pub pieces : AreSpelled s.pieces
  pub held : AreRegisters s.held

pub with_piece_fits : (q : Piece) (s : CodeState) → IsSpelled q → IsFitCode s → IsFitCode (with_piece q s)
with_piece_fits q s is fit = record {
  pieces = all_append (λ (x : PlacedPiece). IsSpelled x.piece) s.pieces ((record { piece = q; owner = s.owner; is_stop = s.begins; writes = None }) ∷ []) fit.pieces (is, tt);
  held = fit.held;
}

pub with_code_fits : (code : List Instruction) (s : CodeState) → AreInForm code → IsFitCode s → IsFitCode (with_code code s)
with_code_fits [] s is fit = fit
with_code_fits (i ∷ more) s is fit = with_code_fits more (with_piece (piece.Word i) s) is.1 (with_piece_fits (piece.Word i) s is.0 fit)

settled_fits : (s : CodeState) → IsFitCode s → IsFitCode (settled s)
settled_fits s fit = choice IsFitCode s.begins (with_code (instruction.Immediate Addi 0 0 0 ∷ []) s) s (λ e. with_code_fits (instruction.Immediate Addi 0 0 0 ∷ []) s ((omega arith, omega arith, inl (omega arith)), tt) fit) (λ e. fit)

pub marked_spelled : (n : ℕ) (pieces : List PlacedPiece) → AreSpelled pieces → AreSpelled (marked n pieces)
marked_spelled n [] all = tt
marked_spelled n (x ∷ []) all = (all.0, tt)
marked_spelled n (x ∷ y ∷ more) all = (all.0, marked_spelled n (y ∷ more) all.1)

-- ---- Calls

pub argument_is : (n : ℕ) → argument_register n < 32
argument_is n = choice (λ r. r < 32) (nat_lt n 8) (10 + n) 17 (λ e. let low : n < 8 = ltb-true n 8 e in omega (arith, low)) (λ e. omega arith)

forgetting_fits : (r : ℕ) (s : CodeState) → IsFitCode s → IsFitCode (forgetting r s)
forgetting_fits r s fit = record { pieces = fit.pieces; held = forgotten_registers r s.held fit.held }

passed_fits : (g : StorageForm) → IsFitStorage g → (n : ℕ) (a : Operand) (s : CodeState) → IsWord a → IsFitCode s → IsFitCode (passed g n a s)
passed_fits g storage n a s is fit =
    forgetting_fits (argument_register n) (with_code (bringing g s.held (argument_register n) (source_of g a)) s)
    (with_code_fits (bringing g s.held (argument_register n) (source_of g a)) s (bringing_fits g s.held (argument_register n) (source_of g a) (argument_is n) (source_fits g storage a is) fit.held) fit)

all_passed : (g : StorageForm) → IsFitStorage g → (n : ℕ) (all : List Operand) (s : CodeState) → AreWords all → IsFitCode s → IsFitCode (passed_from g n all s)
all_passed g storage n [] s are fit = fit
all_passed g storage n (a ∷ more) s are fit = all_passed g storage (n + 1) more (passed g n a s) are.1 (passed_fits g storage n a s are.0 fit)

environment_fits : (n : ℕ) (s : CodeState) → n < 2048 → IsFitCode s → IsFitCode (environment_called n s)
environment_fits n s low fit =
    with_code_fits (instruction.Ecall ∷ []) (forgetting 17 (with_code (instruction.Immediate Addi 17 0 n ∷ []) s)) (tt, tt)
    (forgetting_fits 17 (with_code (instruction.Immediate Addi 17 0 n ∷ []) s) (with_code_fits (instruction.Immediate Addi 17 0 n ∷ []) s ((omega arith, omega arith, inl low), tt) fit))

called_fits : (f : Callee) (s : CodeState) → IsFitCode s → IsFitCode (called f s)
called_fits callee.Getchar s fit = environment_fits 1 s (omega arith) fit
called_fits callee.Putchar s fit = environment_fits 2 s (omega arith) fit
called_fits callee.Exit s fit = environment_fits 10 s (omega arith) fit
called_fits (callee.Function f) s fit = with_piece_fits (piece.Call f) (record s { held = [] }) tt (record { pieces = fit.pieces; held = tt })

answered_fits : (g : StorageForm) → IsFitStorage g → (target : Option ℕ) (s : CodeState) → IsFitCode s → IsFitCode (answered g target s)
answered_fits g storage None s fit = fit
answered_fits g storage (Some x) s fit = with_code_fits (home_written g (home_at g x) 10) s (written_fits g (home_at g x) 10 (storage.homes x) (omega arith)) fit

-- ---- All of them

-- The code of an instruction whose constants are words can be spelled.
pub instruction_fits : (g : StorageForm) → IsFitStorage g → (entry : ℕ) (i : UnitInstruction) (s : CodeState) → HasWords i → IsFitCode s → IsFitCode (with_instruction g entry i s)
instruction_fits g storage entry (Marker p) s is fit = let done = settled_fits s fit in record { pieces = done.pieces; held = done.held }
instruction_fits g storage entry (Note x v) s is fit = fit
instruction_fits g storage entry (Move x a) s is fit = with_code_fits _ s (move_fits g s.held fit.held (home_at g x) (storage.homes x) (source_of g a) (source_fits g storage a is)) fit
instruction_fits g storage entry (Operate x op a b) s is fit = with_code_fits _ s (operation_fits g s.held fit.held (home_at g x) (storage.homes x) op (source_of g a) (source_of g b) (source_fits g storage a is.0) (source_fits g storage b is.1)) fit
instruction_fits g storage entry (Truncate x t a) s is fit = with_code_fits _ s (truncation_fits g s.held fit.held (home_at g x) (storage.homes x) t (source_of g a) (source_fits g storage a is)) fit
instruction_fits g storage entry (Same x a b) s is fit = with_code_fits _ s (comparison_fits g s.held fit.held (home_at g x) (storage.homes x) (source_of g a) (source_of g b) (source_fits g storage a is.0) (source_fits g storage b is.1)) fit
instruction_fits g storage entry (Address x object) s is fit =
    with_code_fits (object_address_code g (home_at g x) object) s
    (both_in_form (address_code (result_register (home_at g x)) 7 (object_at g object)) (finishing g (home_at g x) (result_register (home_at g x)))
    (address_fits (result_register (home_at g x)) 7 (object_at g object) (result_is (home_at g x) (storage.homes x)) (omega arith)) (finishing_fits g (home_at g x) (result_register (home_at g x)) (result_is (home_at g x) (storage.homes x)))) fit
instruction_fits g storage entry (Load x e l) s is fit = with_code_fits (load_code g s.held (home_at g x) e l) s (loading_fits g (home_at g x) e (reach_of g s.held l) (storage.homes x) (reach_fits g s.held storage fit.held l is)) fit
instruction_fits g storage entry (Store e l a) s is fit =
    with_code_fits (store_code g s.held e l (source_of g a)) s
    (both_in_form (fetched_source g s.held (source_of g a) 6) (storing e (reach_of g s.held l) (source_register g s.held (source_of g a) 6))
    (fetched_fits g s.held (source_of g a) 6 (source_fits g storage a is.1) (omega arith))
    (storing_fits e (reach_of g s.held l) (source_register g s.held (source_of g a) 6) (reach_fits g s.held storage fit.held l is.0) (source_register_is g s.held (source_of g a) 6 (source_fits g storage a is.1) fit.held (omega arith)))) fit
instruction_fits g storage entry (Zero object words) s is fit = with_code_fits (zero_code g object words) s (zero_fits g object words) fit
instruction_fits g storage entry (CopyWords object bytes words) s is fit = with_code_fits (copy_code g s.held object bytes words) s (copy_fits g s.held storage fit.held object bytes words) fit
instruction_fits g storage entry (Call target f all) s is fit =
    answered_fits g storage target (called f (passed_from g 0 all s)) (called_fits f (passed_from g 0 all s) (all_passed g storage 0 all s is fit))
