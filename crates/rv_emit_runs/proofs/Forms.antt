-- Words can spell the code of constants, operands and homes.
use Rattle.std.proofs.Common.{◌≡◌, ℕ, ◌+◌, ◌%◌, ◌<◌, ◌≤◌, inl, inr, ⊎_elim, ◌==◌, ◌&&◌, not, nat_lt, nat_le, cond, Bool, true, false, Some, List, [], ◌∷◌, ◌++◌, subst, arith}
use Rattle.std.specs.List.{AllByRecursion}
use Rattle.std.proofs.lemmas.Bool.{and_parts, or_cases, ltb-true, ltb-false, leb-true}
use Rattle.word_base.specs.Arithmetic.{subtracted}
use Rattle.rv_code.specs.declared.instruction.ImmediateOperation.TheVariants.{Addi}
use Rattle.rv_code.specs.declared.instruction.Instruction.{Instruction}
use Rattle.rv_code.specs.declared.instruction.Instruction.TheVariants as instruction
use Rattle.rv_code.specs.InForm.{IsInForm, IsSigned12}
use Rattle.graph_homes.specs.declared.home.Home.{Home}
use Rattle.graph_homes.specs.declared.home.Home.TheVariants.{Register, Slot}
use Rattle.rv_emit_words.specs.declared.piece.Held.{Held}
use Rattle.rv_emit_storage.specs.declared.storage.Source.{Source}
use Rattle.rv_emit_storage.specs.declared.storage.Source.TheVariants.{Home as OfHome, Word}
use Rattle.graph_core.specs.Graphs.{Operand, Name, Constant, StaticAddress}
use Rattle.rv_emit_storage.specs.Storages.{StorageForm, array_bytes_at, home_at, slot_at, source_of}
use Rattle.rv_emit_steps.specs.Frames.{IsWord}
use Rattle.rv_emit_words.specs.Constants.{is_small, low_part, high_part, is_near_base, words_of_constant, one_word_constant, constant_by, constant_code, constant_register, fetched_constant, set_constant_by}
use Rattle.rv_emit_words.specs.Growing.{forgotten, holder_of}
use Rattle.rv_emit_words.specs.Operands.{address_code, bringing, fetched_home, fetched_source, finishing, home_register, home_written, load_slot_code, result_register, source_register, store_slot_code}
use Rattle.rv_emit_runs.proofs.Stops.{all_append}
pub use Rattle.base_laws.proofs.Booleans.{by_test as choice}
pub use Rattle.base_laws.proofs.Options.{by_option as perhaps}

-- Words can spell each of some instructions.
abbrev pub AreInForm : List Instruction → Type 0
AreInForm code = AllByRecursion IsInForm code

pub both_in_form : (front back : List Instruction) → AreInForm front → AreInForm back → AreInForm (front ++ back)
both_in_form front back a b = all_append IsInForm front back a b

pub three_in_form : (front middle back : List Instruction) → AreInForm front → AreInForm middle → AreInForm back → AreInForm (front ++ middle ++ back)
three_in_form front middle back a b c = both_in_form (front ++ middle) back (both_in_form front middle a b) c

-- ---- Choices

-- ---- Numbers

pub small_is : (w : ℕ) → w < 4294967296 → is_small w ≡ true → IsSigned12 w
small_is w low e = ⊎_elim (λ a. inl (ltb-true w 2048 a)) (λ b. inr (leb-true 4294965248 w b, low)) (or_cases (nat_lt w 2048) (nat_le 4294965248 w) e)

pub low_is : (w : ℕ) → IsSigned12 (low_part w)
low_is w = choice IsSigned12 (nat_lt (w % 4096) 2048) (w % 4096) (w % 4096 + 4294963200) (λ e. inl (ltb-true (w % 4096) 2048 e)) (λ e. inr (at_least (not_low e), omega arith))
  where
    not_low : nat_lt (w % 4096) 2048 ≡ false → 2048 ≤ w % 4096
    not_low e = ltb-false (w % 4096) 2048 e

    at_least : 2048 ≤ w % 4096 → 4294965248 ≤ w % 4096 + 4294963200
    at_least le = omega (arith, le)

pub high_is : (w : ℕ) → high_part w < 1048576
high_is w = omega arith

pub offset_is : (offset : ℕ) → nat_lt offset 2048 ≡ true → IsSigned12 offset
offset_is offset e = inl (ltb-true offset 2048 e)

-- ---- Constants

-- Registers that hold constants are registers.
abbrev pub AreRegisters : List Held → Type 0
AreRegisters held = AllByRecursion (λ (x : Held). x.register < 32) held

pub holder_is : (w : ℕ) (held : List Held) (r : ℕ) → AreRegisters held → holder_of w held ≡ Some r → r < 32
holder_is w [] r all e = cc
holder_is w (x ∷ more) r all e = by_test (x.word == w) e (λ later. holder_is w more r all.1 later)
  where
    by_test : (b : Bool) → cond b (Some x.register) (holder_of w more) ≡ Some r → (holder_of w more ≡ Some r → r < 32) → r < 32
    by_test true e later = let same : x.register ≡ r = cc in subst (λ k. k < 32) same all.0
    by_test false e later = later e

pub forgotten_registers : (r : ℕ) (held : List Held) → AreRegisters held → AreRegisters (forgotten r held)
forgotten_registers r [] all = tt
forgotten_registers r (x ∷ more) all = choice AreRegisters (not (x.register == r)) (x ∷ forgotten r more) (forgotten r more) (λ e. (all.0, forgotten_registers r more all.1)) (λ e. forgotten_registers r more all.1)

pub constant_fits : (n r w base : ℕ) → r < 32 → w < 4294967296 → AreInForm (constant_by n r w base)
constant_fits n r w base reg low =
    choice AreInForm (n == 1) (one_word_constant r w base ∷ []) (instruction.Lui r (high_part w) ∷ instruction.Immediate Addi r r (low_part w) ∷ [])
    (λ e. (one, tt)) (λ e. ((reg, high_is w), ((reg, reg, low_is w), tt)))
  where
    near : is_near_base w base ≡ true → is_small (subtracted w base) ≡ true
    near e = (and_parts (not (low_part w == 0)) (is_small (subtracted w base)) (and_parts (not (is_small w)) (not (low_part w == 0) && is_small (subtracted w base)) e).1).1

    one : IsInForm (one_word_constant r w base)
    one = choice IsInForm (is_small w) (instruction.Immediate Addi r 0 w) (cond (is_near_base w base) (instruction.Immediate Addi r 3 (subtracted w base)) (instruction.Lui r (high_part w)))
        (λ e. (reg, omega arith, small_is w low e))
        (λ e. choice IsInForm (is_near_base w base) (instruction.Immediate Addi r 3 (subtracted w base)) (instruction.Lui r (high_part w))
        (λ e. (reg, omega arith, small_is (subtracted w base) (omega arith) (near e))) (λ e. (reg, high_is w)))

pub constant_register_is : (w base scratch : ℕ) (held : List Held) → scratch < 32 → AreRegisters held → constant_register w base scratch held < 32
constant_register_is w base scratch held low all =
    choice (λ n. n < 32) (w == 0) 0 _ (λ e. omega arith) (λ e. choice (λ n. n < 32) (w == base) 3 _ (λ e. omega arith) (λ e. perhaps (λ n. n < 32) (λ r. r) (holder_of w held) scratch (λ r at. holder_is w held r all at) low))

pub fetched_constant_fits : (w base scratch : ℕ) (held : List Held) → scratch < 32 → w < 4294967296 → AreInForm (fetched_constant w base scratch held)
fetched_constant_fits w base scratch held low fits =
    choice AreInForm (w == 0) [] _ (λ e. tt) (λ e. choice AreInForm (w == base) [] _ (λ e. tt) (λ e. perhaps AreInForm (λ r. []) (holder_of w held) (constant_code scratch w base) (λ r at. tt) (constant_fits (words_of_constant w base) scratch w base low fits)))

pub set_constant_fits : (n r w base : ℕ) (held : List Held) → r < 32 → w < 4294967296 → AreRegisters held → AreInForm (set_constant_by n r w base held)
set_constant_fits n r w base held reg low all =
    choice AreInForm (is_small w) (constant_by n r w base) _ (λ e. constant_fits n r w base reg low)
    (λ e. perhaps AreInForm (λ q. instruction.Immediate Addi r q 0 ∷ []) (holder_of w held) (constant_by n r w base) (λ q at. ((reg, holder_is w held q all at, inl (omega arith)), tt)) (constant_fits n r w base reg low))

-- ---- Homes

-- A home that is a register is one.
abbrev pub IsFitHome : Home → Type 0
IsFitHome (Register r) = r < 32
IsFitHome (Slot k) = Unit {0}

-- What is read is a home that is one, or a word.
abbrev pub IsFitSource : Source → Type 0
IsFitSource (OfHome home) = IsFitHome home
IsFitSource (Word w) = w < 4294967296

pub load_slot_fits : (r offset : ℕ) → r < 32 → AreInForm (load_slot_code r offset)
load_slot_fits r offset reg =
    choice AreInForm (nat_lt offset 2048) _ _ (λ e. ((reg, omega arith, offset_is offset e), tt)) (λ e. ((omega arith, high_is offset), ((omega arith, omega arith, omega arith), ((reg, omega arith, low_is offset), tt))))

pub store_slot_fits : (r offset : ℕ) → r < 32 → AreInForm (store_slot_code r offset)
store_slot_fits r offset reg =
    choice AreInForm (nat_lt offset 2048) _ _ (λ e. ((reg, omega arith, offset_is offset e), tt)) (λ e. ((omega arith, high_is offset), ((omega arith, omega arith, omega arith), ((reg, omega arith, low_is offset), tt))))

pub address_fits : (r scratch offset : ℕ) → r < 32 → scratch < 32 → AreInForm (address_code r scratch offset)
address_fits r scratch offset reg low =
    choice AreInForm (nat_lt offset 2048) _ _ (λ e. ((reg, omega arith, offset_is offset e), tt))
    (λ e. choice AreInForm (low_part offset == 0) _ _ (λ e. ((low, high_is offset), ((reg, low, omega arith), tt))) (λ e. ((low, high_is offset), ((low, low, low_is offset), ((reg, low, omega arith), tt)))))

pub home_register_is : (home : Home) (scratch : ℕ) → IsFitHome home → scratch < 32 → home_register home scratch < 32
home_register_is (Register r) scratch fit low = fit
home_register_is (Slot k) scratch fit low = low

pub fetched_home_fits : (g : StorageForm) (home : Home) (scratch : ℕ) → scratch < 32 → AreInForm (fetched_home g home scratch)
fetched_home_fits g (Register r) scratch low = tt
fetched_home_fits g (Slot k) scratch low = load_slot_fits scratch (slot_at g k) low

pub source_register_is : (g : StorageForm) (held : List Held) (source : Source) (scratch : ℕ) → IsFitSource source → AreRegisters held → scratch < 32 → source_register g held source scratch < 32
source_register_is g held (OfHome home) scratch fit all low = home_register_is home scratch fit low
source_register_is g held (Word w) scratch fit all low = constant_register_is w g.base scratch held low all

pub fetched_fits : (g : StorageForm) (held : List Held) (source : Source) (scratch : ℕ) → IsFitSource source → scratch < 32 → AreInForm (fetched_source g held source scratch)
fetched_fits g held (OfHome home) scratch fit low = fetched_home_fits g home scratch low
fetched_fits g held (Word w) scratch fit low = fetched_constant_fits w g.base scratch held low fit

pub bringing_fits : (g : StorageForm) (held : List Held) (r : ℕ) (source : Source) → r < 32 → IsFitSource source → AreRegisters held → AreInForm (bringing g held r source)
bringing_fits g held r (Word w) reg fit all = set_constant_fits (words_of_constant w g.base) r w g.base held reg fit all
bringing_fits g held r (OfHome (Slot k)) reg fit all = load_slot_fits r (slot_at g k) reg
bringing_fits g held r (OfHome (Register q)) reg fit all = choice AreInForm (q == r) [] _ (λ e. tt) (λ e. ((reg, fit, inl (omega arith)), tt))

pub result_is : (home : Home) → IsFitHome home → result_register home < 32
result_is (Register r) fit = fit
result_is (Slot k) fit = omega arith

pub finishing_fits : (g : StorageForm) (home : Home) (r : ℕ) → r < 32 → AreInForm (finishing g home r)
finishing_fits g (Register q) r reg = tt
finishing_fits g (Slot k) r reg = store_slot_fits r (slot_at g k) reg

pub written_fits : (g : StorageForm) (home : Home) (r : ℕ) → IsFitHome home → r < 32 → AreInForm (home_written g home r)
written_fits g (Register q) r fit reg = ((fit, reg, inl (omega arith)), tt)
written_fits g (Slot k) r fit reg = store_slot_fits r (slot_at g k) reg

-- ---- Where values are found

-- The homes of names are fit, and the addresses of the bytes that initialise arrays are words.
pub record IsFitStorage (g : StorageForm) : Type 0 where
  pub homes : (x : ℕ) → IsFitHome (home_at g x)
  pub arrays : (n : ℕ) → array_bytes_at g n < 4294967296

pub source_fits : (g : StorageForm) → IsFitStorage g → (a : Operand) → IsWord a → IsFitSource (source_of g a)
source_fits g fit (Name x) is = fit.homes x
source_fits g fit (Constant w) is = is
source_fits g fit (StaticAddress object offset) is = omega arith
