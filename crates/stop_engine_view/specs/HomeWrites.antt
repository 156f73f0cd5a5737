-- Which words of an image's code write the home of a variable, and which places disturb it.
use Rattle.std.specs.Prelude.{ℕ, zero, suc, ◌+◌, ◌-◌, ◌*◌, ◌/◌, ◌%◌, ◌==◌, ◌&&◌, ◌||◌, nat_le, Bool, true, false, if◌then◌else◌, Option, Some, None, option_and_then, List, map, slice_get, slice_index}
use Rattle.std.specs.Option.{option_map_or}
use Rattle.image_form.specs.Form.{Form}
use Rattle.image_form.specs.declared.tables.Function.{Function}
use Rattle.image_form.specs.declared.variables.Storage.{Storage}
use Rattle.image_form.specs.declared.variables.Storage.TheVariants.{Static, Frame, Register, Slot}
use Rattle.image_form.specs.declared.variables.Variable.{Variable}
use Rattle.places.specs.Flow.{assigns}
use Rattle.rv_code.specs.declared.instruction.Instruction.{Instruction}
use Rattle.rv_code.specs.declared.instruction.Instruction.TheVariants.{Lui, Auipc, Jal, Jalr, Branch, Load, Store, Immediate, Register as OnRegisters, Fence, Ecall, Ebreak}
use Rattle.rv_code.specs.declared.instruction.RegisterOperation.{RegisterOperation}
use Rattle.rv_code.specs.declared.instruction.RegisterOperation.TheVariants.{Add}
use Rattle.rv_code.specs.declared.instruction.StoreOperation.{StoreOperation}
use Rattle.rv_code.specs.declared.instruction.StoreOperation.TheVariants.{Sw}
use Rattle.rv_code.specs.Decoding.{decoded}
use Rattle.rv_machine.specs.State.{code_start}
use Rattle.stop_engine_view.specs.Evidence.{assignment_of}

-- the instruction that the word of a number spells, if it spells one
abbrev pub spelled_at : List ℕ → (index : ℕ) → Option Instruction
spelled_at code index = option_and_then decoded (slice_get code index)

-- whether an instruction has its result in this register
abbrev pub has_result_in : (r : ℕ) → Instruction → Bool
has_result_in r (Lui d n) = d == r
has_result_in r (Auipc d n) = d == r
has_result_in r (Jal d n) = d == r
has_result_in r (Jalr d base n) = d == r
has_result_in r (Branch op a b n) = false
has_result_in r (Load op d base n) = d == r
has_result_in r (Store op v base n) = false
has_result_in r (Immediate op d a n) = d == r
has_result_in r (OnRegisters op d a b) = d == r
has_result_in r (Fence a b n) = false
has_result_in r Ecall = false
has_result_in r Ebreak = false

-- whether a store is one of a whole word
abbrev pub is_word_store : StoreOperation → Bool
is_word_store Sw = true
is_word_store _ = false

-- whether an operation on two registers is their sum
abbrev pub is_sum : RegisterOperation → Bool
is_sum Add = true
is_sum _ = false

-- the offset at which an instruction stores a word behind the address in this register, if it does
abbrev pub stored_behind : (base : ℕ) → Instruction → Option ℕ
stored_behind base (Store op v b n) = if is_word_store op && b == base then Some n else None
stored_behind base _ = None

-- the upper part that an instruction sets t0 (register 5) to, if it does
abbrev pub upper_of : Instruction → Option ℕ
upper_of (Lui d n) = if d == 5 then Some n else None
upper_of _ = None

-- whether an instruction adds sp (register 2) to t0
abbrev pub adds_sp : Instruction → Bool
adds_sp (OnRegisters op d a b) = is_sum op && d == 5 && a == 5 && b == 2
adds_sp _ = false

-- whether the word of a number stores a word in the slot at an offset, from sp
abbrev pub stores_near : List ℕ → (offset index : ℕ) → Bool
stores_near code offset index =
    option_map_or (λ n. n == offset) (option_and_then (stored_behind 2) (spelled_at code index)) false

-- how far behind sp the three words that end with that of a number store a word, if they do: t0 is set to the upper
-- part of the distance, sp is added, and the word is stored behind that
abbrev pub far_offset : List ℕ → (index : ℕ) → Option ℕ
far_offset code index =
    if nat_le 2 index && option_map_or adds_sp (spelled_at code (index - 1)) false
    then option_and_then
    (λ upper. option_and_then (λ n. Some ((upper * 4096 + n) % 4294967296))
    (option_and_then (stored_behind 5) (spelled_at code index)))
    (option_and_then upper_of (spelled_at code (index - 2)))
    else None

-- whether the word of a number stores a word in the slot at an offset, as the last of three words
abbrev pub stores_far : List ℕ → (offset index : ℕ) → Bool
stores_far code offset index = option_map_or (λ n. n == offset) (far_offset code index) false

-- WHETHER THE WORD OF A NUMBER WRITES A HOME: it has its result in the register, or it stores a word in the slot.
abbrev pub writes_home : List ℕ → Storage → (index : ℕ) → Bool
writes_home code (Register r) index = option_map_or (has_result_in r) (spelled_at code index) false
writes_home code (Slot offset) index = stores_near code offset index || stores_far code offset index
writes_home code (Static address) index = false
writes_home code (Frame offset) index = false

-- whether one of so many numbers, from one on, passes a test
abbrev pub any_from : (ℕ → Bool) → (first count : ℕ) → Bool
any_from test first zero = false
any_from test first (suc count) = test first || any_from test (first + 1) count

-- whether a word of a function that belongs to a place writes a home
abbrev pub is_written_in : Form → Storage → (place : ℕ) → Function → Bool
is_written_in m storage place f =
    any_from (λ index. slice_index m.owners index == place && writes_home m.code storage index)
    ((f.first - code_start) / 4) ((f.end - f.first) / 4)

-- whether a word that belongs to a place writes the home of a variable of a function
abbrev pub owns_writer : Form → (place : ℕ) → Variable → Bool
owns_writer m place v =
    option_map_or (is_written_in m v.storage place) (option_and_then (slice_get m.functions) v.function) false

-- WHETHER A PLACE DISTURBS A VARIABLE: it assigns it, or a word that belongs to the place writes its home.
abbrev pub disturbs : Form → (variable place : ℕ) → Bool
disturbs m variable place =
    assigns (map assignment_of m.assigned) place variable
    || option_map_or (owns_writer m place) (slice_get m.variables variable) false
