-- The words that bring a constant into a register.
use Rattle.std.specs.Prelude.{ℕ, ◌+◌, ◌/◌, ◌%◌, ◌==◌, ◌&&◌, ◌||◌, not, nat_lt, nat_le, Bool, if◌then◌else◌, List, [], ◌∷◌}
use Rattle.std.specs.Option.{option_map_or}
use Rattle.word_base.specs.Arithmetic.{subtracted}
use Rattle.rv_code.specs.declared.instruction.Instruction.{Instruction}
use Rattle.rv_code.specs.declared.instruction.Instruction.TheVariants.{Lui, Immediate}
use Rattle.rv_code.specs.declared.instruction.ImmediateOperation.TheVariants.{Addi}
use Rattle.rv_emit_words.specs.declared.piece.Held.{Held}
use Rattle.rv_emit_words.specs.Growing.{CodeState, with_code, holder_of, with_held}

-- The word is that of a number from -2048 to 2047, which an immediate says.
abbrev pub is_small : (word : ℕ) → Bool
is_small w = nat_lt w 2048 || nat_le 4294965248 w

-- A word in two parts: its lowest 12 bits, taken with their sign, and the upper 20 bits to which that part is added.
abbrev pub low_part : (word : ℕ) → ℕ
low_part w = if nat_lt (w % 4096) 2048 then w % 4096 else w % 4096 + 4294963200

-- the upper 20 bits of a word, one more where its lower 12 are taken as negative
abbrev pub high_part : (word : ℕ) → ℕ
high_part w = (w + 2048) / 4096 % 1048576

-- The word takes two words else, and differs by a small number from the one that gp holds.
abbrev pub is_near_base : (word base : ℕ) → Bool
is_near_base w base = not (is_small w) && (not (low_part w == 0) && is_small (subtracted w base))

-- How many words bring a constant into a register, where gp holds the base.
abbrev pub words_of_constant : (word base : ℕ) → ℕ
words_of_constant w base = if is_small w || (low_part w == 0 || is_near_base w base) then 1 else 2

-- The one word, where one is enough: ADDI to register 0, ADDI to gp, or LUI.
abbrev pub one_word_constant : (register word base : ℕ) → Instruction
one_word_constant r w base =
    if is_small w then Immediate Addi r 0 w
    else if is_near_base w base then Immediate Addi r 3 (subtracted w base)
    else Lui r (high_part w)

-- One word, or LUI of the upper part and ADDI of the lower one.
abbrev pub constant_by : (words register word base : ℕ) → List Instruction
constant_by n r w base =
    if n == 1 then one_word_constant r w base ∷ [] else Lui r (high_part w) ∷ Immediate Addi r r (low_part w) ∷ []

-- The words that bring a constant into a register, whatever scratch registers hold.
abbrev pub constant_code : (register word base : ℕ) → List Instruction
constant_code r w base = constant_by (words_of_constant w base) r w base

-- ---- Where scratch registers hold constants

-- A register that has a constant: register 0 and gp have theirs, another one may hold it, and else it is brought into a
-- scratch register.
abbrev pub constant_register : (word base scratch : ℕ) → List Held → ℕ
constant_register w base scratch held =
    if w == 0 then 0 else if w == base then 3 else option_map_or (λ r. r) (holder_of w held) scratch

-- the words that bring a constant into a register, none where one holds it already
abbrev pub fetched_constant : (word base scratch : ℕ) → List Held → List Instruction
fetched_constant w base scratch held =
    if w == 0 then [] else if w == base then []
    else option_map_or (λ r. []) (holder_of w held) (constant_code scratch w base)

-- A constant is brought into a register: moved from one that holds it, if it is not small, or made by so many words.
abbrev pub set_constant_by : (words register word base : ℕ) → List Held → List Instruction
set_constant_by n r w base held =
    if is_small w then constant_by n r w base
    else option_map_or (λ q. Immediate Addi r q 0 ∷ []) (holder_of w held) (constant_by n r w base)

-- a constant is brought into a register by as few words as it takes
abbrev pub set_constant_code : (register word base : ℕ) → List Held → List Instruction
set_constant_code r w base held = set_constant_by (words_of_constant w base) r w base held

-- A scratch register is to hold a constant from now on: nothing is done where it does, and else it is moved or made.
abbrev pub holding : Held → (base words : ℕ) → CodeState → CodeState
holding h base n g =
    option_map_or
    (λ r. if r == h.register then g else with_held h (with_code (Immediate Addi h.register r 0 ∷ []) g))
    (holder_of h.word g.held)
    (with_held h (with_code (constant_by n h.register h.word base) g))
