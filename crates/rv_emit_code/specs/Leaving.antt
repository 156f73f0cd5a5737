-- The code with which a function ends. Registers 0, 1, 2, 4, 5 and 10 are the one that is 0, ra, sp, tp, t0 and a0.
use Rattle.std.specs.Prelude.{ℕ, ◌+◌, ◌-◌, ◌%◌, ◌==◌, ◌||◌, not, nat_le, Bool, if◌then◌else◌, Option, Some, None, List, [], ◌∷◌, ◌++◌, length, option_map}
use Rattle.rv_code.specs.declared.instruction.Instruction.{Instruction}
use Rattle.rv_code.specs.declared.instruction.Instruction.TheVariants.{Load, Immediate, Register, Jalr}
use Rattle.rv_code.specs.declared.instruction.LoadOperation.TheVariants.{Lw}
use Rattle.rv_code.specs.declared.instruction.ImmediateOperation.TheVariants.{Addi}
use Rattle.rv_code.specs.declared.instruction.RegisterOperation.TheVariants.{Add}
use Rattle.graph_core.specs.Graphs.{End, Jump, Branch, Return}
use Rattle.rv_emit_words.specs.declared.piece.Held.{Held}
use Rattle.rv_emit_words.specs.declared.piece.Piece.{Piece}
use Rattle.rv_emit_storage.specs.declared.storage.Source.{Source}
use Rattle.rv_emit_storage.specs.declared.storage.Source.TheVariants.{Home as OfHome, Word}
use Rattle.rv_emit_storage.specs.Storages.{StorageForm, source_of}
use Rattle.rv_emit_words.specs.Fetching.{most_words_to_bring}
use Rattle.rv_emit_words.specs.Growing.{CodeState, with_code}
use Rattle.rv_emit_words.specs.Constants.{is_small, words_of_constant, constant_code}
use Rattle.rv_emit_words.specs.Operands.{bringing}
use Rattle.rv_emit_code.specs.Ends.{words, with_pieces, begins_behind, going, end_pieces, end_held}

-- A word is added to sp: by one instruction, or by way of t0.
abbrev pub moving_code : (by : ℕ) → List Instruction
moving_code n = if is_small n then Immediate Addi 2 2 n ∷ [] else constant_code 5 n 0 ++ Register Add 2 2 5 ∷ []

-- Registers are loaded from the frame, one behind the other from an offset on.
abbrev pub restoring_code : List ℕ → (offset : ℕ) → List Instruction
restoring_code [] offset = []
restoring_code (r ∷ more) offset = Load Lw r 2 offset ∷ restoring_code more ((offset + 4) % 4294967296)

-- One more activation may begin, the registers that the frame keeps and the return address are loaded, and the frame is
-- left.
abbrev pub leaving_front : (saved : List ℕ) → (size : ℕ) → List Instruction
leaving_front saved size = Immediate Addi 4 4 1 ∷ restoring_code saved 4 ++ Load Lw 1 2 0 ∷ moving_code size

-- With the return, that is how a function ends.
abbrev pub leaving_code : (saved : List ℕ) → (size : ℕ) → List Instruction
leaving_code saved size = leaving_front saved size ++ Jalr 0 1 0 ∷ []

-- How many words leave the frame.
abbrev pub words_of_moving : (by : ℕ) → ℕ
words_of_moving n = if is_small n then 1 else 3

-- A function is left by its end, which is repeated where that takes no more than so many words, and which has a label
-- else.
abbrev pub leaving : (saved : List ℕ) → (size : ℕ) → (begins : Bool) → (end next room : ℕ) → List Piece
leaving saved size b end next room =
    if next == end || (not (nat_le (length saved) 9) || not (nat_le (length saved + 3 + words_of_moving size) room))
    then going b end next
    else words (leaving_code saved size)

-- How many words may leave a function behind those that bring its result.
abbrev pub room_behind : (base : ℕ) → Source → ℕ
room_behind base (Word w) = 9 - words_of_constant w base
room_behind base (OfHome home) = 9 - most_words_to_bring (OfHome home)

-- The code of a return: its result, if it has one, is brought into a0.
abbrev pub return_pieces : StorageForm → List Held → (saved : List ℕ) → (size : ℕ) → (begins : Bool) → (end next : ℕ)
    → Option Source → List Piece
return_pieces g held saved size b end next None = leaving saved size b end next 9
return_pieces g held saved size b end next (Some value) =
    words (bringing g held 10 value)
    ++ leaving saved size (begins_behind b (bringing g held 10 value)) end next (room_behind g.base value)

-- ---- How code grows by it

-- A word is added to sp by so many words.
abbrev pub moving_by : (words by : ℕ) → List Instruction
moving_by k n = if k == 1 then Immediate Addi 2 2 n ∷ [] else constant_code 5 n 0 ++ Register Add 2 2 5 ∷ []

-- What follows belongs to no place.
abbrev pub of_no_place : CodeState → CodeState
of_no_place s = record s { owner = 0 }

-- A function is left, by so many words for its frame. All but the first of its words belong to no place.
abbrev pub with_leaving : (moves : ℕ) → (saved : List ℕ) → (size : ℕ) → CodeState → CodeState
with_leaving k saved size s =
    with_code (restoring_code saved 4 ++ Load Lw 1 2 0 ∷ moving_by k size ++ Jalr 0 1 0 ∷ [])
    (of_no_place (with_code (Immediate Addi 4 4 1 ∷ []) s))

-- By its end, or by those words.
abbrev pub with_leave : (saved : List ℕ) → (size end next room : ℕ) → CodeState → CodeState
with_leave saved size end next room s =
    if next == end || (not (nat_le (length saved) 9) || not (nat_le (length saved + 3 + words_of_moving size) room))
    then with_pieces (going s.begins end next) s
    else with_leaving (words_of_moving size) saved size s

-- A return.
abbrev pub with_return : StorageForm → (saved : List ℕ) → (size end next : ℕ) → Option Source → CodeState → CodeState
with_return g saved size end next None s = with_leave saved size end next 9 s
with_return g saved size end next (Some value) s =
    with_leave saved size end next (room_behind g.base value) (with_code (bringing g s.held 10 value) s)

-- The end of a block.
abbrev pub with_end : StorageForm → (saved : List ℕ) → (size end next : ℕ) → (loads : List Held) → End → CodeState
    → CodeState
with_end g saved size end next loads (Jump to) s =
    record (with_pieces (end_pieces g s.held s.begins loads next (Jump to)) s)
    { held = end_held g s.held loads (Jump to) }
with_end g saved size end next loads (Branch k x y if_true if_false) s =
    record (with_pieces (end_pieces g s.held s.begins loads next (Branch k x y if_true if_false)) s)
    { held = end_held g s.held loads (Branch k x y if_true if_false) }
with_end g saved size end next loads (Return v) s = with_return g saved size end next (option_map (source_of g) v) s
