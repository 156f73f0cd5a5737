-- The longest layout of a function: each piece has the most words that it has in its room, each place at which a run
-- stops has a word `addi x0, x0, 0`, and no jump is dropped.
use Rattle.std.specs.Prelude.{ℕ, suc, ◌+◌, ◌-◌, ◌*◌, ◌==◌, ◌&&◌, ◌||◌, not, nat_le, Bool, true, false, List, length, map, take, slice_get, slice_index, count_by}
use Rattle.std.specs.Option.{option_map_or}
use Rattle.std.specs.List.{range_with_len}
use Rattle.rv_code.specs.declared.instruction.Instruction.TheVariants.{Jalr}
use Rattle.rv_emit_words.specs.declared.piece.Piece.{Piece}
use Rattle.rv_emit_words.specs.declared.piece.Piece.TheVariants.{Word, Jump, Branch, Call}
use Rattle.rv_emit_words.specs.declared.piece.PlacedPiece.{PlacedPiece}
use Rattle.graph_core.specs.Validity.{total}
use Rattle.memory_map.specs.declared.map.Room.{Room}
use Rattle.rv_emit_sequence.specs.Sequences.{SequenceForm, counted}
use Rattle.rv_emit_layout.specs.Reaches.{farthest, jump_width, width}
use Rattle.rv_emit_layout.specs.Spelling.{spelled}

-- ---- What a real layout may do without

-- Whether a piece is the word `addi x0, x0, 0`, which does nothing.
abbrev pub is_nothing : Piece → Bool
is_nothing (Word i) = spelled i == 19
is_nothing (Jump to) = false
is_nothing (Branch op l r to) = false
is_nothing (Call f) = false

-- Whether that word is counted before a piece: a run stops at the piece, and it is not that word itself.
abbrev pub has_word_before : PlacedPiece → Bool
has_word_before p = p.is_stop && not (is_nothing p.piece)

-- Whether it is counted before the piece of an index.
abbrev pub has_word_at : List PlacedPiece → (index : ℕ) → Bool
has_word_at pieces k = option_map_or has_word_before (slice_get pieces k) false

-- Whether control never goes on from a piece to the one behind it: it is a jump or a return.
abbrev pub leaves : Piece → Bool
leaves (Word (Jalr r a n)) = true
leaves (Word i) = false
leaves (Jump to) = true
leaves (Branch op l r to) = false
leaves (Call f) = false

-- Whether the jump at the end of a block was dropped: the block has no piece, or its last one is neither a jump nor a
-- return.
abbrev pub is_dropped : SequenceForm → (block : ℕ) → Bool
is_dropped s b =
    slice_index s.labels b == slice_index s.ends b
    || not (option_map_or (λ (p : PlacedPiece). leaves p.piece) (slice_get s.pieces (slice_index s.ends b - 1)) false)

-- How many blocks whose jump was dropped end at an index, and at an index or before it.
abbrev pub dropped_at : SequenceForm → (index : ℕ) → ℕ
dropped_at s k = count_by (λ b. is_dropped s b && slice_index s.ends b == k) (range_with_len 0 (length s.ends))

abbrev pub dropped_until : SequenceForm → (index : ℕ) → ℕ
dropped_until s k = count_by (λ b. is_dropped s b && nat_le (slice_index s.ends b) k) (range_with_len 0 (length s.ends))

-- ---- Where pieces stand in it

-- How many words pieces have in it.
abbrev pub longest_words : Room → List PlacedPiece → ℕ
longest_words room pieces = total (λ (p : PlacedPiece). width (farthest room) p.piece) pieces

-- How many words stand before the piece of an index, or before the end: those that the pieces before it have, one for
-- each stop up to the piece itself, and a jump's for each jump that was dropped.
abbrev pub long_before : Room → SequenceForm → (index : ℕ) → ℕ
long_before room s k =
    longest_words room (take k s.pieces)
    + (count_by has_word_before (take (suc k) s.pieces) + jump_width (farthest room) * dropped_until s k)

-- So many for each piece, and behind that for the end. As far as 32 bits can count.
abbrev pub longest : Room → SequenceForm → List ℕ
longest room s = map (λ k. counted (long_before room s k)) (range_with_len 0 (length s.pieces + 1))
