-- What is told of the words of a function: where its places begin, and which words write homes.
use Rattle.std.specs.Prelude.{ℕ, zero, suc, ◌+◌, ◌-◌, ◌*◌, ◌%◌, Bool, if◌then◌else◌, List, [], ◌∷◌, ◌++◌, slice_get, slice_index, slice_set}
use Rattle.std.specs.Option.{option_map_or}
use Rattle.memory_map.specs.Maps.{code_start}
use Rattle.rv_emit_words.specs.declared.piece.PlacedPiece.{PlacedPiece}
use Rattle.rv_emit_tables.specs.declared.emitted.PlacedStop.{PlacedStop}
use Rattle.rv_emit_sequence.specs.Sequences.{SequenceForm, counted}
use Rattle.rv_emit_layout.specs.Layouts.{LayoutForm}

-- The address of a word of code, by its index.
abbrev pub word_address : ℕ → ℕ
word_address n = (n * 4 % 4294967296 + code_start) % 4294967296

-- The address of a piece, by its index, in a function before which so many words stand.
abbrev pub piece_address : LayoutForm → (first index : ℕ) → ℕ
piece_address l first i = word_address ((first + slice_index l.offsets i) % 4294967296)

-- ---- Stops

-- The stop of a piece that stands at an address, if it is one.
abbrev pub stop_at : (address : ℕ) → PlacedPiece → List PlacedStop
stop_at a p = if p.is_stop then (record { place = p.owner; address = a }) ∷ [] else []

-- The stops of so many pieces, from one of this index on.
abbrev pub stops_of_pieces : SequenceForm → LayoutForm → (first index pieces : ℕ) → List PlacedStop
stops_of_pieces s l first i zero = []
stops_of_pieces s l first i (suc n) =
    option_map_or (stop_at (piece_address l first i)) (slice_get s.pieces i) [] ++ stops_of_pieces s l first (i + 1) n

-- The stops of a block: of its pieces, from its label to its end.
abbrev pub stops_of_block : SequenceForm → LayoutForm → (first block : ℕ) → List PlacedStop
stops_of_block s l first b =
    stops_of_pieces s l first (slice_index s.labels b) (slice_index s.ends b - slice_index s.labels b)

-- The stops of so many blocks, from one of this number on.
abbrev pub stops_of_blocks : SequenceForm → LayoutForm → (first block blocks : ℕ) → List PlacedStop
stops_of_blocks s l first b zero = []
stops_of_blocks s l first b (suc n) = stops_of_block s l first b ++ stops_of_blocks s l first (b + 1) n

-- ---- Words that write homes

-- A table once a piece that stands at an address has put that at the number for which it writes, if it writes for one.
abbrev pub with_writer : (address : ℕ) → PlacedPiece → List ℕ → List ℕ
with_writer a p table = option_map_or (λ n. slice_set table n a) p.writes table

-- A table once pieces from one of this index on have done that, each that is asked for.
abbrev pub with_writers : LayoutForm → (first : ℕ) → (asked : ℕ → Bool) → (index : ℕ) → List PlacedPiece → List ℕ
    → List ℕ
with_writers l first asked i [] table = table
with_writers l first asked i (p ∷ more) table =
    with_writers l first asked (counted (i + 1)) more
    (if asked i then with_writer (piece_address l first i) p table else table)
