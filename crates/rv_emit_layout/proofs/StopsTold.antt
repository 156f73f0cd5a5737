-- Stops of pieces and of blocks, the first of which are told.
use Rattle.std.proofs.Common.{◌≡◌, ℕ, zero, suc, ◌+◌, ◌-◌, ◌<◌, ◌≤◌, None, List, [], ◌∷◌, ◌++◌, length, slice_get, refl, sym, ap, ◌∙◌, arith, append_assoc, append-nil}
use Rattle.rv_emit_words.specs.declared.piece.PlacedPiece.{PlacedPiece}
use Rattle.std.specs.Option.{option_map_or}
use Rattle.rv_emit_tables.specs.declared.emitted.PlacedStop.{PlacedStop}
use Rattle.rv_emit_sequence.specs.Sequences.{SequenceForm}
use Rattle.rv_emit_layout.specs.Layouts.{LayoutForm}
use Rattle.rv_emit_layout.specs.Tracing.{piece_address, stop_at, stops_of_block, stops_of_blocks, stops_of_pieces}

none_there : (pieces : List PlacedPiece) (i : ℕ) → length pieces ≤ i → slice_get pieces i ≡ None
none_there [] i past = refl
none_there (x ∷ more) zero past = absurd (omega (arith, past))
none_there (x ∷ more) (suc i) past = none_there more i (omega (arith, past))

-- Behind the last piece nothing is told.
pub none_told : (s : SequenceForm) (l : LayoutForm) (first i : ℕ) (before : List PlacedStop) (read : List PlacedPiece) → read ≡ s.pieces → length read ≤ i
    → before ≡ before ++ option_map_or (stop_at (piece_address l first i)) (slice_get s.pieces i) []
none_told s l first i before read is past =
    sym (append-nil before) ∙ ap (λ o. before ++ option_map_or (stop_at (piece_address l first i)) o []) (sym (ap (λ q. slice_get q i) (sym is) ∙ none_there read i past))

-- The stop of a piece is told, and then those behind it.
pub piece_told : (s : SequenceForm) (l : LayoutForm) (first i to : ℕ) (before after : List PlacedStop) → i < to → after ≡ before ++ option_map_or (stop_at (piece_address l first i)) (slice_get s.pieces i) []
    → after ++ stops_of_pieces s l first (i + 1) (to - (i + 1)) ≡ before ++ stops_of_pieces s l first i (to - i)
piece_told s l first i to before after low e =
    let left : to - i ≡ suc (to - (i + 1)) = omega (arith, low) in
    ap (λ x. x ++ stops_of_pieces s l first (i + 1) (to - (i + 1))) e ∙ append_assoc before (option_map_or (stop_at (piece_address l first i)) (slice_get s.pieces i) []) (stops_of_pieces s l first (i + 1) (to - (i + 1)))
    ∙ ap (λ n. before ++ stops_of_pieces s l first i n) (sym left)

-- Those of a block are told, and then those of the blocks behind it.
pub block_told : (s : SequenceForm) (l : LayoutForm) (first b blocks : ℕ) (before after : List PlacedStop) → b < blocks → after ≡ before ++ stops_of_block s l first b
    → after ++ stops_of_blocks s l first (b + 1) (blocks - (b + 1)) ≡ before ++ stops_of_blocks s l first b (blocks - b)
block_told s l first b blocks before after low e =
    let left : blocks - b ≡ suc (blocks - (b + 1)) = omega (arith, low) in
    ap (λ x. x ++ stops_of_blocks s l first (b + 1) (blocks - (b + 1))) e ∙ append_assoc before (stops_of_block s l first b) (stops_of_blocks s l first (b + 1) (blocks - (b + 1)))
    ∙ ap (λ n. before ++ stops_of_blocks s l first b n) (sym left)
