-- The stops of code, and the pieces that they are of.
use Rattle.std.specs.Prelude.{◌≡◌, ℕ, ◌+◌, true, Some, List, slice_get, slice_index}
use Rattle.rv_emit_tables.specs.declared.emitted.PlacedStop.{PlacedStop}
use Rattle.rv_emit_words.specs.declared.piece.PlacedPiece.{PlacedPiece}
use Rattle.rv_emit_steps.specs.Programs.{address_of}
use Rattle.rv_emit_sequence.specs.Sequences.{SequenceForm}
use Rattle.rv_emit_layout.specs.Layouts.{LayoutForm, words_before}
use Rattle.rv_emit_layout.specs.Laid.{LaidForm}

-- A stop is that of a piece of a function: at the address of its first word.
pub record IsStopOf (s : SequenceForm) (l : LayoutForm) (first : ℕ) (stop : PlacedStop) : Type 0 where
  pub index : ℕ
  pub piece : PlacedPiece
  pub there : slice_get s.pieces index ≡ Some piece
  pub flag : piece.is_stop ≡ true
  pub place : stop.place ≡ piece.owner
  pub address : stop.address ≡ address_of (first + words_before l.reaches s.pieces index)

-- It is that of a piece of one of the functions.
pub record IsStopOfOne (all : List LaidForm) (firsts : List ℕ) (stop : PlacedStop) : Type 0 where
  pub function : ℕ
  pub laid : LaidForm
  pub there : slice_get all function ≡ Some laid
  pub is : IsStopOf laid.sequence laid.layout (slice_index firsts function) stop
