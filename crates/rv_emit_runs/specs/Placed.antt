-- Pieces with what their words stand for, as they stand in the code of the machine.
use Rattle.std.specs.Prelude.{◌≡◌, ℕ, ◌≤◌, ◌<◌, Bool, false, None, List, [], ◌∷◌}
use Rattle.rv_emit_words.specs.declared.piece.Piece.{Piece}
use Rattle.rv_emit_words.specs.declared.piece.PlacedPiece.{PlacedPiece}
use Rattle.rv_emit_steps.specs.Programs.{Program}
use Rattle.rv_emit_runs.specs.Pieces.{Targets, PieceAt}

-- What is appended: pieces of a place, at the first of which there is a stop or none.
abbrev pub placed_pieces : (owner : ℕ) → (stops : Bool) → List Piece → List PlacedPiece
placed_pieces owner b [] = []
placed_pieces owner b (x ∷ more) =
    (record { piece = x; owner = owner; is_stop = b; writes = None }) ∷ placed_pieces owner false more

-- The words from an index on, up to another, belong to a place.
abbrev pub AreOf : (owner : ℕ → ℕ) → (from to place : ℕ) → Type 0
AreOf owner i j place = (k : ℕ) → i ≤ k → k < j → owner k ≡ place

-- Pieces stand one behind the other from an index on, up to another, each with a stop at its first word if it is one,
-- and with words that belong to its place.
abbrev pub PlacedAt : Program → Targets → (index : ℕ) → List PlacedPiece → (behind : ℕ) → Type 0
PlacedAt p t i [] j = j ≡ i
PlacedAt p t i (x ∷ more) j =
    (k : ℕ) × PieceAt p t i x.is_stop x.piece k × AreOf t.owner i k x.owner × PlacedAt p t k more j
