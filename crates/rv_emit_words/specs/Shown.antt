-- The stops of code: the places that begin at its words, in order.
use Rattle.std.specs.Prelude.{ℕ, Bool, if◌then◌else◌, List, [], ◌∷◌, ◌++◌}
use Rattle.rv_emit_words.specs.declared.piece.PlacedPiece.{PlacedPiece}
use Rattle.rv_emit_words.specs.declared.code.Code.{Code}

-- a place, if it is a stop
abbrev pub stop_if : Bool → (place : ℕ) → List ℕ
stop_if is_stop place = if is_stop then place ∷ [] else []

-- the places that begin at pieces of code
abbrev pub stops_of : List PlacedPiece → List ℕ
stops_of [] = []
stops_of (p ∷ more) = stop_if p.is_stop p.owner ++ stops_of more

-- the stops of code as it grows: those of its words, and the one that begins at the next word, if there is one
abbrev pub shown : Code → List ℕ
shown c = stops_of c.pieces.items ++ stop_if c.begins c.owner
