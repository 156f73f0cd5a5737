-- How many words pieces of code have at most.
use Rattle.std.specs.Prelude.{ℕ, ◌+◌, List, [], ◌∷◌}
use Rattle.rv_emit_words.specs.declared.piece.Piece.{Piece}
use Rattle.rv_emit_words.specs.declared.piece.Piece.TheVariants.{Word, Jump, Branch, Call}
use Rattle.rv_emit_words.specs.declared.piece.PlacedPiece.{PlacedPiece}

-- A branch has two words where its distance is long.
abbrev pub words_of_piece : Piece → ℕ
words_of_piece (Word i) = 1
words_of_piece (Jump to) = 1
words_of_piece (Branch operation left right to) = 2
words_of_piece (Call function) = 1

-- how many words pieces have at most
abbrev pub words_in : List PlacedPiece → ℕ
words_in [] = 0
words_in (p ∷ more) = words_of_piece p.piece + words_in more
