-- Code as it grows, and what is appended to it.
use Rattle.std.specs.Prelude.{ℕ, ◌==◌, not, Bool, false, Option, Some, None, if◌then◌else◌, List, [], ◌∷◌, ◌++◌, filter}
use Rattle.rv_code.specs.declared.instruction.Instruction.{Instruction}
use Rattle.rv_code.specs.declared.instruction.Instruction.TheVariants.{Immediate}
use Rattle.rv_code.specs.declared.instruction.ImmediateOperation.TheVariants.{Addi}
use Rattle.rv_emit_words.specs.declared.piece.Held.{Held}
use Rattle.rv_emit_words.specs.declared.piece.Piece.{Piece}
use Rattle.rv_emit_words.specs.declared.piece.Piece.TheVariants.{Word}
use Rattle.rv_emit_words.specs.declared.piece.PlacedPiece.{PlacedPiece}
use Rattle.rv_emit_words.specs.declared.code.Code.{Code}

-- The pieces so far, what scratch registers hold behind them, the place in force, and whether that is a stop which has
-- no word yet.
pub record CodeState : Type 0 where
  pub pieces : List PlacedPiece
  pub held : List Held
  pub owner : ℕ
  pub begins : Bool

-- what the code has of it
abbrev pub code_state : Code → CodeState
code_state c = record { pieces = c.pieces.items; held = c.held.items; owner = c.owner; begins = c.begins }

-- A piece of the place in force is appended; if that is a stop and had no word yet, it begins here.
abbrev pub with_piece : Piece → CodeState → CodeState
with_piece p g = record {
  pieces = g.pieces ++ (record { piece = p; owner = g.owner; is_stop = g.begins; writes = None }) ∷ [];
  held = g.held;
  owner = g.owner;
  begins = false;
}

-- Words are appended, one behind the other.
abbrev pub with_code : List Instruction → CodeState → CodeState
with_code [] g = g
with_code (i ∷ more) g = with_code more (with_piece (Word i) g)

-- A stop that has no word yet gets one that does nothing.
abbrev pub settled : CodeState → CodeState
settled g = if g.begins then with_code (Immediate Addi 0 0 0 ∷ []) g else g

-- The last of some pieces is marked as the one that writes the target of an instruction of this number.
abbrev pub marked : (number : ℕ) → List PlacedPiece → List PlacedPiece
marked n [] = []
marked n (p ∷ []) = (record { piece = p.piece; owner = p.owner; is_stop = p.is_stop; writes = Some n }) ∷ []
marked n (p ∷ q ∷ more) = p ∷ marked n (q ∷ more)

-- ---- What scratch registers hold

-- the first register that holds a word, if one does
abbrev pub holder_of : (word : ℕ) → List Held → Option ℕ
holder_of w [] = None
holder_of w (h ∷ more) = if h.word == w then Some h.register else holder_of w more

-- Nothing more is known of a register.
abbrev pub forgotten : (register : ℕ) → List Held → List Held
forgotten r held = filter (λ (h : Held). not (h.register == r)) held

-- A register holds a word from now on.
abbrev pub with_held : Held → CodeState → CodeState
with_held h g = record g { held = forgotten h.register g.held ++ h ∷ [] }
