-- Pieces that were appended to code stand behind it, where all of it stands.
use Rattle.std.proofs.Common.{◌≡◌, ℕ, sym, ◌∙◌, subst, refl, append_assoc, append-nil, Bool, false, None, List, [], ◌∷◌, ◌++◌}
use Rattle.rv_code.specs.declared.instruction.Instruction.{Instruction}
use Rattle.rv_emit_words.specs.declared.piece.Piece.{Piece}
use Rattle.rv_emit_words.specs.declared.piece.Piece.TheVariants as piece
use Rattle.rv_emit_words.specs.declared.piece.PlacedPiece.{PlacedPiece}
use Rattle.rv_emit_words.specs.Growing.{CodeState, with_code, with_piece, marked}
use Rattle.rv_emit_steps.specs.Programs.{Program}
use Rattle.rv_emit_code.specs.Ends.{words, with_pieces}
use Rattle.rv_emit_runs.specs.Pieces.{Targets, PiecesAt}
use Rattle.rv_emit_runs.specs.Placed.{placed_pieces, PlacedAt}

-- Words are pieces.
pub words_appended : (code : List Instruction) (s : CodeState) → with_code code s ≡ with_pieces (words code) s
words_appended [] s = refl
words_appended (x ∷ code) s = words_appended code (with_piece (piece.Word x) s)

-- What code has behind what it had.
pub pieces_appended : (more : List Piece) (s : CodeState) → (with_pieces more s).pieces ≡ s.pieces ++ placed_pieces s.owner s.begins more
pieces_appended [] s = sym (append-nil s.pieces)
pieces_appended (x ∷ more) s =
    let one : PlacedPiece = record { piece = x; owner = s.owner; is_stop = s.begins; writes = None } in
    pieces_appended more (with_piece x s) ∙ append_assoc s.pieces (one ∷ []) (placed_pieces s.owner false more)

-- ---- Where it stands

-- Where all of it stands, each of two parts does.
pub record BothPlaced (p : Program) (t : Targets) (i : ℕ) (front back : List PlacedPiece) (j : ℕ) : Type 0 where
  pub index : ℕ
  pub front_there : PlacedAt p t i front index
  pub back_there : PlacedAt p t index back j

pub both_placed : (p : Program) (t : Targets) (i : ℕ) (front back : List PlacedPiece) (j : ℕ) → PlacedAt p t i (front ++ back) j → BothPlaced p t i front back j
both_placed p t i [] back j there = record { index = i; front_there = refl; back_there = there }
both_placed p t i (x ∷ front) back j (k, at, of, rest) =
    let later : BothPlaced p t k front back j = both_placed p t k front back j rest in
    record { index = later.index; front_there = (k, at, of, later.front_there); back_there = later.back_there }

-- Where each of two parts does, all of it stands.
pub placed_both : (p : Program) (t : Targets) (i k j : ℕ) (front back : List PlacedPiece) → PlacedAt p t i front k → PlacedAt p t k back j → PlacedAt p t i (front ++ back) j
placed_both p t i k j [] back here rest = subst (λ n. PlacedAt p t n back j) here rest
placed_both p t i k j (x ∷ front) back (m, at, of, more) rest = (m, at, of, placed_both p t m k j front back more rest)

-- Appended pieces stand as pieces do.
pub appended_there : (p : Program) (t : Targets) (i : ℕ) (owner : ℕ) (b : Bool) (more : List Piece) (j : ℕ) → PlacedAt p t i (placed_pieces owner b more) j → PiecesAt p t i b more j
appended_there p t i owner b [] j there = there
appended_there p t i owner b (x ∷ more) j (k, at, of, rest) = (k, at, appended_there p t k owner false more j rest)

-- So does code that is marked as what writes a target.
pub marked_there : (p : Program) (t : Targets) (i n : ℕ) (all : List PlacedPiece) (j : ℕ) → PlacedAt p t i (marked n all) j → PlacedAt p t i all j
marked_there p t i n [] j there = there
marked_there p t i n (x ∷ []) j there = there
marked_there p t i n (x ∷ y ∷ more) j (k, at, of, rest) = (k, at, of, marked_there p t k n (y ∷ more) j rest)
