-- Where the pieces of a function stand, and the words that they become.
use Rattle.std.specs.Prelude.{◌≡◌, ◌≢◌, ℕ, zero, suc, ◌+◌, ◌*◌, ◌%◌, ◌≤◌, if◌then◌else◌, Some, List, [], ◌∷◌, ◌++◌, length, map, replicate, slice_get, slice_index, get_or, drop}
use Rattle.word_base.specs.Arithmetic.{subtracted}
use Rattle.memory_map.specs.declared.map.Room.{Room}
use Rattle.memory_map.specs.declared.map.Room.TheVariants.{Small, Large}
use Rattle.rv_code.specs.declared.instruction.Instruction.{Instruction}
use Rattle.rv_code.specs.declared.instruction.Instruction.TheVariants as instruction
use Rattle.rv_code.specs.InForm.{IsBranchDistance, IsJumpDistance}
use Rattle.rv_emit_words.specs.Constants.{high_part, low_part}
use Rattle.rv_emit_words.specs.declared.piece.Piece.{Piece}
use Rattle.rv_emit_words.specs.declared.piece.Piece.TheVariants.{Word, Jump, Branch, Call}
use Rattle.rv_emit_words.specs.declared.piece.PlacedPiece.{PlacedPiece}
use Rattle.rv_emit_code.specs.Ends.{opposite}
use Rattle.rv_emit_sequence.specs.Sequences.{SequenceForm, counted}
use Rattle.rv_emit_layout.specs.declared.layout.Layout as declared-layout
use Rattle.rv_emit_layout.specs.declared.layout.Longest as declared-longest
use Rattle.rv_emit_layout.specs.declared.layout.OwnedWord.{OwnedWord}
use Rattle.rv_emit_layout.specs.declared.reaching.Reach.{Reach}
use Rattle.rv_emit_layout.specs.declared.reaching.Reach.TheVariants.{Near, Over, Far}
use Rattle.rv_emit_layout.specs.Longest.{longest}
use Rattle.rv_emit_layout.specs.Reaches.{branch_width, farthest, is_near, jump_reach, width}
use Rattle.rv_emit_layout.specs.Spelling.{spelled}

-- How many words stand before each piece, and behind that before the end; how many words all pieces have; and how each
-- piece comes to where it leads.
pub record LayoutForm : Type 0 where
  pub offsets : List ℕ
  pub words : ℕ
  pub reaches : List Reach

-- what the code has of it
abbrev pub layout_view : declared-layout.Layout → LayoutForm
layout_view l = record { offsets = l.offsets.items; words = l.words; reaches = l.reaches.items }

-- The word of the distance between two words of code.
abbrev pub distance : (from to : ℕ) → ℕ
distance from to = subtracted to from * 4 % 4294967296

-- Where a label stands.
abbrev pub label_at : (labels offsets : List ℕ) → (label : ℕ) → ℕ
label_at labels offsets l = slice_index offsets (slice_index labels l)

-- ---- Offsets

-- How many words so many pieces have, the first of which stand before the others.
abbrev pub words_before : List Reach → List PlacedPiece → (pieces : ℕ) → ℕ
words_before reaches [] k = 0
words_before reaches (p ∷ more) zero = 0
words_before reaches (p ∷ more) (suc k) = width (get_or reaches 0 Near) p.piece + words_before (drop 1 reaches) more k

-- A jump of one word reaches over such a distance: over one that a jump has, and in the smaller room over each one,
-- since all code of a unit is within its reach.
abbrev pub IsJumpNear : Room → (distance : ℕ) → Type 0
IsJumpNear Small d = Unit {0}
IsJumpNear Large d = IsJumpDistance d

-- What has one word reaches where it leads: a jump within its function, a branch alone, and the jump of a branch of two
-- words, which stands one word behind it.
abbrev pub IsNearEnough : Room → (labels offsets : List ℕ) → Reach → (from : ℕ) → Piece → Type 0
IsNearEnough room labels offsets x from (Word i) = Unit {0}
IsNearEnough room labels offsets x from (Jump to) =
    x ≢ Far → IsJumpNear room (distance from (label_at labels offsets to.0))
IsNearEnough room labels offsets x from (Branch op l r to) =
    (x ≡ Near → IsBranchDistance (distance from (label_at labels offsets to.0)))
    × (x ≡ Over → IsJumpNear room (distance (from + 1) (label_at labels offsets to.0)))
IsNearEnough room labels offsets x from (Call f) = Unit {0}

-- How many pieces a function has whose bytes 32 bits can count: each piece has at most three words, so they have at
-- most 12 * 2^27 bytes.
abbrev pub most_pieces : ℕ
most_pieces = 134217728

-- Each piece stands behind the words of those before it, has no more words than pieces have in the room, and is near
-- enough to where it leads.
pub record IsLayoutOf (room : Room) (s : SequenceForm) (l : LayoutForm) : Type 0 where
  pub count : length l.offsets ≡ length s.pieces + 1
  pub flags : length l.reaches ≡ length s.pieces
  pub offsets : (k : ℕ) → k ≤ length s.pieces → slice_index l.offsets k ≡ words_before l.reaches s.pieces k
  pub words : l.words ≡ words_before l.reaches s.pieces (length s.pieces)
  pub widths : (k : ℕ) (x : PlacedPiece) → slice_get s.pieces k ≡ Some x
      → width (get_or l.reaches k Near) x.piece ≤ width (farthest room) x.piece
  pub near : (k : ℕ) (x : PlacedPiece) → slice_get s.pieces k ≡ Some x
      → IsNearEnough room s.labels l.offsets (get_or l.reaches k Near) (slice_index l.offsets k) x.piece

-- ---- How they are found

-- How many words stand before each piece, from one of this index on, before which so many stand; and behind them all.
-- As far as 32 bits can count.
abbrev pub offsets_from : List Reach → (index before : ℕ) → List PlacedPiece → List ℕ
offsets_from reaches i n [] = n ∷ []
offsets_from reaches i n (p ∷ more) =
    n ∷ offsets_from reaches (counted (i + 1)) (counted (n + width (get_or reaches i Near) p.piece)) more

-- Where the code of a unit stands in the longest layout, as seen from one of its functions: the unit's room, how many
-- words stand before the function and before each function, and how many of its own words stand before each of its
-- pieces.
pub record LongestForm : Type 0 where
  pub room : Room
  pub first : ℕ
  pub firsts : List ℕ
  pub offsets : List ℕ

-- what the code has of it
abbrev pub longest_view : declared-longest.Longest → LongestForm
longest_view m = record { room = m.room; first = m.first; firsts = m.firsts.now; offsets = m.offsets.now }

-- How a piece of the function comes to where it leads, by distances in the longest layout: those of its first word, and
-- of a branch's jump those of the word behind the branch.
abbrev pub reach_of : LongestForm → (labels : List ℕ) → (from : ℕ) → Piece → Reach
reach_of m labels from (Word i) = Near
reach_of m labels from (Jump to) = jump_reach m.room from (label_at labels m.offsets to.0)
reach_of m labels from (Branch op l r to) =
    if is_near from (label_at labels m.offsets to.0) then Near
    else jump_reach m.room (counted (from + 1)) (label_at labels m.offsets to.0)
reach_of m labels from (Call f) = jump_reach m.room (counted (m.first + from)) (slice_index m.firsts f)

-- How each piece does, from one of this index on.
abbrev pub reaches_from : LongestForm → (labels : List ℕ) → (index : ℕ) → List PlacedPiece → List Reach
reaches_from m labels i [] = []
reaches_from m labels i (p ∷ more) =
    reach_of m labels (slice_index m.offsets i) p.piece ∷ reaches_from m labels (counted (i + 1)) more

-- The layout in which pieces come so to where they lead.
abbrev pub layout_by : List Reach → List PlacedPiece → LayoutForm
layout_by reaches pieces =
    record {
      offsets = offsets_from reaches 0 0 pieces;
      words = slice_index (offsets_from reaches 0 0 pieces) (counted (length reaches));
      reaches = reaches;
    }

-- Each piece has as few words as the longest layout allows.
abbrev pub layout_of : LongestForm → SequenceForm → LayoutForm
layout_of m s = layout_by (reaches_from m s.labels 0 s.pieces) s.pieces

-- The longest layout of a function itself.
abbrev pub longest_layout : Room → SequenceForm → LayoutForm
longest_layout room s =
    record {
      offsets = longest room s;
      words = slice_index (longest room s) (counted (length s.pieces));
      reaches = replicate (length s.pieces) (farthest room);
    }

-- ---- Words

-- Where the labels of a function stand, how many words stand before it, and how many before each function.
pub record Lying : Type 0 where
  pub labels : List ℕ
  pub offsets : List ℕ
  pub first : ℕ
  pub functions : List ℕ

-- A jump or a call over a distance, whose link goes to a register: by itself, or by way of another register.
abbrev pub jump_code : Reach → (link by distance : ℕ) → List Instruction
jump_code Near r q d = instruction.Jal r d ∷ []
jump_code Over r q d = instruction.Jal r d ∷ []
jump_code Far r q d = instruction.Auipc q (high_part d) ∷ instruction.Jalr r q (low_part d) ∷ []

-- A branch over a distance: by itself, or the opposite one over a jump.
abbrev pub branch_code : Reach → (branch opposite : ℕ → Instruction) → (distance : ℕ) → List Instruction
branch_code Near b o d = b d ∷ []
branch_code Over b o d = o (4 * branch_width Over) ∷ jump_code Over 0 5 (subtracted d 4)
branch_code Far b o d = o (4 * branch_width Far) ∷ jump_code Far 0 5 (subtracted d 4)

-- The instructions that a piece becomes, so many words behind the beginning of the function.
abbrev pub piece_code : Lying → Reach → (from : ℕ) → Piece → List Instruction
piece_code t x from (Word i) = i ∷ []
piece_code t x from (Jump to) = jump_code x 0 5 (distance from (label_at t.labels t.offsets to.0))
piece_code t x from (Branch op l r to) =
    branch_code x (λ d. instruction.Branch op l r d) (λ d. instruction.Branch (opposite op) l r d)
    (distance from (label_at t.labels t.offsets to.0))
piece_code t x from (Call f) = jump_code x 1 1 (distance ((t.first + from) % 4294967296) (slice_index t.functions f))

-- Their words, which belong to a place.
abbrev pub owned_words : (owner : ℕ) → List Instruction → List OwnedWord
owned_words owner code = map (λ i. record { word = spelled i; owner = owner }) code

-- The words of pieces, from one of this index on.
abbrev pub words_from : Lying → List Reach → (index : ℕ) → List PlacedPiece → List OwnedWord
words_from t reaches i [] = []
words_from t reaches i (p ∷ more) =
    owned_words p.owner (piece_code t (get_or reaches i Near) (slice_index t.offsets i) p.piece)
    ++ words_from t reaches (counted (i + 1)) more

-- What the words of a function rest on, and its words.
abbrev pub lying : SequenceForm → LayoutForm → (first : ℕ) → (functions : List ℕ) → Lying
lying s l first functions = record { labels = s.labels; offsets = l.offsets; first = first; functions = functions }

abbrev pub function_words : SequenceForm → LayoutForm → (first : ℕ) → (functions : List ℕ) → List OwnedWord
function_words s l first functions = words_from (lying s l first functions) l.reaches 0 s.pieces
