-- Where pieces of code stand in the code of the machine.
use Rattle.std.specs.Prelude.{◌≡◌, ℕ, ◌+◌, ◌-◌, ◌*◌, ◌≤◌, ◌⊎◌, Bool, false, List, [], ◌∷◌}
use Rattle.memory_map.specs.declared.map.Map.{Map}
use Rattle.memory_map.specs.Maps.{most_words}
use Rattle.rv_code.specs.declared.instruction.Instruction.TheVariants as instruction
use Rattle.rv_code.specs.declared.instruction.BranchOperation.{BranchOperation}
use Rattle.rv_emit_words.specs.Constants.{high_part, low_part}
use Rattle.rv_emit_words.specs.declared.piece.Piece.{Piece}
use Rattle.rv_emit_words.specs.declared.piece.Piece.TheVariants.{Word, Jump, Branch, Call}
use Rattle.rv_emit_code.specs.Ends.{opposite}
use Rattle.rv_emit_steps.specs.Programs.{Program, distance, IsAt}

-- The index of the code at which each label of a function stands, that at which each function begins, and the place to
-- which the word at each index belongs, or 0.
pub record Targets : Type 0 where
  pub label : ℕ → ℕ
  pub function : ℕ → ℕ
  pub owner : ℕ → ℕ

-- They stand in the code or directly behind it.
pub record AreInCode (regions : Map) (t : Targets) : Type 0 where
  pub labels : (l : ℕ) → t.label l ≤ most_words regions
  pub functions : (f : ℕ) → t.function f ≤ most_words regions

-- A branch in one word, which goes to its label.
abbrev pub IsNear : Program → Targets → (index : ℕ) → (stops : Bool) → BranchOperation → (left right to behind : ℕ)
    → Type 0
IsNear p t i b op l r to j = IsAt p i b (instruction.Branch op l r (distance i (t.label to))) × (j ≡ i + 1)

-- A jump in one word to another word of the code, whose link goes to a register.
abbrev pub IsShortJump : Program → (index : ℕ) → (stops : Bool) → (link to behind : ℕ) → Type 0
IsShortJump p i b r to j = IsAt p i b (instruction.Jal r (distance i to)) × (j ≡ i + 1)

-- A jump in two words, by way of another register. The distance is that from the first of them, at which there is a
-- stop or none; there is none at the second.
abbrev pub IsLongJump : Program → (index : ℕ) → (stops : Bool) → (link by to behind : ℕ) → Type 0
IsLongJump p i b r q to j =
    IsAt p i b (instruction.Auipc q (high_part (distance i to)))
    × IsAt p (i + 1) false (instruction.Jalr r q (low_part (distance i to))) × (j ≡ i + 2)

-- A jump in one word or in two.
abbrev pub IsJump : Program → (index : ℕ) → (stops : Bool) → (link by to behind : ℕ) → Type 0
IsJump p i b r q to j = IsShortJump p i b r to j ⊎ IsLongJump p i b r q to j

-- A branch in two words or three: the opposite one, over a jump to its label.
abbrev pub IsOver : Program → Targets → (index : ℕ) → (stops : Bool) → BranchOperation → (left right to behind : ℕ)
    → Type 0
IsOver p t i b op l r to j =
    IsAt p i b (instruction.Branch (opposite op) l r (4 * (j - i))) × IsJump p (i + 1) false 0 5 (t.label to) j

-- A piece of code stands from an index on, and another index is that of what stands behind it. There is a stop at its
-- first word or there is none, and none at a later one. A jump goes by way of t0, a call by way of ra, which takes the
-- address behind it.
abbrev pub PieceAt : Program → Targets → (index : ℕ) → (stops : Bool) → Piece → (behind : ℕ) → Type 0
PieceAt p t i b (Word x) j = IsAt p i b x × (j ≡ i + 1)
PieceAt p t i b (Jump to) j = IsJump p i b 0 5 (t.label to.0) j
PieceAt p t i b (Branch op l r to) j = IsNear p t i b op l r to.0 j ⊎ IsOver p t i b op l r to.0 j
PieceAt p t i b (Call f) j = IsJump p i b 1 1 (t.function f) j

-- Pieces stand one behind the other from an index on, up to another. There is a stop at the first of them if that is
-- said, and at no other.
abbrev pub PiecesAt : Program → Targets → (index : ℕ) → (stops : Bool) → List Piece → (behind : ℕ) → Type 0
PiecesAt p t i b [] j = j ≡ i
PiecesAt p t i b (x ∷ more) j = (k : ℕ) × PieceAt p t i b x k × PiecesAt p t k false more j
