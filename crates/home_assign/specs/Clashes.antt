-- Names that interfere.
use Rattle.std.specs.Prelude.{◌≡◌, ◌≢◌, ◌⊎◌, ℕ, ◌==◌, ◌≤◌, Bool, true, false, Option, Some, None, List, [], ◌∷◌, length, slice_get}
use Rattle.std.specs.Option.{option_map_or}
use Rattle.memory_map.specs.declared.map.Room.TheVariants.{Large}
use Rattle.graph_core.specs.Graphs.{Instruction, Move, Name, Operand, End, Block, Graph}
use Rattle.graph_core.specs.Bounds.{most_blocks, most_names}
use Rattle.graph_core.specs.Paths.{writes, is_bound}
use Rattle.graph_core.specs.Points.{Behind}
use Rattle.graph_solve_live.specs.Live.{IsReadFirst}

-- A graph's names can have homes: there are not too many names and blocks.
pub record MayHaveHomes (g : Graph) : Type 0 where
  pub names : g.name_count ≤ most_names
  pub blocks : length g.blocks ≤ most_blocks Large

-- the instruction does not copy the one name to the other
abbrev pub IsNoCopyOf : (x y : ℕ) → Instruction → Type 0
IsNoCopyOf x y i = i ≢ Move x (Name y)

-- One name is written where another is live behind that: by an instruction that does not copy the other, or as a
-- parameter at the entry, where all are bound at once.
pub data Clashes (g : Graph) (x y : ℕ) : Type 0 where
  written : {i : Instruction} {n : ℕ} {rest : List Instruction} {e : End} → Behind g i n rest e → writes x i ≡ true
      → IsNoCopyOf x y i → IsReadFirst g y rest e → Clashes g x y
  bound : {b : Block} → is_bound x g.parameters ≡ true → slice_get g.blocks 0 ≡ Some b
      → IsReadFirst g y b.instructions b.end → Clashes g x y

-- Two names interfere: one of them is written where the other is live.
abbrev pub Interfere : Graph → (x y : ℕ) → Type 0
Interfere g x y = (x ≢ y) × (Clashes g x y ⊎ Clashes g y x)

-- ---- The same, as a walk finds it

-- the name that an operand reads
abbrev pub name_in : Operand → Option ℕ
name_in (Name x) = Some x
name_in _ = None

-- the name that an instruction copies
abbrev pub copied_of : Instruction → Option ℕ
copied_of (Move x a) = name_in a
copied_of _ = None

-- an instruction copies a name
abbrev pub copies : ℕ → Instruction → Bool
copies y i = option_map_or (λ z. z == y) (copied_of i) false

-- among these instructions of a block is one that writes the one name and does not copy the other, which is live behind
-- it
abbrev pub ClashesAmong : Graph → (x y : ℕ) → List Instruction → End → Type 0
ClashesAmong g x y [] e = ⊥
ClashesAmong g x y (i ∷ rest) e =
    ((writes x i ≡ true) × (copies y i ≡ false) × IsReadFirst g y rest e) ⊎ ClashesAmong g x y rest e

-- in this block of a graph is such an instruction
abbrev pub ClashesIn : Graph → (x y n : ℕ) → Type 0
ClashesIn g x y n = (b : Block) × (slice_get g.blocks n ≡ Some b) × ClashesAmong g x y b.instructions b.end
