-- Copies that are found along a block.
use Rattle.std.specs.Prelude.{◌≡◌, ℕ, Bool, Option, Some, None, List, [], ◌∷◌, ◌++◌, length, slice_get}
use Rattle.graph_core.specs.Graphs.{Name, Instruction, Move, Block, Graph}
use Rattle.graph_core.specs.Validity.{counts, total}
use Rattle.copy_pass_rule.specs.declared.copies.CopyAt.{CopyAt}
use Rattle.copy_pass_rule.specs.Copying.{AreOfOneType, reading}
use Rattle.copy_pass_rule.specs.Flow.{Bits, AreFound, lines_of, source_among}
use Rattle.copy_pass_rule.specs.Found.{AreMissingAt}
use Rattle.copy_pass_rule.specs.Known.{IsNoCopy}

-- An instruction with this rest of its block behind it, as it is read by copies.
pub record IsReadBy (g : Graph) (n : ℕ) (b : Block) (i : Instruction) (rest : List Instruction) (copies : List CopyAt)
    (made : Instruction) : Type 0 where
  pub bits : Bits
  pub found : AreFound (lines_of g.blocks) copies bits
  pub missing : ℕ → Bool
  pub are : AreMissingAt copies bits n b (i ∷ rest) missing
  pub is : made ≡ reading (source_among copies missing 0) i

-- Along what is left of a block, to the copies that were found those are added that its instructions make, each as it
-- is read by those found before.
pub data AreFoundAlong (g : Graph) (n : ℕ) (b : Block) : (rest : List Instruction) → (found new : List CopyAt)
    → Type 0 where
  done : {found : List CopyAt} → AreFoundAlong g n b [] found found
  no_copy : {i made : Instruction} {rest : List Instruction} {found new : List CopyAt}
      → IsReadBy g n b i rest found made → IsNoCopy g.scalars made → AreFoundAlong g n b rest found new
      → AreFoundAlong g n b (i ∷ rest) found new
  copy : {i : Instruction} {rest : List Instruction} {found new : List CopyAt} (x y : ℕ)
      → IsReadBy g n b i rest found (Move x (Name y)) → AreOfOneType g.scalars x y
      → AreFoundAlong g n b rest (found ++ record {
        block = n;
        left = length rest;
        target = x;
        source = y;
      } ∷ []) new → AreFoundAlong g n b (i ∷ rest) found new

-- An instruction stands in a block of a graph with so many behind it.
pub record IsPoint (g : Graph) (n left : ℕ) (i : Instruction) : Type 0 where
  pub block : Block
  pub before : List Instruction
  pub rest : List Instruction
  pub is : slice_get g.blocks n ≡ Some block
  pub parts : block.instructions ≡ before ++ i ∷ rest
  pub behind : length rest ≡ left

-- It makes no copy there, as it is read by these copies.
pub record MakesNone (g : Graph) (n left : ℕ) (i : Instruction) (copies : List CopyAt) : Type 0 where
  pub point : IsPoint g n left i
  pub made : Instruction
  pub read : IsReadBy g n point.block i point.rest copies made
  pub never : IsNoCopy g.scalars made

-- It makes this copy there.
pub record Makes (g : Graph) (n left : ℕ) (i : Instruction) (copies : List CopyAt) (c : CopyAt) : Type 0 where
  pub point : IsPoint g n left i
  pub read : IsReadBy g n point.block i point.rest copies (Move c.target (Name c.source))
  pub typed : AreOfOneType g.scalars c.target c.source
  pub in_block : c.block ≡ n
  pub there : c.left ≡ left

-- how many instructions of a block are counted, if there is one
abbrev pub counted_in : Option Block → ℕ
counted_in None = 0
counted_in (Some b) = total counts b.instructions

-- Along a block of the graph the copies were found.
pub record FindsIn (g : Graph) (n : ℕ) (found new : List CopyAt) : Type 0 where
  pub block : Block
  pub is : slice_get g.blocks n ≡ Some block
  pub along : AreFoundAlong g n block block.instructions found new
