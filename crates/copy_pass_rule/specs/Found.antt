-- The copies of a graph.
use Rattle.std.specs.Prelude.{◌≡◌, ℕ, suc, ◌<◌, Bool, true, Some, List, ◌∷◌, ◌++◌, length, map, slice_get}
use Rattle.graph_core.specs.Graphs.{Instruction, Block, Graph}
use Rattle.graph_core.specs.Uses.{target_of}
use Rattle.copy_pass_rule.specs.declared.copies.CopyAt.{CopyAt}
use Rattle.copy_pass_rule.specs.Copying.{reading}
use Rattle.copy_pass_rule.specs.Flow.{Bits, AreFound, IsKnown, lines_of, missing_where, source_among}
use Rattle.copy_pass_rule.specs.Numbered.{AreOfScalars}

-- no two stand at one point
abbrev pub AreApart : List CopyAt → Type 0
AreApart copies =
    (j k : ℕ) (c d : CopyAt) → slice_get copies j ≡ Some c → slice_get copies k ≡ Some d → c.block ≡ d.block
    → c.left ≡ d.left → j ≡ k

-- each stands in one of so many blocks
abbrev pub AreWithin : List CopyAt → (blocks : ℕ) → Type 0
AreWithin copies blocks = (k : ℕ) (c : CopyAt) → slice_get copies k ≡ Some c → c.block < blocks

-- Copies that can be numbered: no two stand at one point, and they are of these blocks and scalars.
pub record AreNumerable (copies : List CopyAt) (blocks scalars : ℕ) : Type 0 where
  pub apart : AreApart copies
  pub within : AreWithin copies blocks
  pub of_scalars : AreOfScalars copies scalars

-- which copies are missing at a point of a block, by what is missing at its start
abbrev pub AreMissingAt : List CopyAt → Bits → (n : ℕ) → Block → (rest : List Instruction) → (missing : ℕ → Bool)
    → Type 0
AreMissingAt copies bits n b rest missing =
    (k : ℕ) (c : CopyAt) → slice_get copies k ≡ Some c
    → missing k ≡ missing_where c n (length rest) (map target_of b.instructions) (bits n (suc k))

-- At a point that stands before an instruction, the copies are known that it makes as it is read.
abbrev pub IsKnownAt : Graph → List CopyAt → Bits → (n : ℕ) → Block → Instruction → (rest : List Instruction) → Type 0
IsKnownAt g copies bits n b i rest =
    (missing : ℕ → Bool) → AreMissingAt copies bits n b (i ∷ rest) missing
    → IsKnown g.scalars copies n (length rest) (reading (source_among copies missing 0) i)

-- THE COPIES OF A GRAPH: those that its instructions make once each reads what these copies have it read.
pub record AreCopiesOf (g : Graph) (copies : List CopyAt) : Type 0 where
  pub numerable : AreNumerable copies (length g.blocks) (length g.scalars)
  pub known : (bits : Bits) → AreFound (lines_of g.blocks) copies bits
      → (n : ℕ) (b : Block) (before rest : List Instruction) (i : Instruction)
      → slice_get g.blocks n ≡ Some b → bits n 0 ≡ true → b.instructions ≡ before ++ i ∷ rest
      → IsKnownAt g copies bits n b i rest
