-- A point of a function before copy propagation, the point of the same function after it, and what one activation of either has come by.
use Rattle.std.proofs.Common.{◌≡◌, ℕ, Some, None, List, [], ◌∷◌, length}
use Rattle.std.specs.Prelude.{slice_get}
use Rattle.graph_core.specs.declared.value.Value.{Value}
use Rattle.graph_core.specs.Graphs.{Name, Move, Instruction, End, Block, Graph}
use Rattle.graph_core.specs.Uses.{target_of, targets_of, reads_of_end}
use Rattle.graph_core.specs.Paths.{History, Among, stays, Path, path}
use Rattle.graph_core.specs.Runs.{with_value_at}
use Rattle.copy_pass_rule.specs.Copying.{reading_end, IsReadAs, AreCopied, IsCopiedBlock, IsPropagated}
use Rattle.copy_pass_laws.proofs.Truth.{AreTrue, true_first, true_passed, true_written}
use Rattle.graph_core.proofs.Among.{path_goes, path_passes}

-- a graph with other blocks
abbrev pub copied_graph : Graph → List Block → Graph
copied_graph g blocks = record g { blocks = blocks }

-- An activation has come by a path of the graph after to a point, to which its names are true. Behind the point these instructions are left, before and after, and the end of
-- the block: the same but for what they read.
pub record Fits (g : Graph) (blocks : List Block) (names : ℕ → Value) (point before after : List Instruction) (end later : End) : Type 0 where
  pub made : IsPropagated g (copied_graph g blocks)
  pub history : History
  pub block : ℕ
  pub along : Path (copied_graph g blocks) history block point later
  pub holds : AreTrue names history
  pub instructions : AreCopied (copied_graph g blocks) block later before after
  pub read_as : ℕ → ℕ
  pub ends : later ≡ reading_end read_as end
  pub reads : (x : ℕ) → Among x (reads_of_end end) → IsReadAs (copied_graph g blocks) block [] later x (read_as x)

module _ (g : Graph) (blocks : List Block) where
  -- An instruction was passed that writes no name.
  pub fits_passed : (names : ℕ → Value) (i : Instruction) (before after : List Instruction) (end later : End) (v : Value) → target_of i ≡ None → Fits g blocks names (i ∷ after) before after end later → Fits g blocks names after before after end later
  fits_passed names i before after end later v target fits = record {
    made = fits.made;
    history = record { block = fits.block; left = length after; instruction = i; wrote = v } ∷ fits.history;
    block = fits.block;
    along = path_passes (copied_graph g blocks) fits.history fits.block i after later v fits.along;
    holds = true_passed names fits.history (record { block = fits.block; left = length after; instruction = i; wrote = v }) target fits.holds;
    instructions = fits.instructions;
    read_as = fits.read_as;
    ends = fits.ends;
    reads = fits.reads;
  }

  -- An instruction was passed that writes a name, and, where it is a copy, the value of the name that it reads.
  pub fits_written : (names : ℕ → Value) (i : Instruction) (before after : List Instruction) (end later : End) (x : ℕ) (v : Value) → target_of i ≡ Some x → ((y : ℕ) → i ≡ Move x (Name y) → v ≡ names y)
      → Fits g blocks names (i ∷ after) before after end later → Fits g blocks (with_value_at names x v) after before after end later
  fits_written names i before after end later x v target copies fits = record {
    made = fits.made;
    history = record { block = fits.block; left = length after; instruction = i; wrote = v } ∷ fits.history;
    block = fits.block;
    along = path_passes (copied_graph g blocks) fits.history fits.block i after later v fits.along;
    holds = true_written names fits.history (record { block = fits.block; left = length after; instruction = i; wrote = v }) x v target copies fits.holds;
    instructions = fits.instructions;
    read_as = fits.read_as;
    ends = fits.ends;
    reads = fits.reads;
  }

  module _ (made : IsPropagated g (copied_graph g blocks)) (names : ℕ → Value) (n : ℕ) (b c : Block) (stood : slice_get g.blocks n ≡ Some b) (stands : slice_get blocks n ≡ Some c) where
    -- A path leads to the beginning of a block.
    fits_block : (h : History) → Path (copied_graph g blocks) h n c.instructions c.end → AreTrue names h → Fits g blocks names c.instructions b.instructions c.instructions b.end c.end
    fits_block h along holds =
        let one : IsCopiedBlock (copied_graph g blocks) n b c = made.blocks n b c stood stands in
        record {
          made = made;
          history = h;
          block = n;
          along = along;
          holds = holds;
          instructions = one.instructions;
          read_as = one.read_as;
          ends = one.end;
          reads = one.reads;
        }

    -- Control went from the end of a block to this one.
    pub fits_entered : (before after : List Instruction) (end later : End) → Among n (targets_of later) → Fits g blocks names [] before after end later → Fits g blocks names c.instructions b.instructions c.instructions b.end c.end
    fits_entered before after end later to fits = fits_block fits.history (path_goes (copied_graph g blocks) fits.history fits.block later n c to stands fits.along) fits.holds

  -- A function began.
  pub fits_begun : (made : IsPropagated g (copied_graph g blocks)) (names : ℕ → Value) (b c : Block) → slice_get g.blocks 0 ≡ Some b → slice_get blocks 0 ≡ Some c → Fits g blocks names c.instructions b.instructions c.instructions b.end c.end
  fits_begun made names b c stood stands = fits_block made names 0 b c stood stands [] (path c stands stays) (true_first names)
