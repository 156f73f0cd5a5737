-- A way through a graph is a way through one that is alike.
use Rattle.std.proofs.Common.{◌≡◌, ℕ, Some, List, [], ◌∷◌, length, refl, sym, subst}
use Rattle.std.specs.Prelude.{slice_get}
use Rattle.event_runs.specs.Agreement.{Pairs}
use Rattle.graph_core.specs.Graphs.{Instruction, End, Block, Graph}
use Rattle.graph_core.specs.Uses.{targets_of}
use Rattle.graph_core.specs.Paths.{History, Among, Way, stays, passes, goes, Path, path}
use Rattle.graph_core.specs.declared.value.Value.{Value}
use Rattle.copy_pass_rule.specs.Alike.{AreAlikeInstructions, AreAlikeEnds, AreAlikeBlocks}
use Rattle.copy_pass_rule.proofs.Lists.{as_many}
use Rattle.copy_pass_rule.proofs.Shapes.{same_targets}
use Rattle.copy_pass_laws.specs.Alike.{WerePassedAlike}
use Rattle.copy_pass_laws.proofs.CopyMarksLists.{pairs_after}

module _ (Reads : (x read : ℕ) → Type 0) (g h : Graph) (blocks : Pairs (AreAlikeBlocks Reads) g.blocks h.blocks) where
  module _ (from : ℕ) (rest others : List Instruction) (end other : End) (alike : Pairs (AreAlikeInstructions Reads) rest others) (ends : AreAlikeEnds Reads end other) where
    -- A way of the other graph from the point that is alike, which passed alike what this way passed, to a point that is alike.
    record GoesAlike (hist : History) (n : ℕ) (left : List Instruction) (e : End) : Type 0 where
      history : History
      after : List Instruction
      last : End
      way : Way h from others other history n after last
      passed : Pairs (WerePassedAlike Reads) hist history
      instructions : Pairs (AreAlikeInstructions Reads) left after
      leaves : AreAlikeEnds Reads e last

    -- one instruction more
    passes_alike : (hist history : History) (n : ℕ) (i : Instruction) (left after : List Instruction) (e last : End) (v : Value) → Way h from others other history n after last → Pairs (WerePassedAlike Reads) hist history
        → Pairs (AreAlikeInstructions Reads) (i ∷ left) after → AreAlikeEnds Reads e last → GoesAlike (record { block = n; left = length left; instruction = i; wrote = v } ∷ hist) n left e
    passes_alike hist history n i left [] e last v way passed all leaves = absurd all
    passes_alike hist history n i left (j ∷ after) e last v way passed all leaves = record {
      history = record { block = n; left = length after; instruction = j; wrote = v } ∷ history;
      after = after;
      last = last;
      way = passes way v;
      passed = (record { block = refl; left = as_many (AreAlikeInstructions Reads) left after all.1; instruction = all.0; wrote = refl }, passed);
      instructions = all.1;
      leaves = leaves;
    }

    -- one edge more
    goes_alike : (hist history : History) (n l : ℕ) (after : List Instruction) (e last : End) (b : Block) → Way h from others other history n after last → Pairs (WerePassedAlike Reads) hist history
        → Pairs (AreAlikeInstructions Reads) [] after → AreAlikeEnds Reads e last → Among l (targets_of e) → slice_get g.blocks l ≡ Some b → GoesAlike hist l b.instructions b.end
    goes_alike hist history n l (j ∷ after) e last b way passed all leaves among at = absurd all
    goes_alike hist history n l [] e last b way passed all leaves among at =
        let next = pairs_after (AreAlikeBlocks Reads) g.blocks h.blocks blocks l b at in
        record {
          history = history;
          after = next.0.instructions;
          last = next.0.end;
          way = goes way (subst (λ ls. Among l ls) (sym (same_targets Reads e last leaves)) among) next.0 next.1;
          passed = passed;
          instructions = next.2.instructions;
          leaves = next.2.end;
        }

    -- Each way of the graph goes alike in the other one.
    way_alike : {hist : History} {n : ℕ} {left : List Instruction} {e : End} → Way g from rest end hist n left e → GoesAlike hist n left e
    way_alike stays = record { history = []; after = others; last = other; way = stays; passed = tt; instructions = alike; leaves = ends }
    way_alike (passes {h = hist} {n = n} {i = i} {left = left} {e = e} way v) =
        let w = way_alike way in passes_alike hist w.history n i left w.after e w.last v w.way w.passed w.instructions w.leaves
    way_alike (goes {h = hist} {n = n} {l = l} {e = e} way among b at) =
        let w = way_alike way in goes_alike hist w.history n l w.after e w.last b w.way w.passed w.instructions w.leaves among at

  -- A path of the other graph to a point that is alike, with as much left, which passed alike what this path passed.
  pub record ComesAlike (hist : History) (n : ℕ) (rest : List Instruction) (e : End) : Type 0 where
    pub history : History
    pub left : List Instruction
    pub last : End
    pub way : Path h history n left last
    pub passed : Pairs (WerePassedAlike Reads) hist history
    pub instructions : Pairs (AreAlikeInstructions Reads) rest left
    pub ends : AreAlikeEnds Reads e last

  -- Each path of the graph comes alike in the other one.
  pub path_alike : (hist : History) (n : ℕ) (rest : List Instruction) (e : End) → Path g hist n rest e → ComesAlike hist n rest e
  path_alike hist n rest e (path b at way) =
      let first = pairs_after (AreAlikeBlocks Reads) g.blocks h.blocks blocks 0 b at in
      let w = way_alike 0 b.instructions first.0.instructions b.end first.0.end first.2.instructions first.2.end way in
      record { history = w.history; left = w.after; last = w.last; way = path first.0 first.1 w.way; passed = w.passed; instructions = w.instructions; ends = w.leaves }

  -- The same where an instruction comes next: so one that is alike does there.
  pub record ComesTo (hist : History) (n : ℕ) (i : Instruction) : Type 0 where
    pub history : History
    pub next : Instruction
    pub left : List Instruction
    pub last : End
    pub way : Path h history n (next ∷ left) last
    pub passed : Pairs (WerePassedAlike Reads) hist history
    pub alike : AreAlikeInstructions Reads i next

  -- where as much is left, an instruction is
  comes_next : (hist history : History) (n : ℕ) (i : Instruction) (rest left : List Instruction) (last : End) → Path h history n left last → Pairs (WerePassedAlike Reads) hist history → Pairs (AreAlikeInstructions Reads) (i ∷ rest) left → ComesTo hist n i
  comes_next hist history n i rest [] last way passed all = absurd all
  comes_next hist history n i rest (j ∷ left) last way passed all = record { history = history; next = j; left = left; last = last; way = way; passed = passed; alike = all.0 }

  -- Each path comes to an instruction that is alike.
  pub path_to : (hist : History) (n : ℕ) (i : Instruction) (rest : List Instruction) (e : End) → Path g hist n (i ∷ rest) e → ComesTo hist n i
  path_to hist n i rest e way =
      let c = path_alike hist n (i ∷ rest) e way in comes_next hist c.history n i rest c.left c.last c.way c.passed c.instructions

  -- The same where what comes next reads nothing: so it comes next there.
  pub record ComesToSame (hist : History) (n : ℕ) (i : Instruction) : Type 0 where
    pub history : History
    pub left : List Instruction
    pub last : End
    pub way : Path h history n (i ∷ left) last
    pub passed : Pairs (WerePassedAlike Reads) hist history

  -- Each path comes to the same, where that reads nothing.
  pub path_to_same : (hist : History) (n : ℕ) (i : Instruction) (rest : List Instruction) (e : End) → ((j : Instruction) → AreAlikeInstructions Reads i j → j ≡ i) → Path g hist n (i ∷ rest) e → ComesToSame hist n i
  path_to_same hist n i rest e only way =
      let c = path_to hist n i rest e way in
      record { history = c.history; left = c.left; last = c.last; way = subst (λ j. Path h c.history n (j ∷ c.left) c.last) (only c.next c.alike) c.way; passed = c.passed }

  -- The same where a block ends.
  pub record ComesToEnd (hist : History) (n : ℕ) (e : End) : Type 0 where
    pub history : History
    pub last : End
    pub way : Path h history n [] last
    pub passed : Pairs (WerePassedAlike Reads) hist history
    pub alike : AreAlikeEnds Reads e last

  -- where nothing is left, nothing is in the other one
  comes_last : (hist history : History) (n : ℕ) (left : List Instruction) (e last : End) → Path h history n left last → Pairs (WerePassedAlike Reads) hist history → Pairs (AreAlikeInstructions Reads) [] left → AreAlikeEnds Reads e last
      → ComesToEnd hist n e
  comes_last hist history n [] e last way passed all ends = record { history = history; last = last; way = way; passed = passed; alike = ends }
  comes_last hist history n (j ∷ left) e last way passed all ends = absurd all

  -- Each path to the end of a block comes to an end that is alike.
  pub path_to_end : (hist : History) (n : ℕ) (e : End) → Path g hist n [] e → ComesToEnd hist n e
  path_to_end hist n e way =
      let c = path_alike hist n [] e way in comes_last hist c.history n c.left e c.last c.way c.passed c.instructions c.ends
