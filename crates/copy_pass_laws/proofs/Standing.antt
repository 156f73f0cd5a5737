-- What stands in a place of a graph, and how ways come to markers, is so in one that is alike.
use Rattle.std.proofs.Common.{◌≡◌, ℕ, Option, List, [], ◌∷◌, sym, ap, ◌∙◌, subst}
use Rattle.event_runs.specs.Agreement.{Pairs}
use Rattle.graph_core.specs.Graphs.{Operand, Instruction, Marker, End, Return, Block, Graph}
use Rattle.graph_core.specs.Paths.{Among, writes, is_bound}
use Rattle.graph_core.specs.Validity.{place_behind}
use Rattle.graph_core.specs.WellMarked.{StandsIn, here, behind, InPlace, ComesToMarker, at_marker, on, leaves, goes, WrittenIn, instruction, bound}
use Rattle.copy_pass_rule.specs.Alike.{AreAlikeInstructions, AreAlikeEnds, AreAlikeBlocks}
use Rattle.copy_pass_rule.proofs.Shapes.{same_behind, same_targets}
use Rattle.copy_pass_laws.proofs.CopyMarksLists.{pairs_after, pairs_turned}
use Rattle.copy_pass_laws.proofs.Instructions.{alike_writes, alike_return, only_marker, instructions_turned, ends_turned}

module _ (Reads : (x read : ℕ) → Type 0) where
  -- ---- Blocks

  module _ (turned : (x y : ℕ) → Reads x y → Reads y x) where
    -- Blocks that are alike are so in either order, where what is read for names is.
    pub block_turned : (b c : Block) → AreAlikeBlocks Reads b c → AreAlikeBlocks Reads c b
    block_turned b c a = record {
      place = sym a.place;
      instructions = pairs_turned (AreAlikeInstructions Reads) (instructions_turned Reads turned) b.instructions c.instructions a.instructions;
      end = ends_turned Reads turned b.end c.end a.end;
    }

    -- So are all blocks.
    pub blocks_turned : (bs cs : List Block) → Pairs (AreAlikeBlocks Reads) bs cs → Pairs (AreAlikeBlocks Reads) cs bs
    blocks_turned bs cs all = pairs_turned (AreAlikeBlocks Reads) block_turned bs cs all

  -- ---- Places

  -- An instruction that is alike stands in a place, among these.
  record StandsAlike (p : ℕ) (i : Instruction) (place : Option ℕ) (all : List Instruction) : Type 0 where
    other : Instruction
    alike : AreAlikeInstructions Reads i other
    stands : StandsIn p other place all

  -- behind an instruction more
  stands_later : (p : ℕ) (i j k : Instruction) (place : Option ℕ) (more : List Instruction) → AreAlikeInstructions Reads j k → StandsAlike p i (place_behind (j ∷ []) place) more → StandsAlike p i place (k ∷ more)
  stands_later p i j k place more alike s = record {
    other = s.other;
    alike = s.alike;
    stands = behind (subst (λ q. StandsIn p s.other q more) (sym (same_behind Reads (j ∷ []) (k ∷ []) (alike, tt) place)) s.stands);
  }

  -- What stands in a place among instructions stands alike among instructions that are alike.
  stands_alike : {p : ℕ} {i : Instruction} {place : Option ℕ} {all : List Instruction} → StandsIn p i place all → (others : List Instruction) → Pairs (AreAlikeInstructions Reads) all others → StandsAlike p i place others
  stands_alike here [] alike = absurd alike
  stands_alike here (j ∷ others) alike = record { other = j; alike = alike.0; stands = here }
  stands_alike (behind s) [] alike = absurd alike
  stands_alike {p = p} {i = i} {place = place} (behind {j = j} s) (k ∷ others) alike = stands_later p i j k place others alike.0 (stands_alike s others alike.1)

  module _ (g h : Graph) (blocks : Pairs (AreAlikeBlocks Reads) g.blocks h.blocks) where
    -- An instruction that is alike stands in a place of the other graph.
    pub record IsInPlaceAlike (p : ℕ) (i : Instruction) : Type 0 where
      pub other : Instruction
      pub alike : AreAlikeInstructions Reads i other
      pub stands : InPlace h p other

    -- What stands in a place of the graph stands alike in the other one.
    pub in_place_alike : (p : ℕ) (i : Instruction) → InPlace g p i → IsInPlaceAlike p i
    in_place_alike p i at =
        let found = pairs_after (AreAlikeBlocks Reads) g.blocks h.blocks blocks at.number at.block at.is in
        let s = stands_alike at.stands found.0.instructions found.2.instructions in
        record {
          other = s.other;
          alike = s.alike;
          stands = record {
            number = at.number;
            block = found.0;
            is = found.1;
            stands = subst (λ q. StandsIn p s.other q found.0.instructions) (sym found.2.place) s.stands;
          };
        }

    -- What is written in a place is written there in the other graph, where the entry and the parameters are the same.
    pub written_alike : h.entry ≡ g.entry → h.parameters ≡ g.parameters → (p x : ℕ) → WrittenIn g p x → WrittenIn h p x
    written_alike entry parameters p x (instruction i at writes) =
        let s = in_place_alike p i at in instruction s.other s.stands (alike_writes Reads x s.alike ∙ writes)
    written_alike entry parameters p x (bound is binds) = bound (is ∙ sym entry) (ap (λ ps. is_bound x ps) parameters ∙ binds)

    -- ---- Ways to markers

    -- what is alike to a marker is one
    marker_first : {p : ℕ} (j : Instruction) (others : List Instruction) (f : End) → AreAlikeInstructions Reads (Marker p) j → ComesToMarker h (j ∷ others) f
    marker_first {p = p} j others f alike = subst (λ i. ComesToMarker h (i ∷ others) f) (sym (only_marker Reads j alike)) at_marker

    -- what is alike to a return leaves the function
    leaves_alike : (f : End) (a : Option Operand) → AreAlikeEnds Reads (Return a) f → ComesToMarker h [] f
    leaves_alike f a alike = let r = alike_return Reads alike in subst (λ e. ComesToMarker h [] e) (sym r.1) leaves

    module _ (turned : (x y : ℕ) → Reads x y → Reads y x) where
      -- Where each way comes to a marker or to an end of the function, each way of the other graph does.
      pub comes_alike : {rest : List Instruction} {e : End} → ComesToMarker g rest e → (others : List Instruction) (f : End) → Pairs (AreAlikeInstructions Reads) rest others → AreAlikeEnds Reads e f → ComesToMarker h others f
      comes_alike at_marker [] f all ends = absurd all
      comes_alike at_marker (j ∷ others) f all ends = marker_first j others f all.0
      comes_alike (on c) [] f all ends = absurd all
      comes_alike (on c) (j ∷ others) f all ends = on (comes_alike c others f all.1 ends)
      comes_alike leaves (j ∷ others) f all ends = absurd all
      comes_alike (leaves {a = a}) [] f all ends = leaves_alike f a ends
      comes_alike (goes next) (j ∷ others) f all ends = absurd all
      comes_alike {e = e} (goes next) [] f all ends =
          goes (λ l c among at.
          (let found = pairs_after (AreAlikeBlocks Reads) h.blocks g.blocks (blocks_turned turned g.blocks h.blocks blocks) l c at in
          let back = block_turned turned c found.0 found.2 in
          comes_alike (next l found.0 (subst (λ ls. Among l ls) (same_targets Reads e f ends) among) found.1) c.instructions c.end back.instructions back.end))
