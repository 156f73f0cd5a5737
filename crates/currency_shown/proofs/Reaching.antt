-- Which points paths come to as a chain is walked over.
use Rattle.std.proofs.Common.{◌≡◌, ℕ, ◌+◌, ◌<◌, Some, None, Option, List, [], ◌∷◌, ◌++◌, length, map, drop, get_or, refl, sym, ap, ◌∙◌, subst, append-nil}
use Rattle.std.specs.Prelude.{slice_get}
use Rattle.graph_core.specs.declared.instruction.Instr as declared-instr
use Rattle.graph_core.specs.declared.value.Value.TheVariants.{Odd}
use Rattle.std.proofs.lemmas.Option.{none-some, same_Some}
use Rattle.graph_core.specs.Graphs.{Block, End, Graph, Instruction, Marker, Note, Move, Operate, Truncate, Same, Address, Load, Store, Zero, CopyWords, Call, instruction_view}
use Rattle.graph_core.specs.Uses.{marker_of}
use Rattle.graph_paths.specs.Reached.{IsReached}
use Rattle.graph_paths.proofs.Points.{reached_along, reached_behind}
use Rattle.currency_notes.proofs.Lists.{drop_more}
use Rattle.currency_shown.specs.Found.{IsPlaceReached}
use Rattle.currency_shown.specs.Survey.{IsSomewhere}

-- an instruction that marks a place is its marker
pub marker_tells : (i : Instruction) (p : ℕ) → Some p ≡ marker_of i → i ≡ Marker p
marker_tells (Marker q) p e = ap Marker (same_Some q p (sym e))
marker_tells (Move x a) p e = absurd (none-some p (sym e))
marker_tells (Operate x o l r) p e = absurd (none-some p (sym e))
marker_tells (Truncate x t a) p e = absurd (none-some p (sym e))
marker_tells (Same x l r) p e = absurd (none-some p (sym e))
marker_tells (Address x n) p e = absurd (none-some p (sym e))
marker_tells (Load x k l) p e = absurd (none-some p (sym e))
marker_tells (Store k l a) p e = absurd (none-some p (sym e))
marker_tells (Zero n w) p e = absurd (none-some p (sym e))
marker_tells (CopyWords n b w) p e = absurd (none-some p (sym e))
marker_tells (Call x f all) p e = absurd (none-some p (sym e))
marker_tells (Note x v) p e = absurd (none-some p (sym e))

module _ (g : Graph) where
  -- where a block is reached its end is
  pub reached_at_end : (n : ℕ) (instructions : List Instruction) (e : End) → IsReached g n instructions e → IsReached g n [] e
  reached_at_end n instructions e here = reached_along n instructions [] e (subst (λ l. IsReached g n l e) (sym (append-nil instructions)) here)

  -- instructions that are left of a block: the next of them stands there, and then one fewer is left
  module _ (items : List declared-instr.Instr) (i : ℕ) (item : declared-instr.Instr) (lt : i < length items) (is : item ≡ get_or items i item) (e : End) (here : IsSomewhere g (map instruction_view (drop i items)) e) where
    next_is : IsSomewhere g (instruction_view item ∷ map instruction_view (drop (i + 1) items)) e
    next_is = subst (λ (l : List declared-instr.Instr). IsSomewhere g (map instruction_view l) e) (drop_more items i item lt is) here

    pub marker_reached : (p : ℕ) → instruction_view item ≡ Marker p → IsPlaceReached g p
    marker_reached p marks = record {
      block = next_is.0;
      rest = map instruction_view (drop (i + 1) items);
      end = e;
      reached = subst (λ (one : Instruction). IsReached g next_is.0 (one ∷ map instruction_view (drop (i + 1) items)) e) marks next_is.1;
    }

    pub later_reached : IsSomewhere g (map instruction_view (drop (i + 1) items)) e
    later_reached = (next_is.0, reached_behind next_is.1 Odd)
