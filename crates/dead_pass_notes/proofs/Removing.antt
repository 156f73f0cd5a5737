-- A valid graph behind the removal of dead assignments is the one before without some of its writes, with notes that name what there is.
use Rattle.std.proofs.Common.{◌≡◌, ◌≤◌, ℕ, Some, List, [], ◌∷◌, ◌++◌, length, refl}
use Rattle.std.specs.Prelude.{slice_get}
use Rattle.std.specs.List.{AllByRecursion}
use Rattle.event_runs.specs.Agreement.{Pairs}
use Rattle.places.specs.declared.flow.Assignment.{Assignment}
use Rattle.graph_core.specs.Graphs.{NoteValue, Instruction, Marker, Note, Move, Operate, Truncate, Same, Address, Load, Store, Zero, CopyWords, Call, End, Block, Graph, UnitForm, Logged}
use Rattle.graph_core.specs.Uses.{target_of}
use Rattle.graph_core.specs.Validity.{IsInstruction, IsBlock, IsGraph}
use Rattle.pass_law.specs.Kept.{EachFunction}
use Rattle.dead_pass_rule.specs.Idle.{IsIdle, idle}
use Rattle.dead_pass_rule.specs.Removing.{IsReduced, without}
use Rattle.dead_pass_notes.specs.Said.{SaysAs, noted, unreached, other, AreSaid, ends, gone, stays, SaysWhatItShall}
use Rattle.dead_pass_notes.specs.Thinned.{AreThinned, ends as thinned_ends, goes, forgets, says, stays as thinned_stays, IsThinnedBlock, IsThinned}
use Rattle.dead_pass_notes.proofs.Lists.{all_at, numbered_pairs}
use Rattle.dead_pass_notes.proofs.Naming.{MayBeSaid, still_said}
use Rattle.dead_pass_notes.proofs.NamedNotes.{said_names}

-- an instruction writes some name
abbrev WritesSome : Instruction → Type 0
WritesSome i = (x : ℕ) × (target_of i ≡ Some x)

-- What goes writes a name.
idle_writes : {assignments : List Assignment} → (g : Graph) (n : ℕ) (i : Instruction) (rest : List Instruction) (e : End) → IsIdle assignments g n (i ∷ rest) e → WritesSome i
idle_writes g n i rest e (idle {x} stands target may computed later) = (x, target)

module _ (MaySay : NoteValue → Type 0) where
  -- Of what writes a name there is left nothing, or a call without its target.
  write_thinned : (i : Instruction) (before after : List Instruction) → WritesSome i → AreThinned MaySay before after → AreThinned MaySay (i ∷ before) (without i ++ after)
  write_thinned (Marker p) before after writes later = cc
  write_thinned (Note x v) before after writes later = cc
  write_thinned (Move x a) before after writes later = goes refl later
  write_thinned (Operate x o a b) before after writes later = goes refl later
  write_thinned (Truncate x t a) before after writes later = goes refl later
  write_thinned (Same x a b) before after writes later = goes refl later
  write_thinned (Address x object) before after writes later = goes refl later
  write_thinned (Load x e l) before after writes later = goes refl later
  write_thinned (Store e l a) before after writes later = cc
  write_thinned (Zero object words) before after writes later = cc
  write_thinned (CopyWords object bytes words) before after writes later = cc
  write_thinned (Call x f all) before after writes later = forgets later

module _ {assignments : List Assignment} (u : UnitForm) (log : List Logged) (grown : length u.log ≤ length log) (g : Graph) (valid : IsGraph u g) where
  -- What is left of an instruction that stays is that instruction, or a note that names what there is.
  stay_thinned : (n : ℕ) (rest : List Instruction) (e : End) (i j : Instruction) (before after : List Instruction) → SaysAs assignments log g n rest e i j → IsInstruction u g i → AreThinned (MayBeSaid u log g) before after
      → AreThinned (MayBeSaid u log g) (i ∷ before) (j ∷ after)
  stay_thinned n rest e i j before after (noted {p} {x} {v} {w} reached stands said) h later = says (said_names u g valid p n (Note x v ∷ rest) e log x v w said (still_said u log grown g v h.1)) later
  stay_thinned n rest e i j before after (unreached none) h later = thinned_stays later
  stay_thinned n rest e i j before after (other plain) h later = thinned_stays later

  -- What is left of instructions are those before without some of their writes.
  instructions_thinned : (n : ℕ) (e : End) (is js : List Instruction) → AreSaid assignments log g n e is js → AllByRecursion (IsInstruction u g) is → AreThinned (MayBeSaid u log g) is js
  instructions_thinned n e is js ends h = thinned_ends
  instructions_thinned n e is js (gone {i} {rest} {after} go later) h =
      write_thinned (MayBeSaid u log g) i rest after (idle_writes g n i rest e go.idle) (instructions_thinned n e rest after later h.1)
  instructions_thinned n e is js (stays {i} {j} {rest} {after} keeps said later) h =
      stay_thinned n rest e i j rest after said h.0 (instructions_thinned n e rest after later h.1)

  -- So it is with the graph.
  graph_thinned : (h : Graph) → IsReduced assignments g h → SaysWhatItShall assignments log g h → IsThinned (MayBeSaid u log) g h
  graph_thinned h reduced said = record { rest = reduced.rest; blocks = numbered_pairs (IsThinnedBlock (MayBeSaid u log g)) g.blocks h.blocks reduced.count block_thinned }
    where
      block_thinned : (n : ℕ) (b c : Block) → slice_get g.blocks n ≡ Some b → slice_get h.blocks n ≡ Some c → IsThinnedBlock (MayBeSaid u log g) b c
      block_thinned n b c at there =
          let s = reduced.blocks n b c at there in
          let block : IsBlock u g b = all_at (IsBlock u g) g.blocks n b valid.blocks at in
          record { place = s.place; end = s.end; instructions = instructions_thinned n b.end b.instructions c.instructions (said.notes n b c at there) block.instructions }

-- So it is with all graphs of a valid unit.
pub graphs_thinned : (assignments : List Assignment) (u : UnitForm) (log : List Logged) → length u.log ≤ length log → (gs hs : List Graph) → AllByRecursion (IsGraph u) gs → EachFunction (IsReduced assignments) gs hs → EachFunction (SaysWhatItShall assignments log) gs hs → Pairs (IsThinned (MayBeSaid u log)) gs hs
graphs_thinned assignments u log grown [] [] valid reduced said = tt
graphs_thinned assignments u log grown [] (h ∷ hs) valid reduced said = absurd reduced
graphs_thinned assignments u log grown (g ∷ gs) [] valid reduced said = absurd reduced
graphs_thinned assignments u log grown (g ∷ gs) (h ∷ hs) valid reduced said = (graph_thinned u log grown g valid.0 h reduced.0 said.0, graphs_thinned assignments u log grown gs hs valid.1 reduced.1 said.1)
