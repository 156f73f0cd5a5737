-- A point of a function before code motion, and the point of the same function after it.
use Rattle.std.proofs.Common.{◌≡◌, ℕ, ◌+◌, Bool, Option, Some, None, List, ◌++◌, length, ap, ◌∙◌, subst, arith}
use Rattle.std.specs.Prelude.{slice_get}
use Rattle.std.specs.List.{AllByRecursion}
use Rattle.graph_core.specs.declared.value.Value.{Value}
use Rattle.graph_core.specs.Graphs.{Name, Instruction, Move, End, Block, Graph, UnitForm}
use Rattle.graph_core.specs.Computations.{Computation, computed_by}
use Rattle.graph_core.specs.Uses.{target_of}
use Rattle.graph_core.specs.Validity.{IsInstruction, AreOperandsOfEnd, IsGraph, place_at_end}
use Rattle.graph_core.specs.Runs.{with_value_at}
use Rattle.motion_pass_points.specs.Ways.{within, IsCome}
use Rattle.motion_pass_placement.specs.Moving.{AreMoved, IsEnd, IsMovedBlock, IsMoved}
use Rattle.motion_pass_laws.proofs.Blocks.{IsFound, found, as_many, at_left, at_right}
use Rattle.motion_pass_laws.proofs.Carried.{AreCarried}
use Rattle.motion_pass_laws.proofs.Quiet.{moved_graph}

module _ (u : UnitForm) (g : Graph) (count : ℕ) (blocks : List Block) where
  -- An activation of a function whose code was moved has come to a point: these instructions are left before, and after, with the end of the block before and after; and the names there carry what is ready.
  pub record IsMovedAt (live : ℕ → Bool) (names others : ℕ → Value) (before after : List Instruction) (end later : End) : Type 0 where
    pub made : IsMoved g (moved_graph g count blocks)
    pub valid : IsGraph u g
    pub number : ℕ
    pub come : IsCome g.blocks (within number before end)
    pub moved : List Instruction
    pub instructions : AreMoved g.blocks g.name_count made.treated number end before moved
    pub done : List Instruction
    pub place : Option ℕ
    pub next : ℕ
    pub own : List Block
    pub ends : IsEnd g.blocks g.name_count made.treated number place next end done later own
    pub are : after ≡ moved ++ done
    pub own_stand : (j : ℕ) (x : Block) → slice_get own j ≡ Some x → slice_get blocks (next + j) ≡ Some x
    pub carried : AreCarried u g valid live names made.treated (within number before end) others

  -- what became of a block of the function
  pub record IsMovedTo (made : IsMoved g (moved_graph g count blocks)) (number : ℕ) (b : Block) : Type 0 where
    pub block : Block
    pub stands : slice_get blocks number ≡ Some block
    pub next : ℕ
    pub own : List Block
    pub moved : IsMovedBlock g.blocks g.name_count made.treated number next b block own
    pub own_stand : (j : ℕ) (x : Block) → slice_get own j ≡ Some x → slice_get blocks (next + j) ≡ Some x

  -- Each block became one, and the blocks on its edges stand behind all these.
  pub moved_to : (made : IsMoved g (moved_graph g count blocks)) (number : ℕ) (b : Block) → slice_get g.blocks number ≡ Some b → IsMovedTo made number b
  moved_to made number b at = record {
    block = f.block;
    stands = ap (λ xs. slice_get xs number) made.are ∙ at_left made.moved made.own number f.block f.stands;
    next = length g.blocks + f.offset;
    own = f.others;
    moved = subst (λ m. IsMovedBlock g.blocks g.name_count made.treated m (length g.blocks + f.offset) b f.block f.others) from f.moved;
    own_stand = λ j x own_at. ap (λ xs. slice_get xs ((length g.blocks + f.offset) + j)) made.are ∙ at_right made.moved made.own (f.offset + j) ((length g.blocks + f.offset) + j) (further j) ∙ f.own_stand j x own_at;
  }
    where
      f : IsFound g.blocks g.name_count made.treated (0 + number) (length g.blocks) b made.moved made.own number
      f = found g.blocks g.name_count made.treated 0 (length g.blocks) g.blocks made.moved made.own made.blocks number b at

      from : 0 + number ≡ number
      from = omega (arith)

      further : (j : ℕ) → (length g.blocks + f.offset) + j ≡ length made.moved + (f.offset + j)
      further j = (let same = as_many g.blocks g.name_count made.treated 0 (length g.blocks) g.blocks made.moved made.own made.blocks in omega (arith, same))

  -- The beginning of a block that control comes to.
  pub at_block : (made : IsMoved g (moved_graph g count blocks)) (valid : IsGraph u g) (live : ℕ → Bool) (names others : ℕ → Value) (number : ℕ) (b : Block) → IsCome g.blocks (within number b.instructions b.end)
      → AreCarried u g valid live names made.treated (within number b.instructions b.end) others → (to : IsMovedTo made number b) → IsMovedAt live names others b.instructions to.block.instructions b.end to.block.end
  at_block made valid live names others number b come carried to = record {
    made = made;
    valid = valid;
    number = number;
    come = come;
    moved = to.moved.moved;
    instructions = to.moved.instructions;
    done = to.moved.done;
    place = place_at_end b;
    next = to.next;
    own = to.own;
    ends = to.moved.end;
    are = to.moved.are;
    own_stand = to.own_stand;
    carried = carried;
  }

-- THE POINTS FIT: the function was left as it was, and the same names are at the same point; or its code was moved.
pub data Fits (u : UnitForm) (g : Graph) : (count : ℕ) (blocks : List Block) (live : ℕ → Bool) (names others : ℕ → Value) (before after : List Instruction) (end later : End) → Type 0 where
  left : {live : ℕ → Bool} {names : ℕ → Value} {rest : List Instruction} {end : End} → IsGraph u g → AllByRecursion (IsInstruction u g) rest → AreOperandsOfEnd u.statics g end
      → Fits u g g.name_count g.blocks live names names rest rest end end
  moved : {count : ℕ} {blocks : List Block} {live : ℕ → Bool} {names others : ℕ → Value} {before after : List Instruction} {end later : End} → IsMovedAt u g count blocks live names others before after end later
      → Fits u g count blocks live names others before after end later

-- They fit behind an instruction or a call that writes no name, and behind one that writes a value to a name.
pub record GoesOn (u : UnitForm) (g : Graph) (count : ℕ) (blocks : List Block) (live : ℕ → Bool) (names others : ℕ → Value) (target : Option ℕ) (before after : List Instruction) (end later : End) : Type 0 where
  pub passed : target ≡ None → Fits u g count blocks live names others before after end later
  pub written : (x : ℕ) (w : Value) → target ≡ Some x → Fits u g count blocks live (with_value_at names x w) (with_value_at others x w) before after end later

-- An instruction after does what one before does: it is the same, or it reads a temporary that has the value of its computation.
pub data Acts (worth_of : Computation → Value) (others : ℕ → Value) (i : Instruction) : Instruction → Type 0 where
  itself : Acts worth_of others i i
  reads_temporary : (e : Computation) (x t : ℕ) → computed_by i ≡ Some e → target_of i ≡ Some x → others t ≡ worth_of e → Acts worth_of others i (Move x (Name t))
