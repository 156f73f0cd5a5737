-- What notes say where assignments go (Hennessy 1982).
use Rattle.std.specs.Prelude.{◌≡◌, ◌≢◌, ℕ, ◌+◌, ◌≤◌, Some, List, [], ◌∷◌, ◌++◌, slice_get}
use Rattle.word_base.specs.declared.operation.Operation.{Operation}
use Rattle.word_base.specs.declared.operation.Truncation.{Truncation}
use Rattle.places.specs.declared.flow.Assignment.{Assignment}
use Rattle.graph_core.specs.Bounds.{most_depth}
use Rattle.graph_core.specs.Graphs.{Operand, Name, Constant, StaticAddress, Recipe, Of, Truncated, Operated, NoteValue, Is, Gone, Instruction, Note, Move, Operate, Truncate, End, Block, Graph, Logged}
use Rattle.graph_core.specs.Uses.{target_of, names_in}
use Rattle.graph_core.specs.Paths.{Among}
use Rattle.graph_core.specs.Points.{StandsWith, assignments_in}
use Rattle.graph_core.specs.Validity.{depth_of}
use Rattle.graph_core.specs.WellMarked.{IsLocal, IsVariable}
use Rattle.dead_pass_rule.specs.Idle.{Goes}
use Rattle.dead_pass_rule.specs.Removing.{without}
use Rattle.graph_paths.specs.Reached.{IsReached}
use Rattle.dead_pass_notes.specs.Between.{IsWrittenBetween}
use Rattle.dead_pass_writes.specs.Removals.{IsRemoval, IsFirstRemoval, IsLastRemoval}
use Rattle.dead_pass_notes.specs.Stale.{ComesStale}

-- The one assignment of a scalar in a place goes.
pub record IsDropped (assignments : List Assignment) (g : Graph) (p x : ℕ) : Type 0 where
  pub n : ℕ
  pub instruction : Instruction
  pub rest : List Instruction
  pub end : End
  pub stands : StandsWith g p n (instruction ∷ rest) end
  pub target : target_of instruction ≡ Some x
  pub once : assignments_in g p x ≡ 1
  pub goes : Goes assignments g n (instruction ∷ rest) end

-- At a point of a graph, in this place, where these instructions are left of a block: a note, and what stands behind
-- it.
module _ (g : Graph) (p k : ℕ) (note : List Instruction) (last : End) where
  -- A temporary that code motion did not make is written once in the place of the note: by this instruction, with these
  -- behind it.
  pub record IsDefinition (t n : ℕ) (rest : List Instruction) (e : End) (i : Instruction) : Type 0 where
    pub local : IsLocal g t
    pub once : assignments_in g p t ≡ 1
    pub stands : StandsWith g p n (i ∷ rest) e
    pub target : target_of i ≡ Some t

-- The same, in a unit with these assignments.
module _ (assignments : List Assignment) (g : Graph) (p k : ℕ) (note : List Instruction) (last : End) where
  -- What an operand gives, that is read by an instruction behind which these stand, as it is computed at the note: a
  -- constant and an address by themselves; a name by itself, where it has no value there that the pass took from it,
  -- and no way from there to the note within the place has a write of it that stays; and a temporary that code motion
  -- did not make by what its one definition in the place computes.
  pub data IsRecipe : (n : ℕ) → (rest : List Instruction) → (e : End) → Operand → Recipe → Type 0 where
    constant : {n : ℕ} {rest : List Instruction} {e : End} {w : ℕ} → IsRecipe n rest e (Constant w) (Of (Constant w))
    address : {n : ℕ} {rest : List Instruction} {e : End} {object offset : ℕ}
        → IsRecipe n rest e (StaticAddress object offset) (Of (StaticAddress object offset))
    name : {n : ℕ} {rest : List Instruction} {e : End} {y : ℕ} → (IsLocal g y → ⊥)
        → (ComesStale assignments g y k note last → ⊥) → (IsWrittenBetween assignments g k note y n rest e → ⊥)
        → IsRecipe n rest e (Name y) (Of (Name y))
    moved : {n m t : ℕ} {rest more : List Instruction} {e f : End} {x : ℕ} {a : Operand} {r : Recipe}
        → IsDefinition g p k note last t m more f (Move x a) → IsRecipe m more f a r → IsRecipe n rest e (Name t) r
    truncated : {n m t : ℕ} {rest more : List Instruction} {e f : End} {x : ℕ} {at : Truncation} {a : Operand}
        {r : Recipe}
        → IsDefinition g p k note last t m more f (Truncate x at a) → IsRecipe m more f a r
        → IsRecipe n rest e (Name t) (Truncated at r)
    operated : {n m t : ℕ} {rest more : List Instruction} {e f : End} {x : ℕ} {o : Operation} {a b : Operand}
        {r s : Recipe}
        → IsDefinition g p k note last t m more f (Operate x o a b) → IsRecipe m more f a r → IsRecipe m more f b s
        → IsRecipe n rest e (Name t) (Operated o r s)

  -- The recipe of what an instruction computes, behind which these stand. Loads, calls, addresses of automatic objects
  -- and equalities of pointers have none.
  pub data IsRightSide (n : ℕ) (rest : List Instruction) (e : End) : Instruction → Recipe → Type 0 where
    moved : {x : ℕ} {a : Operand} {r : Recipe} → IsRecipe n rest e a r → IsRightSide n rest e (Move x a) r
    truncated : {x : ℕ} {at : Truncation} {a : Operand} {r : Recipe} → IsRecipe n rest e a r
        → IsRightSide n rest e (Truncate x at a) (Truncated at r)
    operated : {x : ℕ} {o : Operation} {a b : Operand} {r s : Recipe} → IsRecipe n rest e a r → IsRecipe n rest e b s
        → IsRightSide n rest e (Operate x o a b) (Operated o r s)

  -- The recipe of that assignment, if it is not too deep.
  pub record IsRecipeOf (x : ℕ) (r : Recipe) : Type 0 where
    pub dropped : IsDropped assignments g p x
    pub right : IsRightSide dropped.n dropped.rest dropped.end dropped.instruction r
    pub shallow : depth_of r ≤ most_depth

-- The log behind the pass, and the graph before.
module _ (log : List Logged) (g : Graph) where
  -- No change of the log removed an assignment of the scalar in the place.
  abbrev pub WasNeverRemoved : (p x : ℕ) → Type 0
  WasNeverRemoved p x = (variable number : ℕ) → IsVariable g x variable → IsRemoval log p variable number → ⊥

-- The same, in a unit with these assignments.
module _ (assignments : List Assignment) (log : List Logged) (g : Graph) where
  -- A note of another's recipe, of which a name has a value that the pass took from it: the assignment that it tells of
  -- went before.
  pub record IsLost (k : ℕ) (note : List Instruction) (last : End) (x : ℕ) (v : NoteValue) : Type 0 where
    pub r : Recipe
    pub is : v ≡ Is r
    pub other : r ≢ Of (Name x)
    pub y : ℕ
    pub named : Among y (names_in r)
    pub stale : ComesStale assignments g y k note last

  -- WHAT A NOTE SAYS that a path comes to, in a place, where it said this. Of an assignment that goes it says the
  -- recipe; or where there is none that the value is gone by the last change that removed one of its variable there,
  -- which is that of this pass. A note of an assignment that went before, with a name in its recipe that is stale now,
  -- says that the value is gone by the first change that removed one. Each other says what it said.
  pub data IsSaid (p k x : ℕ) (v : NoteValue) (note : List Instruction) (last : End) : NoteValue → Type 0 where
    recipe : {r : Recipe} → IsRecipeOf assignments g p k note last x r → IsSaid p k x v note last (Is r)
    gone : {variable number : ℕ} → IsDropped assignments g p x
        → ((r : Recipe) → IsRecipeOf assignments g p k note last x r → ⊥) → IsVariable g x variable
        → IsLastRemoval log p variable number → IsSaid p k x v note last (Gone number)
    unlogged : IsDropped assignments g p x → ((r : Recipe) → IsRecipeOf assignments g p k note last x r → ⊥)
        → WasNeverRemoved log g p x → IsSaid p k x v note last v
    lost : {variable number : ℕ} → (IsDropped assignments g p x → ⊥) → IsLost k note last x v → IsVariable g x variable
        → IsFirstRemoval log p variable number → IsSaid p k x v note last (Gone number)
    unlost : (IsDropped assignments g p x → ⊥) → IsLost k note last x v → WasNeverRemoved log g p x
        → IsSaid p k x v note last v
    stays : (IsDropped assignments g p x → ⊥) → (IsLost k note last x v → ⊥) → IsSaid p k x v note last v

  -- What is left of an instruction that stays: of a note that a path comes to a note that says what it shall, and else
  -- itself.
  pub data SaysAs (n : ℕ) (rest : List Instruction) (e : End) : Instruction → Instruction → Type 0 where
    noted : {p x : ℕ} {v w : NoteValue} → IsReached g n (Note x v ∷ rest) e → StandsWith g p n (Note x v ∷ rest) e
        → IsSaid p n x v (Note x v ∷ rest) e w → SaysAs n rest e (Note x v) (Note x w)
    unreached : {i : Instruction} → (IsReached g n (i ∷ rest) e → ⊥) → SaysAs n rest e i i
    other : {i : Instruction} → ((x : ℕ) (v : NoteValue) → i ≢ Note x v) → SaysAs n rest e i i

  -- The notes of a block, in the order of its instructions.
  pub data AreSaid (n : ℕ) (e : End) : (before after : List Instruction) → Type 0 where
    ends : AreSaid n e [] []
    gone : {i : Instruction} {rest after : List Instruction} → Goes assignments g n (i ∷ rest) e
        → AreSaid n e rest after → AreSaid n e (i ∷ rest) (without i ++ after)
    stays : {i j : Instruction} {rest after : List Instruction} → (Goes assignments g n (i ∷ rest) e → ⊥)
        → SaysAs n rest e i j → AreSaid n e rest after → AreSaid n e (i ∷ rest) (j ∷ after)

  -- THE RULE OF NOTES, for a graph before and after the removal of dead assignments.
  pub record SaysWhatItShall (h : Graph) : Type 0 where
    pub notes : (n : ℕ) (b c : Block) → slice_get g.blocks n ≡ Some b → slice_get h.blocks n ≡ Some c
        → AreSaid n b.end b.instructions c.instructions
