-- Graphs that are alike but for the names that they read: where the one reads a name, the other reads that name too, or
-- both names are scalars.
use Rattle.std.specs.Prelude.{◌≡◌, ℕ, ◌<◌, Option, Some, None, List, length}
use Rattle.word_base.specs.declared.operation.Operation.{Operation}
use Rattle.word_base.specs.declared.operation.Truncation.{Truncation}
use Rattle.event_runs.specs.Agreement.{Pairs}
use Rattle.graph_core.specs.declared.instruction.Element.{Element}
use Rattle.graph_core.specs.declared.instruction.Callee.{Callee}
use Rattle.graph_core.specs.declared.block.Comparison.{Comparison}
use Rattle.graph_core.specs.Graphs.{Operand, Name, Constant, StaticAddress, NoteValue, Location, Automatic, Static, At, Instruction, Marker, Note, Move, Operate, Truncate, Same, Address, Load, Store, Zero, CopyWords, Call, End, Jump, Branch, Return, Block, Graph}

-- What is read for a name: the name itself, or a scalar for a scalar. The names below this number are the scalars.
pub data IsReadFor (scalars x : ℕ) : (read : ℕ) → Type 0 where
  itself : IsReadFor scalars x x
  a_scalar : {y : ℕ} → x < scalars → y < scalars → IsReadFor scalars x y

module _ (Reads : (x read : ℕ) → Type 0) where
  -- Operands are alike: what the second reads may be read for what the first reads.
  pub data AreAlikeOperands : Operand → Operand → Type 0 where
    name : {x y : ℕ} → Reads x y → AreAlikeOperands (Name x) (Name y)
    constant : {word : ℕ} → AreAlikeOperands (Constant word) (Constant word)
    static_address : {object offset : ℕ} → AreAlikeOperands (StaticAddress object offset) (StaticAddress object offset)

  -- Locations are alike.
  pub data AreAlikeLocations : Location → Location → Type 0 where
    automatic : {object offset : ℕ} → AreAlikeLocations (Automatic object offset) (Automatic object offset)
    static_object : {object : ℕ} → AreAlikeLocations (Static object) (Static object)
    where_it_points : {a b : Operand} → AreAlikeOperands a b → AreAlikeLocations (At a) (At b)

  -- Instructions are alike: they do the same and write the same name, and their operands are alike.
  pub data AreAlikeInstructions : Instruction → Instruction → Type 0 where
    marker : {p : ℕ} → AreAlikeInstructions (Marker p) (Marker p)
    note : {x : ℕ} {v : NoteValue} → AreAlikeInstructions (Note x v) (Note x v)
    move : {x : ℕ} {a b : Operand} → AreAlikeOperands a b → AreAlikeInstructions (Move x a) (Move x b)
    operate : {x : ℕ} {o : Operation} {a b c d : Operand} → AreAlikeOperands a c → AreAlikeOperands b d
        → AreAlikeInstructions (Operate x o a b) (Operate x o c d)
    truncate : {x : ℕ} {t : Truncation} {a b : Operand} → AreAlikeOperands a b
        → AreAlikeInstructions (Truncate x t a) (Truncate x t b)
    same : {x : ℕ} {a b c d : Operand} → AreAlikeOperands a c → AreAlikeOperands b d
        → AreAlikeInstructions (Same x a b) (Same x c d)
    address : {x object : ℕ} → AreAlikeInstructions (Address x object) (Address x object)
    load : {x : ℕ} {e : Element} {l m : Location} → AreAlikeLocations l m
        → AreAlikeInstructions (Load x e l) (Load x e m)
    store : {e : Element} {l m : Location} {a b : Operand} → AreAlikeLocations l m → AreAlikeOperands a b
        → AreAlikeInstructions (Store e l a) (Store e m b)
    zero_words : {object words : ℕ} → AreAlikeInstructions (Zero object words) (Zero object words)
    copy_words : {object bytes words : ℕ}
        → AreAlikeInstructions (CopyWords object bytes words) (CopyWords object bytes words)
    call : {x : Option ℕ} {f : Callee} {all others : List Operand} → Pairs AreAlikeOperands all others
        → AreAlikeInstructions (Call x f all) (Call x f others)

  -- The ends of blocks are alike: they lead to the same blocks by the same comparison, and their operands are alike.
  pub data AreAlikeEnds : End → End → Type 0 where
    jump : {l : ℕ} → AreAlikeEnds (Jump l) (Jump l)
    branch : {k : Comparison} {a b c d : Operand} {l m : ℕ} → AreAlikeOperands a c → AreAlikeOperands b d
        → AreAlikeEnds (Branch k a b l m) (Branch k c d l m)
    return_none : AreAlikeEnds (Return None) (Return None)
    return_some : {a b : Operand} → AreAlikeOperands a b → AreAlikeEnds (Return (Some a)) (Return (Some b))

  -- Blocks are alike: they keep one place, and their instructions, one by one, and their ends are alike.
  pub record AreAlikeBlocks (b c : Block) : Type 0 where
    pub place : c.place ≡ b.place
    pub instructions : Pairs AreAlikeInstructions b.instructions c.instructions
    pub end : AreAlikeEnds b.end c.end

-- Graphs are alike: their blocks are, one by one, where a name is read for itself or a scalar for a scalar, and all
-- else is the same.
pub record AreAlike (g h : Graph) : Type 0 where
  pub rest : h ≡ record g { blocks = h.blocks }
  pub blocks : Pairs (AreAlikeBlocks (IsReadFor (length g.scalars))) g.blocks h.blocks
