-- What copy propagation makes of a graph (Aho, Lam, Sethi and Ullman 2006, section 9.1).
use Rattle.std.specs.Prelude.{◌≡◌, ◌≢◌, ℕ, Some, None, List, [], ◌∷◌, length, slice_get}
use Rattle.graph_core.specs.Graphs.{Operand, Name, Constant, StaticAddress, Location, Automatic, Static, At, Instruction, Marker, Note, Move, Operate, Truncate, Same, Address, Load, Store, Zero, CopyWords, Call, End, Jump, Branch, Return, Block, Scalar, Graph}
use Rattle.graph_core.specs.Uses.{reads_of, reads_of_end}
use Rattle.graph_core.specs.Paths.{History, Among, Path}
use Rattle.graph_paths.specs.Reached.{IsReached}
use Rattle.pass_law.specs.Earned.{IsCopiedAt}

module _ (read_as : ℕ → ℕ) where
  -- an operand that reads for its name what that is read as
  abbrev pub reading_operand : Operand → Operand
  reading_operand (Name x) = Name (read_as x)
  reading_operand (Constant word) = Constant word
  reading_operand (StaticAddress object offset) = StaticAddress object offset

  -- operands, each led back through the copies
  abbrev pub reading_all : List Operand → List Operand
  reading_all [] = []
  reading_all (a ∷ more) = reading_operand a ∷ reading_all more

  -- a location of which the address is led back through the copies
  abbrev pub reading_at : Location → Location
  reading_at (Automatic object offset) = Automatic object offset
  reading_at (Static object) = Static object
  reading_at (At a) = At (reading_operand a)

  -- An instruction that reads, for each name, what that is read as. It writes what it wrote.
  abbrev pub reading : Instruction → Instruction
  reading (Marker p) = Marker p
  reading (Note x v) = Note x v
  reading (Move x a) = Move x (reading_operand a)
  reading (Operate x o a b) = Operate x o (reading_operand a) (reading_operand b)
  reading (Truncate x t a) = Truncate x t (reading_operand a)
  reading (Same x a b) = Same x (reading_operand a) (reading_operand b)
  reading (Address x object) = Address x object
  reading (Load x e l) = Load x e (reading_at l)
  reading (Store e l a) = Store e (reading_at l) (reading_operand a)
  reading (Zero object words) = Zero object words
  reading (CopyWords object bytes words) = CopyWords object bytes words
  reading (Call x f all) = Call x f (reading_all all)

  -- the end of a block that reads, for each name, what that is read as
  abbrev pub reading_end : End → End
  reading_end (Jump l) = Jump l
  reading_end (Branch c a b l m) = Branch c (reading_operand a) (reading_operand b) l m
  reading_end (Return None) = Return None
  reading_end (Return (Some a)) = Return (Some (reading_operand a))

-- Two names are scalars of one C type, and not the same.
pub record AreOfOneType (scalars : List Scalar) (x y : ℕ) : Type 0 where
  pub target : Scalar
  pub source : Scalar
  pub target_is : slice_get scalars x ≡ Some target
  pub source_is : slice_get scalars y ≡ Some source
  pub type : source.of ≡ target.of
  pub other : y ≢ x

-- One instruction that copies y to x, both scalars of one type, reaches a point on every path from the entry, with
-- neither written since.
pub record IsCopied (h : Graph) (x y n : ℕ) (rest : List Instruction) (e : End) : Type 0 where
  pub scalars : AreOfOneType h.scalars x y
  pub block : ℕ
  pub left : ℕ
  pub on_each : (hist : History) → Path h hist n rest e → IsCopiedAt block left x y hist

-- What a read of x at a point is: of y, where some path comes to the point and y was copied to x; of x itself, where no
-- path comes there or nothing was copied to it.
pub data IsReadAs (h : Graph) (n : ℕ) (rest : List Instruction) (e : End) (x : ℕ) : ℕ → Type 0 where
  of_copy : {y : ℕ} → IsReached h n rest e → IsCopied h x y n rest e → IsReadAs h n rest e x y
  of_none : (IsReached h n rest e → (y : ℕ) → IsCopied h x y n rest e → ⊥) → IsReadAs h n rest e x x

-- What is left of a block, before and after: each instruction is the same but for what it reads, and it reads what the
-- copies that reach it, in the graph after, make of what it read.
pub data AreCopied (h : Graph) (n : ℕ) (end : End) : List Instruction → List Instruction → Type 0 where
  ends : AreCopied h n end [] []
  next : {i : Instruction} {rest after : List Instruction} (read_as : ℕ → ℕ)
      → ((x : ℕ) → Among x (reads_of i) → IsReadAs h n (reading read_as i ∷ after) end x (read_as x))
      → AreCopied h n end rest after
      → AreCopied h n end (i ∷ rest) (reading read_as i ∷ after)

-- A block before and after: so are its instructions and its end.
pub record IsCopiedBlock (h : Graph) (n : ℕ) (b c : Block) : Type 0 where
  pub place : c.place ≡ b.place
  pub read_as : ℕ → ℕ
  pub end : c.end ≡ reading_end read_as b.end
  pub reads : (x : ℕ) → Among x (reads_of_end b.end) → IsReadAs h n [] c.end x (read_as x)
  pub instructions : AreCopied h n c.end b.instructions c.instructions

-- COPY PROPAGATION. The graphs are the same but for what their instructions and ends read. Each read is what the copies
-- of the graph after make of the read of the graph before, so no read is left that a copy reaches. There is one such
-- graph: a copy that reaches a point on every path stands before it on each of them, so what the copy itself reads is
-- settled first.
pub record IsPropagated (g h : Graph) : Type 0 where
  pub rest : h ≡ record g { blocks = h.blocks }
  pub count : length h.blocks ≡ length g.blocks
  pub blocks : (n : ℕ) (b c : Block) → slice_get g.blocks n ≡ Some b → slice_get h.blocks n ≡ Some c
      → IsCopiedBlock h n b c
