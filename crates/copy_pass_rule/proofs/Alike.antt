-- A graph with its copies propagated is like the graph before, but for what is read.
use Rattle.std.proofs.Common.{ℕ, Some, None, List, [], ◌∷◌, ◌++◌, length, sym, subst}
use Rattle.std.proofs.lemmas.Option.{slice_get_within}
use Rattle.event_runs.specs.Agreement.{Pairs}
use Rattle.graph_core.specs.Graphs.{Operand, Name, Constant, StaticAddress, Location, Automatic, Static, At, Instruction, Marker, Note, Move, Operate, Truncate, Same, Address, Load, Store, Zero, CopyWords, Call, End, Jump, Branch, Return, Block, Graph}
use Rattle.graph_core.specs.Paths.{Among, front}
use Rattle.graph_core.specs.Uses.{names_of, names_of_all, names_of_location, reads_of, reads_of_end}
use Rattle.copy_pass_rule.specs.Copying.{reading, reading_all, reading_at, reading_end, reading_operand, IsReadAs, of_copy, of_none, AreCopied, ends, next, IsCopiedBlock, IsPropagated}
use Rattle.copy_pass_rule.specs.Alike.{IsReadFor, itself, a_scalar, AreAlikeOperands, name, constant, static_address, AreAlikeLocations, automatic, static_object, where_it_points, AreAlikeInstructions, marker, note, move, operate, truncate, same, address, load, store, zero_words, copy_words, call, AreAlikeEnds, jump, branch, return_none, return_some, AreAlikeBlocks, AreAlike}
use Rattle.copy_pass_rule.proofs.Lists.{numbered_pairs, among_left, among_right}

-- What reads, for each name, what that is read as is like what reads the names themselves, where each of them may be read so.
module _ (Reads : (x read : ℕ) → Type 0) (read_as : ℕ → ℕ) where
  -- what is read for each of these names may be read for it
  abbrev AreReadSo : List ℕ → Type 0
  AreReadSo names = (x : ℕ) → Among x names → Reads x (read_as x)

  -- It is so of an operand.
  operand_read : (a : Operand) → AreReadSo (names_of a) → AreAlikeOperands Reads a (reading_operand read_as a)
  operand_read (Name x) so = name (so x front)
  operand_read (Constant word) so = constant
  operand_read (StaticAddress object offset) so = static_address

  -- It is so of two operands.
  two_read : (a b : Operand) → AreReadSo (names_of a ++ names_of b) → AreAlikeOperands Reads a (reading_operand read_as a) × AreAlikeOperands Reads b (reading_operand read_as b)
  two_read a b so = (operand_read a (λ x among. so x (among_left x (names_of a) (names_of b) among)), operand_read b (λ x among. so x (among_right x (names_of a) (names_of b) among)))

  -- It is so of all operands of a call.
  operands_read : (all : List Operand) → AreReadSo (names_of_all all) → Pairs (AreAlikeOperands Reads) all (reading_all read_as all)
  operands_read [] so = tt
  operands_read (a ∷ all) so = (operand_read a (λ x among. so x (among_left x (names_of a) (names_of_all all) among)), operands_read all (λ x among. so x (among_right x (names_of a) (names_of_all all) among)))

  -- It is so of a location.
  location_read : (l : Location) → AreReadSo (names_of_location l) → AreAlikeLocations Reads l (reading_at read_as l)
  location_read (Automatic object offset) so = automatic
  location_read (Static object) so = static_object
  location_read (At a) so = where_it_points (operand_read a so)

  -- It is so of an instruction.
  instruction_read : (i : Instruction) → AreReadSo (reads_of i) → AreAlikeInstructions Reads i (reading read_as i)
  instruction_read (Marker p) so = marker
  instruction_read (Note x v) so = note
  instruction_read (Move x a) so = move (operand_read a so)
  instruction_read (Operate x o a b) so = (let both = two_read a b so in operate both.0 both.1)
  instruction_read (Truncate x t a) so = truncate (operand_read a so)
  instruction_read (Same x a b) so = (let both = two_read a b so in same both.0 both.1)
  instruction_read (Address x object) so = address
  instruction_read (Load x e l) so = load (location_read l so)
  instruction_read (Store e l a) so =
      store (location_read l (λ x among. so x (among_left x (names_of_location l) (names_of a) among))) (operand_read a (λ x among. so x (among_right x (names_of_location l) (names_of a) among)))
  instruction_read (Zero object words) so = zero_words
  instruction_read (CopyWords object bytes words) so = copy_words
  instruction_read (Call x f all) so = call (operands_read all so)

  -- It is so of the end of a block.
  end_read : (e : End) → AreReadSo (reads_of_end e) → AreAlikeEnds Reads e (reading_end read_as e)
  end_read (Jump l) so = jump
  end_read (Branch c a b l m) so = (let both = two_read a b so in branch both.0 both.1)
  end_read (Return None) so = return_none
  end_read (Return (Some a)) so = return_some (operand_read a so)

module _ (h : Graph) where
  -- What is read for a name is the name itself, or both are scalars.
  read_for : {n : ℕ} {rest : List Instruction} {e : End} {x y : ℕ} → IsReadAs h n rest e x y → IsReadFor (length h.scalars) x y
  read_for {x} (of_copy {y} reached copied) = a_scalar (slice_get_within h.scalars x copied.scalars.target copied.scalars.target_is) (slice_get_within h.scalars y copied.scalars.source copied.scalars.source_is)
  read_for (of_none none) = itself

  -- Instructions with their copies propagated are like those before.
  instructions_copied : (n : ℕ) (end : End) (is js : List Instruction) → AreCopied h n end is js → Pairs (AreAlikeInstructions (IsReadFor (length h.scalars))) is js
  instructions_copied n end is js ends = tt
  instructions_copied n end is js (next {i} {rest} {after} read_as reads later) =
      (instruction_read (IsReadFor (length h.scalars)) read_as i (λ x among. read_for (reads x among)), instructions_copied n end rest after later)

  -- So is a block.
  block_copied : (n : ℕ) (b c : Block) → IsCopiedBlock h n b c → AreAlikeBlocks (IsReadFor (length h.scalars)) b c
  block_copied n b c s = record {
    place = s.place;
    instructions = instructions_copied n c.end b.instructions c.instructions s.instructions;
    end = subst (AreAlikeEnds (IsReadFor (length h.scalars)) b.end) (sym s.end) (end_read (IsReadFor (length h.scalars)) s.read_as b.end (λ x among. read_for (s.reads x among)));
  }

-- A graph with its copies propagated is like the graph before.
pub propagated_alike : (g h : Graph) → IsPropagated g h → AreAlike g h
propagated_alike g h p = record {
  rest = p.rest;
  blocks = subst (λ (k : Graph). Pairs (AreAlikeBlocks (IsReadFor (length k.scalars))) g.blocks h.blocks) p.rest blocks_alike;
}
  where
    blocks_alike : Pairs (AreAlikeBlocks (IsReadFor (length h.scalars))) g.blocks h.blocks
    blocks_alike = numbered_pairs (AreAlikeBlocks (IsReadFor (length h.scalars))) g.blocks h.blocks p.count (λ n b c at there. block_copied h n b c (p.blocks n b c at there))
