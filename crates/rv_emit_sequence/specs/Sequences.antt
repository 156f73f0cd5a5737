-- The pieces of a function's code in their order.
use Rattle.std.specs.Prelude.{◌≡◌, ℕ, ◌+◌, ◌<◌, min, Bool, Some, option_map, List, [], ◌∷◌, ◌++◌, length, map, slice_get, slice_index, slice_set, replicate}
use Rattle.std.specs.List.{AllByRecursion}
use Rattle.graph_core.specs.Graphs.{Block, Graph}
use Rattle.graph_core.specs.Paths.{Among}
use Rattle.graph_core.specs.Uses.{targets_of}
use Rattle.rv_emit_words.specs.declared.piece.Held.{Held}
use Rattle.rv_emit_words.specs.declared.piece.PlacedPiece.{PlacedPiece}
use Rattle.rv_emit_storage.specs.declared.storage.Storage as declared-storage
use Rattle.rv_emit_storage.specs.Storages.{StorageForm, storage_view}
use Rattle.rv_emit_words.specs.Growing.{CodeState}
pub use Rattle.rv_emit_plan.specs.Plans.{AreConstants, AreOnce, IsConstant, IsOrder}
use Rattle.rv_emit_code.specs.Beginning.{with_beginning}
use Rattle.rv_emit_code.specs.Blocks.{no_code, block_code}
use Rattle.rv_emit_code.specs.Leaving.{words_of_moving, with_leaving}
use Rattle.rv_emit_sequence.specs.declared.sequence.Sequence as declared-sequence

-- What the code of a function rests on: where it finds values, the place of its entry, the registers that its frame
-- keeps and its size, and the label of its end.
pub record Ground : Type 0 where
  pub storage : StorageForm
  pub entry : ℕ
  pub saved : List ℕ
  pub size : ℕ
  pub end : ℕ

-- what the code has of it
abbrev pub ground_of : declared-storage.Storage → Ground
ground_of s =
    record {
      storage = storage_view s;
      entry = s.entry.0;
      saved = s.frame.now.saved.items;
      size = s.frame.now.size;
      end = s.end.0;
    }

-- The pieces of a function, how many of them stand before all blocks, for each block the index of its first piece and
-- that behind its last one, with the index of the function's end behind the first ones, and how many instructions the
-- blocks before each block have, and all.
pub record SequenceForm : Type 0 where
  pub pieces : List PlacedPiece
  pub begin : ℕ
  pub labels : List ℕ
  pub ends : List ℕ
  pub numbers : List ℕ

-- what the code has of it
abbrev pub sequence_view : declared-sequence.Sequence → SequenceForm
sequence_view s =
    record {
      pieces = s.pieces.items;
      begin = s.begin;
      labels = s.labels.items;
      ends = s.ends.items;
      numbers = s.numbers.items;
    }

-- A count, as far as 32 bits can count.
abbrev pub counted : ℕ → ℕ
counted n = min n 4294967295

-- ---- Pieces

-- A block as it stands in code: its number, the label of what stands next, what scratch registers hold where it begins,
-- and the constants that are loaded at its end.
pub record Standing : Type 0 where
  pub number : ℕ
  pub next : ℕ
  pub known : List Held
  pub loads : List Held
  pub block : Block

-- Its code.
abbrev pub standing_code : Ground → Standing → CodeState
standing_code g x = block_code g.storage g.entry g.saved g.size g.end x.next x.known x.loads x.block

-- The instruction whose target a piece writes is counted from the first of block 0, where the blocks before have so
-- many.
abbrev pub numbered : (before : ℕ) → PlacedPiece → PlacedPiece
numbered n p =
    record {
      piece = p.piece;
      owner = p.owner;
      is_stop = p.is_stop;
      writes = option_map (λ i. counted (n + i)) p.writes;
    }

-- The pieces of a block.
abbrev pub standing_pieces : Ground → (numbers : List ℕ) → Standing → List PlacedPiece
standing_pieces g numbers x = map (numbered (slice_index numbers x.number)) (standing_code g x).pieces

-- The pieces of blocks, one behind the other.
abbrev pub all_pieces : Ground → (numbers : List ℕ) → List Standing → List PlacedPiece
all_pieces g numbers [] = []
all_pieces g numbers (x ∷ more) = standing_pieces g numbers x ++ all_pieces g numbers more

-- The pieces with which a function begins, and those with which it ends.
abbrev pub first_pieces : Ground → Graph → (is_main : Bool) → List PlacedPiece
first_pieces g f is_main = (with_beginning g.storage f g.saved g.size is_main (no_code g.entry [])).pieces

abbrev pub last_pieces : Ground → List PlacedPiece
last_pieces g = (with_leaving (words_of_moving g.size) g.saved g.size (no_code 0 [])).pieces

-- ---- Their order

-- The label of the first of some blocks, or that of what stands behind them.
abbrev pub first_label : List Standing → (behind : ℕ) → ℕ
first_label [] e = e
first_label (x ∷ more) e = x.number

-- Behind each block stands the one that is said to stand next, and behind the last one the end.
abbrev pub AreInARow : (end : ℕ) → List Standing → Type 0
AreInARow e [] = Unit {0}
AreInARow e (x ∷ more) = (x.next ≡ first_label more e) × AreInARow e more

-- Each block has as its label the index of its first piece, from an index on, and as its end the one behind its last;
-- the label of the function's end is that of what stands behind all.
abbrev pub AreLabelled : Ground → SequenceForm → (index : ℕ) → List Standing → Type 0
AreLabelled g s i [] = slice_index s.labels g.end ≡ counted i
AreLabelled g s i (x ∷ more) =
    (slice_index s.labels x.number ≡ counted i)
    × (slice_index s.ends x.number ≡ counted (i + length (standing_code g x).pieces))
    × AreLabelled g s (i + length (standing_code g x).pieces) more

-- ---- What scratch registers hold

-- What is wanted is held.
abbrev pub Holds : (held wanted : List Held) → Type 0
Holds held wanted = (x : Held) → Among x wanted → Among x held

-- Wherever the end of a block leads, what is to be held there is held behind it.
abbrev pub LeadsWell : Ground → (at : ℕ → List Held) → Standing → Type 0
LeadsWell g at x = (l : ℕ) → Among l (targets_of x.block.end) → Holds (standing_code g x).held (at l)

-- A block stands as one of these: it is the one of its number, holds where it begins what is to be held there, loads
-- constants, and leads well.
pub record IsStanding (g : Ground) (blocks : List Block) (at : ℕ → List Held) (x : Standing) : Type 0 where
  pub block : slice_get blocks x.number ≡ Some x.block
  pub known : x.known ≡ at x.number
  pub loads : AreConstants x.loads
  pub leads : LeadsWell g at x

-- ---- All of it

-- How many instructions the blocks before each block have, where so many stand before all of them, and behind these how
-- many there are.
abbrev pub numbers_from : (before : ℕ) → List Block → List ℕ
numbers_from n [] = n ∷ []
numbers_from n (b ∷ more) = n ∷ numbers_from (counted (n + counted (length b.instructions))) more

-- The pieces of a function: those with which it begins, those of its blocks in an order, and those with which it ends.
pub record IsSequenceOf (g : Ground) (f : Graph) (is_main : Bool) (s : SequenceForm) : Type 0 where
  pub standing : List Standing
  pub at : ℕ → List Held
  pub pieces : s.pieces ≡ first_pieces g f is_main ++ all_pieces g s.numbers standing ++ last_pieces g
  pub begin : s.begin ≡ counted (length (first_pieces g f is_main))
  pub numbers : s.numbers ≡ numbers_from 0 f.blocks
  pub order : IsOrder (length f.blocks) (map (λ (x : Standing). x.number) standing)
  pub next : AreInARow g.end standing
  pub blocks : AllByRecursion (IsStanding g f.blocks at) standing
  pub start : at 0 ≡ []
  pub constants : (n : ℕ) → AreConstants (at n)
  pub labels : AreLabelled g s (length (first_pieces g f is_main)) standing
  pub label_count : length s.labels ≡ length f.blocks + 1
  pub end_count : length s.ends ≡ length f.blocks

-- The function's end has the label behind those of its blocks.
pub record HasEnd (g : Ground) (f : Graph) : Type 0 where
  pub label : g.end ≡ length f.blocks
  pub few : length f.blocks < 4294967295

-- ---- How pieces grow

-- No block stands yet.
abbrev pub begun : Ground → Graph → (is_main : Bool) → SequenceForm
begun g f is_main = record {
  pieces = first_pieces g f is_main;
  begin = counted (length (first_pieces g f is_main));
  labels = replicate (length f.blocks) 0;
  ends = replicate (length f.blocks) 0;
  numbers = numbers_from 0 f.blocks;
}

-- The code of a block of this number is appended.
abbrev pub with_block : (number : ℕ) → List PlacedPiece → SequenceForm → SequenceForm
with_block n code s = record {
  pieces = s.pieces ++ map (numbered (slice_index s.numbers n)) code;
  begin = s.begin;
  labels = slice_set s.labels n (counted (length s.pieces));
  ends = slice_set s.ends n (counted (length (s.pieces ++ map (numbered (slice_index s.numbers n)) code)));
  numbers = s.numbers;
}

-- Blocks are appended in order.
abbrev pub with_standing : Ground → List Standing → SequenceForm → SequenceForm
with_standing g [] s = s
with_standing g (x ∷ more) s = with_standing g more (with_block x.number (standing_code g x).pieces s)

-- The end of the function is appended.
abbrev pub ended : Ground → SequenceForm → SequenceForm
ended g s = record {
  pieces = s.pieces ++ map (numbered 0) (last_pieces g);
  begin = s.begin;
  labels = s.labels ++ counted (length s.pieces) ∷ [];
  ends = s.ends;
  numbers = s.numbers;
}

-- Blocks as they stand where nothing is held, from one of this number on.
abbrev pub plainly : (number : ℕ) → List Block → List Standing
plainly n [] = []
plainly n (b ∷ more) =
    (record { number = n; next = counted (n + 1); known = []; loads = []; block = b }) ∷ plainly (counted (n + 1)) more

-- The first of some numbers, or another where there is none.
abbrev pub first_number : List ℕ → (behind : ℕ) → ℕ
first_number [] e = e
first_number (n ∷ more) e = n

-- The block of a number stands behind what stood, and another label next.
pub record IsPut (g : Ground) (blocks : List Block) (at : ℕ → List Held) (n e : ℕ) (s t : SequenceForm) : Type 0 where
  pub standing : Standing
  pub number : standing.number ≡ n
  pub next : standing.next ≡ e
  pub block : IsStanding g blocks at standing
  pub pieces : t ≡ with_block standing.number (standing_code g standing).pieces s

-- Blocks of these numbers stand behind what stood, in this order.
pub record ArePut (g : Ground) (blocks : List Block) (at : ℕ → List Held) (named : List ℕ) (s t : SequenceForm)
    : Type 0 where
  pub standing : List Standing
  pub order : map (λ (x : Standing). x.number) standing ≡ named
  pub next : AreInARow g.end standing
  pub all : AllByRecursion (IsStanding g blocks at) standing
  pub pieces : t ≡ with_standing g standing s
