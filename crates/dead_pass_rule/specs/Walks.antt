-- Rows by which it is found which names are asked for: one for each of so many blocks, that tells of its start, one for
-- the point to which a walk back has come, and one without bits.
use Rattle.std.specs.Prelude.{◌≡◌, ◌≢◌, ℕ, ◌+◌, ◌<◌, ◌==◌, ◌&&◌, ◌||◌, Bool, true, false, not, Option, Some, None, List, [], ◌∷◌, length, slice_get, slice_index_or, ⊤}
use Rattle.std.specs.Option.{option_map_or}
use Rattle.std.specs.List.{list_any}
use Rattle.std.specs.declared.vec.Vec.{Vec}
use Rattle.std.specs.declared.alloc.Global.{Global}
use Rattle.graph_core.specs.Graphs.{Instruction, End, Block}
use Rattle.graph_core.specs.Uses.{target_of, targets_of, reads_of_end}
use Rattle.graph_core.specs.Paths.{Among, writes}
use Rattle.graph_paths.specs.declared.marks.Marks.{Marks}
use Rattle.graph_paths.specs.PathMarksTable.{bits_of}
use Rattle.graph_paths.specs.Flood.{Course}
use Rattle.dead_pass_rule.specs.Asking.{Turns, IsAsked, TellsAsked, asks}

abbrev pub turn_in : Option (Vec ℕ Global) → (left : ℕ) → ℕ
turn_in None left = 0
turn_in (Some row) left = slice_index_or row.items left 0

-- the turn of the write that stands in a block with so many instructions behind it
abbrev pub turn_of : List (Vec ℕ Global) → Turns
turn_of turns block left = turn_in (slice_get turns block) left

pub record IsTable (blocks names : ℕ) (marks : Marks) : Type 0 where
  pub count : marks.count ≡ blocks + 2
  pub width : marks.width ≡ names
  pub zero_row : (bit : ℕ) → bits_of marks (blocks + 1) bit ≡ false

-- all rows are the same but one
abbrev pub AreSameBut : (row : ℕ) → Marks → Marks → Type 0
AreSameBut row old new = (other bit : ℕ) → other ≢ row → bits_of new other bit ≡ bits_of old other bit

-- the rows of blocks are the same
abbrev pub AreSameBelow : (blocks : ℕ) → Marks → Marks → Type 0
AreSameBelow blocks old new = (n bit : ℕ) → n < blocks → bits_of new n bit ≡ bits_of old n bit

-- a name is written, if one is
abbrev pub is_written : (x : ℕ) → Option ℕ → Bool
is_written x target = option_map_or (λ y. y == x) target false

-- a name of which it is told at the start of a block is asked for from there
pub record IsAskedAt (turns : Turns) (all : List Block) (x n : ℕ) : Type 0 where
  pub block : Block
  pub is : slice_get all n ≡ Some block
  pub asked : IsAsked turns all x n block.instructions block.end

-- what is told of blocks is so
abbrev pub AreAsked : Turns → List Block → (blocks names : ℕ) → Marks → Type 0
AreAsked turns all blocks names marks =
    (n x : ℕ) → n < blocks → x < names → bits_of marks n x ≡ true → IsAskedAt turns all x n

-- It is told of one of the blocks to which an end leads.
pub record IsToldOfOne (blocks : ℕ) (e : End) (marks : Marks) (x : ℕ) : Type 0 where
  pub l : ℕ
  pub among : Among l (targets_of e)
  pub within : l < blocks
  pub told : bits_of marks l x ≡ true

-- it is told of each name that is asked for at the start of a block
abbrev pub AreTold : Turns → List Block → (names : ℕ) → Marks → Type 0
AreTold turns all names marks =
    (n x : ℕ) (b : Block) → slice_get all n ≡ Some b → x < names
    → TellsAsked turns (λ l. bits_of marks l x) (length all) x n (bits_of marks n x) b.instructions b.end

-- whether a name is asked for before instructions of a block, from whether it is behind them
abbrev pub asked_along : Turns → (x n : ℕ) → List Instruction → (behind : Bool) → Bool
asked_along turns x n [] behind = behind
asked_along turns x n (i ∷ rest) behind =
    asks turns n (length rest) i x || (not (writes x i) && asked_along turns x n rest behind)

-- whether it is at the start of a block, from whether it is where its end leads
abbrev pub asked_before : Turns → (x n : ℕ) → Block → (behind : Bool) → Bool
asked_before turns x n b behind =
    asked_along turns x n b.instructions (list_any (λ y. y == x) (reads_of_end b.end) || behind)

abbrev pub asked_before_some : Turns → (x n : ℕ) → Option Block → (behind : Bool) → Bool
asked_before_some turns x n None behind = false
asked_before_some turns x n (Some b) behind = asked_before turns x n b behind

-- how the names flow that are asked for: against execution, through all blocks
abbrev pub asking : Turns → List Block → (names : ℕ) → Course
asking turns all names =
    record {
      blocks = all;
      is_open = λ n. true;
      forward = false;
      width = names;
      does = λ n x behind. asked_before_some turns x n (slice_get all n) behind;
    }
