-- Searches along the ways of a place, block by block.
use Rattle.std.specs.Prelude.{◌≡◌, ◌≢◌, ℕ, suc, ◌+◌, ◌*◌, ◌<◌, ◌==◌, ◌&&◌, ◌||◌, Bool, true, false, not, if◌then◌else◌, Some, List, [], ◌∷◌, ◌++◌, length, slice_get, slice_index_or}
use Rattle.places.specs.declared.flow.Assignment.{Assignment}
use Rattle.graph_core.specs.Graphs.{Instruction, End, Block, Graph}
use Rattle.graph_core.specs.Uses.{targets_of}
use Rattle.graph_core.specs.Paths.{Among, writes, is_marker}
use Rattle.dead_pass_writes.specs.declared.writes.Spot.{Spot}
use Rattle.dead_pass_notes.specs.Between.{ComesTo, IsWrittenBetween}
use Rattle.dead_pass_rule.specs.Certified.{AreIdle}
use Rattle.dead_pass_notes.specs.Spots.{left_at, IsPoint}
use Rattle.dead_pass_notes.specs.declared.scans.Scanned.{Scanned}
use Rattle.dead_pass_notes.specs.declared.scans.Scanned.TheVariants.{Stops, Leaves}
use Rattle.dead_pass_notes.specs.declared.ways.Way.{Way}
use Rattle.dead_pass_notes.specs.declared.ways.Ways.{Ways}

module _ (goes : (block left : ℕ) → Bool) (to : Spot) (y n : ℕ) where
  -- the point that is sought: the instruction that has so many behind it
  abbrev pub is_there : (left : ℕ) → Bool
  is_there left = n == to.block && left == to.left

  -- a write of the name that stays
  abbrev pub stays_written : Instruction → (left : ℕ) → Bool
  stays_written i left = writes y i && not (goes n left)

  -- Where a way along instructions of a block comes that has such a write on it already or not: it stops at the point,
  -- with or without a write, or at a marker as if without one; or it leaves the block.
  abbrev pub scan_of : Bool → List Instruction → Scanned
  scan_of was [] = Leaves was
  scan_of was (i ∷ rest) =
      if is_there (length rest) then Stops was else if is_marker i then Stops false
      else scan_of (was || stays_written i (length rest)) rest

-- the number of a state of a search
abbrev pub number_of : (block : ℕ) → Bool → ℕ
number_of block is_written = block * 2 + (if is_written then 1 else 0)

-- A search has come to the start of a block, with a write on the way or without.
abbrev pub HasCome : List Way → (block : ℕ) → Bool → Type 0
HasCome ahead block is_written = Among (record { block = block; is_written = is_written }) ahead

-- what was seen by this search it has come to
abbrev pub AreSeen : Ways → Type 0
AreSeen ways =
    (block : ℕ) (is_written : Bool) → number_of block is_written < length ways.seen.items
    → slice_index_or ways.seen.items (number_of block is_written) 0 ≡ ways.search
    → HasCome ways.ahead.items block is_written

-- To where a search came, nothing was added but blocks to which an end leads, as a scan leaves for them.
pub record HasGrown (end : End) (scanned : Scanned) (old new : List Way) : Type 0 where
  pub more : List Way
  pub is : new ≡ old ++ more
  pub only : (block : ℕ) (is_written : Bool) → HasCome more block is_written
      → Among block (targets_of end) × (scanned ≡ Leaves is_written)

-- From a scan a search goes on: it did not stop at the point with a write, and where it leaves the block it has come to
-- each block to which the end leads.
pub record GoesOn (count : ℕ) (ahead : List Way) (end : End) (scanned : Scanned) : Type 0 where
  pub unwritten : scanned ≢ Stops true
  pub leaves : (was : Bool) (l : ℕ) → scanned ≡ Leaves was → Among l (targets_of end) → l < count → HasCome ahead l was

-- What goes is told by the rule, the point that is sought is an instruction of the graph, and there is room for its
-- blocks.
pub record IsReady (assignments : List Assignment) (g : Graph) (goes : (block left : ℕ) → Bool) (to : Spot)
    (ways : Ways) : Type 0 where
  pub idle : AreIdle assignments g goes
  pub point : IsPoint g to.block (suc to.left)
  pub count : length ways.seen.items ≡ length g.blocks * 2

module _ (assignments : List Assignment) (g : Graph) (to : Spot) (y : ℕ) where
  -- Some way leads from a point to the one that is sought, with a write on it, if there was none before.
  abbrev pub Comes : (was_written : Bool) → (n : ℕ) → List Instruction → End → Type 0
  Comes true n rest e = ComesTo g to.block (left_at g to.block (suc to.left)) n rest e
  Comes false n rest e = IsWrittenBetween assignments g to.block (left_at g to.block (suc to.left)) y n rest e

  -- One does from where a search has come.
  pub record SomeComes (ahead : List Way) : Type 0 where
    pub number : ℕ
    pub was_written : Bool
    pub has_come : HasCome ahead number was_written
    pub block : Block
    pub is : slice_get g.blocks number ≡ Some block
    pub comes : Comes was_written number block.instructions block.end
