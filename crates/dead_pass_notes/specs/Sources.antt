-- Of what recipes are made, at a note.
use Rattle.std.specs.Prelude.{◌≡◌, ◌≢◌, ℕ, suc, ◌*◌, ◌<◌, ◌≤◌, ◌↔◌, Bool, true, Option, Some, None, List, [], ◌∷◌, ◌++◌, length, slice_get, ⊤}
use Rattle.word_base.specs.declared.operation.Operation.{Operation}
use Rattle.word_base.specs.declared.operation.Truncation.{Truncation}
use Rattle.places.specs.declared.flow.Assignment.{Assignment}
use Rattle.graph_core.specs.declared.name.Operand as declared-operand
use Rattle.graph_core.specs.Graphs.{Operand, Name, Recipe, Truncated, Operated, NoteValue, Instruction, Move, End, Block, Graph, Logged, operand_view}
use Rattle.graph_core.specs.Uses.{target_of}
use Rattle.graph_core.specs.Validity.{depth_of}
use Rattle.graph_core.specs.WellMarked.{IsLocal}
use Rattle.graph_paths.specs.declared.marks.Marks.{Marks}
use Rattle.graph_paths.specs.PathMarksTable.{bits_of}
use Rattle.dead_pass_writes.specs.declared.writes.Spot.{Spot}
use Rattle.dead_pass_notes.specs.Between.{IsWrittenBetween}
use Rattle.dead_pass_notes.specs.declared.ways.Ways.{Ways}
use Rattle.dead_pass_notes.specs.Spots.{left_at, end_at, IsPoint}
use Rattle.dead_pass_notes.specs.Stale.{ComesStale}
use Rattle.dead_pass_notes.specs.declared.idle_graph.IdleGraph.{IdleGraph}
use Rattle.dead_pass_notes.specs.declared.recipes.NotePoint.{NotePoint}
use Rattle.dead_pass_notes.specs.declared.recipes.Source.{Source}
use Rattle.dead_pass_notes.specs.declared.recipes.Source.TheVariants.{Read, Made, Unknown}
use Rattle.dead_pass_notes.specs.declared.recipes.Computed as declared-computed
use Rattle.dead_pass_notes.specs.declared.recipes.Computed.TheVariants as computed
use Rattle.dead_pass_notes.specs.Idle.{IsBorneOut, assignments_of, graph_of}
use Rattle.dead_pass_notes.specs.Said.{IsRecipe, IsRightSide, IsSaid}

module _ (g : Graph) (note : NotePoint) where
  -- the note, and what stands behind it
  abbrev pub noted : List Instruction
  noted = left_at g note.spot.block (suc note.spot.left)

  -- What is read is no temporary that is resolved further, and what is made is no copy.
  abbrev pub IsSource : Source → Type 0
  IsSource (Read at operand) = IsPoint g at.block at.left × ((t : ℕ) → operand_view operand ≡ Name t → IsLocal g t → ⊥)
  IsSource (Made at) =
      IsPoint g at.block (suc at.left)
      × ((x : ℕ) (a : Operand) (rest : List Instruction) → left_at g at.block (suc at.left) ≢ Move x a ∷ rest)
  IsSource Unknown = ⊤

  abbrev pub AreSources : declared-computed.Computed → Type 0
  AreSources (computed.Truncated truncation from) = IsSource from
  AreSources (computed.Operated operation left right) = IsSource left × IsSource right
  AreSources computed.Unknown = ⊤

-- The same, in a unit with these assignments.
module _ (assignments : List Assignment) (g : Graph) (note : NotePoint) where
  -- the recipe at the note of an operand that the instruction at a spot reads
  abbrev pub IsRead : Spot → Operand → Recipe → Type 0
  IsRead at a r =
      IsRecipe assignments g note.place.0 note.spot.block (noted g note) (end_at g note.spot.block) at.block
      (left_at g at.block at.left) (end_at g at.block) a r

  -- a name has at the note the value that the instruction at a spot reads
  pub record StillHolds (at : Spot) (y : ℕ) : Type 0 where
    pub fresh : ComesStale assignments g y note.spot.block (noted g note) (end_at g note.spot.block) → ⊥
    pub unwritten : IsWrittenBetween assignments g note.spot.block (noted g note) y at.block
        (left_at g at.block at.left) (end_at g at.block)
        → ⊥

  -- the recipe at the note of what the instruction at a spot computes
  pub record IsMade (at : Spot) (r : Recipe) : Type 0 where
    pub instruction : Instruction
    pub is : left_at g at.block (suc at.left) ≡ instruction ∷ left_at g at.block at.left
    pub right : IsRightSide assignments g note.place.0 note.spot.block (noted g note) (end_at g note.spot.block)
        at.block (left_at g at.block at.left) (end_at g at.block) instruction r

  -- a source gives a recipe
  abbrev pub Gives : Source → Recipe → Type 0
  Gives (Read at operand) r = IsRead at (operand_view operand) r
  Gives (Made at) r = IsMade at r
  Gives Unknown r = ⊥

  -- what is computed of sources gives a recipe
  abbrev pub Computes : declared-computed.Computed → Recipe → Type 0
  Computes (computed.Truncated truncation from) r = (q : Recipe) × (r ≡ Truncated truncation q) × Gives from q
  Computes (computed.Operated operation left right) r =
      (q w : Recipe) × (r ≡ Operated operation q w) × Gives left q × Gives right w
  Computes computed.Unknown r = ⊥

-- A recipe that is found is given, and is at most so deep; where none is found none is given that is.
abbrev pub IsFound : (depth : ℕ) → (Given : Recipe → Type 0) → Option Recipe → Type 0
IsFound depth Given None = (r : Recipe) → Given r → depth_of r ≤ depth → ⊥
IsFound depth Given (Some r) = Given r × (depth_of r ≤ depth)

-- what a note says in the end that said this
abbrev pub IsSaidAt : List Assignment → List Logged → Graph → NotePoint → (x : ℕ) → (before after : NoteValue) → Type 0
IsSaidAt assignments log g note x before after =
    IsSaid assignments log g note.place.0 note.spot.block x before (noted g note) (end_at g note.spot.block) after

-- What is known where a note stands: the row of a walk tells of the names that are stale there.
pub record IsKnown (idle : IdleGraph) (stale : Marks) (note : NotePoint) : Type 0 where
  pub borne_out : IsBorneOut idle
  pub point : IsPoint (graph_of idle) note.spot.block (suc note.spot.left)
  pub tells : (y : ℕ)
      → (bits_of stale (length (graph_of idle).blocks) y ≡ true) ↔ ComesStale (assignments_of idle) (graph_of idle)
      y note.spot.block (noted (graph_of idle) note) (end_at (graph_of idle) note.spot.block)

-- a search has room for the blocks of a graph
abbrev pub HasRoom : IdleGraph → Ways → Type 0
HasRoom idle ways = length ways.seen.items ≡ length (graph_of idle).blocks * 2

-- Each name that is written is one of the graph.
abbrev pub AreNamed : Graph → Type 0
AreNamed g =
    (n : ℕ) (b : Block) (before rest : List Instruction) (i : Instruction) (x : ℕ) → slice_get g.blocks n ≡ Some b
    → b.instructions ≡ before ++ i ∷ rest → target_of i ≡ Some x → x < g.name_count
