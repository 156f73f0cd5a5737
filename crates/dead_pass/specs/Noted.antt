-- What is known for notes to be said as they shall, while a graph is gone over.
use Rattle.std.specs.Prelude.{◌≡◌, ℕ, suc, true, Some, List, [], ◌∷◌, ◌++◌, length, slice_get}
use Rattle.places.specs.declared.flow.Assignment.{Assignment}
use Rattle.graph_core.specs.Graphs.{NoteValue, Instruction, Note, Block, Graph, Logged}
use Rattle.graph_core.specs.Validity.{HasPlace, place_behind}
use Rattle.graph_paths.specs.PathMarksTable.{bits_of}
use Rattle.dead_pass_notes.specs.declared.idle_graph.IdleGraph.{IdleGraph}
use Rattle.dead_pass_notes.specs.declared.notes.Notes.{Notes}
use Rattle.dead_pass_notes.specs.declared.recipes.NotePoint.{NotePoint}
use Rattle.dead_pass_notes.specs.Idle.{IsBorneOut, graph_of}
use Rattle.dead_pass_notes.specs.Said.{SaysAs}
use Rattle.dead_pass_notes.specs.Sources.{AreNamed, HasRoom}
use Rattle.dead_pass_notes.specs.RemovalNotesStale.{AreKnown, HasComeBehind}
use Rattle.dead_pass_writes.specs.RemovedChangesTelling.{AreToldOf}

-- Each instruction of a graph has a place.
abbrev pub ArePlaced : Graph → Type 0
ArePlaced g = (n : ℕ) (b : Block) → slice_get g.blocks n ≡ Some b → HasPlace b.instructions b.place

-- What is known of a graph of which something goes, and of the log that tells of it.
pub record IsReady (log : List Logged) (idle : IdleGraph) (notes : Notes) : Type 0 where
  pub borne_out : IsBorneOut idle
  pub known : AreKnown idle notes
  pub room : HasRoom idle notes.ways
  pub told : AreToldOf log notes.removed.now
  pub named : AreNamed (graph_of idle)
  pub placed : ArePlaced (graph_of idle)

-- A path comes to a block of a graph.
pub record IsVisited (idle : IdleGraph) (n : ℕ) (b : Block) : Type 0 where
  pub is : slice_get (graph_of idle).blocks n ≡ Some b
  pub reached : bits_of idle.reached 0 n ≡ true

-- The walk has come to an instruction of a block that a path reaches. Where it is a note, its place is in force.
pub record IsHere (idle : IdleGraph) (notes : Notes) (at : NotePoint) (b : Block) (before : List Instruction)
    (i : Instruction) (rest : List Instruction) : Type 0 where
  pub visited : IsVisited idle at.spot.block b
  pub instructions : b.instructions ≡ before ++ i ∷ rest
  pub behind : length rest ≡ at.spot.left
  pub place : (x : ℕ) (v : NoteValue) → i ≡ Note x v → place_behind before b.place ≡ Some at.place.0
  pub come : HasComeBehind idle notes at.spot.block before (suc at.spot.left)

-- Behind others stands what is left of an instruction that stays: if it is a note, it says what it shall.
pub record IsSaidBehind (assignments : List Assignment) (log : List Logged) (g : Graph) (n : ℕ) (b : Block)
    (i : Instruction) (rest old new : List Instruction) : Type 0 where
  pub left : Instruction
  pub is : new ≡ old ++ left ∷ []
  pub says : SaysAs assignments log g n rest b.end i left
