-- Markers of a unit follow the flow of its program.
use Rattle.std.specs.Prelude.{◌≡◌, ℕ, true, Some, List, ◌∷◌, slice_get}
use Rattle.places.specs.declared.flow.FlowStep.{FlowStep}
use Rattle.places.specs.Flow.{can_go}
use Rattle.c_tree.specs.Programs.{ProgramTree}
use Rattle.c_flow.specs.Flow.{steps_of_program}
use Rattle.graph_core.specs.Graphs.{Instruction, Marker, End, Block, Graph, UnitForm}
use Rattle.graph_core.specs.Uses.{targets_of}
use Rattle.graph_core.specs.Paths.{History, Among, Path, place_of}
use Rattle.graph_core.specs.WellMarked.{ComesToMarker}

-- A unit has each step of a program.
abbrev pub HasSteps : ProgramTree → UnitForm → Type 0
HasSteps p u = (s : FlowStep) → Among s (steps_of_program p) → Among s u.steps

-- A graph begins with the marker of its entry, to which no edge leads back, markers that follow one another on a path
-- through it are a step of the unit's flow, and each cycle has a marker.
pub record FollowsFlow (u : UnitForm) (g : Graph) : Type 0 where
  pub begins : (b : Block) → slice_get g.blocks 0 ≡ Some b
      → (rest : List Instruction) × (b.instructions ≡ Marker g.entry ∷ rest)
  pub first : (n : ℕ) (b : Block) → slice_get g.blocks n ≡ Some b → Among 0 (targets_of b.end) → ⊥
  pub flows : (h : History) (n : ℕ) (p q : ℕ) (rest : List Instruction) (e : End) → Path g h n (Marker q ∷ rest) e
      → place_of h ≡ Some p → can_go u.steps p q ≡ true
  pub cycles : (n : ℕ) (b : Block) → slice_get g.blocks n ≡ Some b → ComesToMarker g b.instructions b.end

-- Each graph of a unit does.
abbrev pub FollowFlow : UnitForm → Type 0
FollowFlow u = (k : ℕ) (g : Graph) → slice_get u.graphs k ≡ Some g → FollowsFlow u g
