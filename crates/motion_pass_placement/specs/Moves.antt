-- WHAT LAZY CODE MOTION MAKES OF THE FUNCTIONS OF A UNIT, one after the other, and the assignments that it moves.
use Rattle.std.specs.Prelude.{◌≡◌, ℕ, ◌<◌, ◌≤◌, Some, List, [], ◌∷◌, ◌++◌, length}
use Rattle.memory_map.specs.declared.map.Room.{Room}
use Rattle.graph_core.specs.Bounds.{most_names, most_instructions_of_function, most_instructions, most_blocks}
use Rattle.graph_core.specs.Computations.{Computation}
use Rattle.graph_core.specs.Graphs.{Instruction, End, Graph}
use Rattle.graph_core.specs.Points.{StandsWith}
use Rattle.graph_core.specs.Uses.{target_of}
use Rattle.graph_core.specs.Validity.{instructions_of, total}
use Rattle.graph_core.specs.WellMarked.{IsVariable}
use Rattle.pass_law.specs.declared.cases.Case.{Case}
use Rattle.motion_pass_points.specs.Ways.{within}
use Rattle.motion_pass_placement.specs.Placed.{IsEnteredAgain}
use Rattle.motion_pass_placement.specs.Moving.{IsMoved, IsReadAt}

-- A graph and all graphs of its unit, of this room, stay within the bounds of what motion makes more: names,
-- instructions and blocks.
pub record IsWithin (room : Room) (h : Graph) (all : List Graph) : Type 0 where
  pub names : h.name_count ≤ most_names
  pub own : instructions_of h ≤ most_instructions_of_function
  pub instructions : total instructions_of all ≤ most_instructions room
  pub blocks : total (λ (g : Graph). length g.blocks) all ≤ most_blocks room

-- WHAT BECOMES OF A FUNCTION, where those before it are as they became, and those behind it as they were.
pub data BecomesIn (room : Room) (before : List Graph) (g : Graph) (behind : List Graph) : Graph → Type 0 where
  -- It is moved, if with it the unit stays within bounds.
  moves : {h : Graph} → (IsEnteredAgain g.blocks → ⊥) → IsMoved g h → IsWithin room h (before ++ h ∷ behind)
      → BecomesIn room before g behind h
  -- It is left, if with what it would become the unit did not.
  passes_a_bound : {h : Graph} → (IsEnteredAgain g.blocks → ⊥) → IsMoved g h
      → (IsWithin room h (before ++ h ∷ behind) → ⊥) → BecomesIn room before g behind g
  -- It is left, if some path comes to its first block again: nothing can be done before the entry alone then.
  is_entered_again : IsEnteredAgain g.blocks → BecomesIn room before g behind g

-- what becomes of functions, behind those that became so before
pub data BecomeIn (room : Room) : (before : List Graph) → (gs hs : List Graph) → Type 0 where
  no_function : {before : List Graph} → BecomeIn room before [] []
  one_function : {before gs hs : List Graph} {g h : Graph} → BecomesIn room before g gs h
      → BecomeIn room (before ++ h ∷ []) gs hs → BecomeIn room before (g ∷ gs) (h ∷ hs)

-- WHAT BECOMES OF ALL FUNCTIONS of a unit, from the first one on.
abbrev pub AreAllMoved : Room → (before after : List Graph) → Type 0
AreAllMoved room gs hs = BecomeIn room [] gs hs

-- AN ASSIGNMENT THAT READS A TEMPORARY. At a point of the graph before, in the place of the case and behind as many
-- instructions of its block as it says, an instruction that reads the temporary of its computation writes the scalar of
-- its variable. That is no read of a name, so its operand is 0.
pub record IsReadingAssignment (g : Graph) (c : Case) : Type 0 where
  pub instruction : Instruction
  pub rest : List Instruction
  pub end : End
  pub stood : StandsWith g c.place.0 c.block (instruction ∷ rest) end
  pub index : length stood.before ≡ c.index
  pub computation : Computation
  pub reads : IsReadAt g.blocks computation (within c.block (instruction ∷ rest) end)
  pub x : ℕ
  pub written : target_of instruction ≡ Some x
  pub variable : IsVariable g x c.var.0
  pub no_read : c.operand ≡ 0

-- AN ASSIGNMENT THAT WAS MOVED. It reads a temporary, in a function that was not left: this has temporaries that it had
-- not.
pub record IsMovedAssignment (g h : Graph) (c : Case) : Type 0 where
  pub more : g.name_count < h.name_count
  pub assignment : IsReadingAssignment g c
