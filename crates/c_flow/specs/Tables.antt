-- The table of a program's flow, by the numbers of its places.
use Rattle.std.specs.Prelude.{ℕ, ◌+◌, ◌<◌, ◌^◌, nat_lt, List, [], ◌∷◌, ◌++◌, length, All}
use Rattle.std.specs.List.{count_by}
use Rattle.places.specs.declared.flow.FlowStep.{FlowStep}
use Rattle.places.specs.declared.flow.Assignment.{Assignment}
use Rattle.c_tree.specs.Programs.{TypedFunctionTree, ProgramTree}
use Rattle.c_places.specs.Places.{places_of_program}
use Rattle.c_flow.specs.declared.edge.Edge.{Edge}
use Rattle.c_flow.specs.declared.assigned.Assigned.{Assigned}
use Rattle.c_flow.specs.Assigns.{variable_number, numbered_for}

-- The number of the place at a position, among places that stand at these positions: one more than there are before it.
abbrev pub place_number : List ℕ → ℕ → ℕ
place_number positions at = count_by (λ (y : ℕ). nat_lt y at) positions + 1

-- the step that an edge is, among places at these positions
abbrev pub step_between : List ℕ → Edge → FlowStep
step_between positions e =
    record { from = record { 0 = place_number positions e.from }; to = record { 0 = place_number positions e.to } }

-- the assignments that these are, among places at these positions
abbrev pub assignments_among : ProgramTree → List ℕ → List Assigned → List Assignment
assignments_among p positions [] = []
assignments_among p positions (a ∷ all) =
    numbered_for (place_number positions a.at) (variable_number p a.object) ++ assignments_among p positions all

-- the variables of a program fit in numbers of 32 bits
abbrev pub FewVariables : ProgramTree → Type 0
FewVariables p = length p.statics + length p.literals + length p.automatics < 2 ^ 32

-- The places and variables of a program fit in numbers of 32 bits.
pub record Fits32 (p : ProgramTree) : Type 0 where
  pub places : length (places_of_program p) + 1 < 2 ^ 32
  pub functions : length p.functions < 2 ^ 32
  pub variables : FewVariables p
  pub parameters : All (λ (f : TypedFunctionTree). f.first_variable + f.parameters < 2 ^ 32) p.functions
