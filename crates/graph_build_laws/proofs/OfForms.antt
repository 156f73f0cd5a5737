-- The unit that the forms give of a program is built of it.
use Rattle.std.proofs.Common.{List, [], ◌∷◌, refl, arith}
use Rattle.std.specs.Prelude.{◌↔◌, IfOk, Result, Ok, Err, AllPairs}
use Rattle.std.specs.List.{Contains}
use Rattle.places.specs.declared.flow.Assignment.{Assignment}
use Rattle.places.specs.declared.flow.FlowStep.{FlowStep}
use Rattle.places.specs.Flow.{AreInOrder, IsAssignmentBefore}
use Rattle.c_tree.specs.Programs.{ProgramTree}
use Rattle.c_flow.specs.Assigns.{assignments_of_program}
use Rattle.c_flow.specs.Flow.{steps_of_program}
use Rattle.graph_core.specs.declared.unit.Unit as declared-unit
use Rattle.graph_core.specs.Graphs.{UnitForm, unit_view}
use Rattle.graph_core.specs.Paths.{Among, front, behind}
use Rattle.graph_core.specs.Validity.{IsValid}
use Rattle.graph_build.specs.Units.{IsUnitOf}
use Rattle.graph_build_laws.specs.Following.{FollowFlow, HasSteps}
use Rattle.graph_build_runs.specs.Correspondence.{DoesProgram}
use Rattle.graph_build_laws.specs.Built.{IsBuilt}
use Rattle.base_laws.proofs.Lists.{one_behind_again as one_behind}
use Rattle.graph_core.proofs.Among.{contains_among}

among_contains : {A : Type 0} (xs : List A) (a : A) → Among a xs → Contains xs a
among_contains [] a there = elim there [ ]
among_contains (x ∷ xs) a front = (0, omega arith, refl)
among_contains (x ∷ xs) a (behind there) = one_behind x xs a (among_contains xs a there)

one_built : (p : ProgramTree) (u : UnitForm) → (HasSteps p u → FollowFlow u) → (IsUnitOf p u → DoesProgram p u) → IsUnitOf p u
    → ((s : FlowStep) → Contains u.steps s ↔ Contains (steps_of_program p) s) → ((a : Assignment) → Contains u.assignments a ↔ Contains (assignments_of_program p) a) → AreInOrder u.steps → AllPairs IsAssignmentBefore u.assignments → IsBuilt p u
one_built p u follow does forms steps assignments steps_order assignments_order = record {
  forms = forms;
  steps = steps;
  steps_order = steps_order;
  assignments = assignments;
  assignments_order = assignments_order;
  follows = follow (λ s there. contains_among u.steps s ((steps s).1 (among_contains (steps_of_program p) s there)));
  does = does forms;
}

-- What is built of a program by the forms, if it is, is built of it,
pub built_by : {E : Type 0} (p : ProgramTree) (made : Result declared-unit.Unit E) → ((u : UnitForm) → IsUnitOf p u → HasSteps p u → FollowFlow u) → ((u : UnitForm) → IsUnitOf p u → DoesProgram p u)
    → IfOk made (λ u. IsUnitOf p (unit_view u)) → IfOk made (λ u. (s : FlowStep) → Contains (unit_view u).steps s ↔ Contains (steps_of_program p) s)
    → IfOk made (λ u. (a : Assignment) → Contains (unit_view u).assignments a ↔ Contains (assignments_of_program p) a) → IfOk made (λ u. AreInOrder (unit_view u).steps) → IfOk made (λ u. AllPairs IsAssignmentBefore (unit_view u).assignments)
    → IfOk made (λ u. IsBuilt p (unit_view u))
built_by p (Ok u) follow does forms steps assignments steps_order assignments_order = one_built p (unit_view u) (follow (unit_view u) forms) (does (unit_view u)) forms steps assignments steps_order assignments_order
built_by p (Err e) follow does forms steps assignments steps_order assignments_order = tt

-- and it is valid.
pub valid_by : {E : Type 0} (p : ProgramTree) (made : Result declared-unit.Unit E) → ((u : UnitForm) → IsUnitOf p u → IsValid u) → IfOk made (λ u. IsUnitOf p (unit_view u)) → IfOk made (λ u. IsValid (unit_view u))
valid_by p (Ok u) valid forms = valid (unit_view u) forms
valid_by p (Err e) valid forms = tt
