-- What a unit keeps of its program's shape.
use Rattle.std.proofs.Common.{◌≡◌, ℕ, suc, ◌+◌, List, [], ◌∷◌, length, map, refl, ap, subst, sym, ◌∙◌}
use Rattle.std.specs.Prelude.{◌↔◌, IfOk, Result, Ok, Err}
use Rattle.std.specs.List.{Contains}
use Rattle.places.specs.declared.flow.Assignment.{Assignment}
use Rattle.places.specs.declared.flow.FlowStep.{FlowStep}
use Rattle.c_tree.specs.Programs.{ProgramTree, TypedFunctionTree}
use Rattle.c_flow.specs.Assigns.{assignments_of_program}
use Rattle.c_flow.specs.Flow.{steps_of_program}
use Rattle.graph_core.specs.declared.unit.Unit as declared-unit
use Rattle.graph_core.specs.declared.graph.Graph as declared-graph
use Rattle.graph_core.specs.Graphs.{Graph, UnitForm, graph_view, unit_view}
use Rattle.pass_law.specs.Kept.{EachFunction, KeepsFunction, KeepsShape}
use Rattle.graph_build.specs.Units.{IsUnitOf, graphs_from}
use Rattle.image_build.specs.Tables.{HasShapeOf, entry_of, entry_place}

as_many : (gs hs : List Graph) → EachFunction KeepsFunction gs hs → length hs ≡ length gs
as_many [] [] kept = refl
as_many [] (h ∷ hs) kept = absurd kept
as_many (g ∷ gs) [] kept = absurd kept
as_many (g ∷ gs) (h ∷ hs) kept = ap suc (as_many gs hs kept.1)

graphs_counted : (p : ProgramTree) (number : ℕ) (functions : List TypedFunctionTree) → length (graphs_from p number functions) ≡ length functions
graphs_counted p number [] = refl
graphs_counted p number (f ∷ functions) = ap suc (graphs_counted p (number + 1) functions)

same_entries : (gs hs : List Graph) → EachFunction KeepsFunction gs hs → map entry_place hs ≡ map entry_place gs
same_entries [] [] kept = refl
same_entries [] (h ∷ hs) kept = absurd kept
same_entries (g ∷ gs) [] kept = absurd kept
same_entries (g ∷ gs) (h ∷ hs) kept = let first = kept.0.entry in let rest = same_entries gs hs kept.1 in (λ i. first i ∷ rest i)

entries_from : (p : ProgramTree) (number : ℕ) (functions : List TypedFunctionTree) → map entry_place (graphs_from p number functions) ≡ map (entry_of p) functions
entries_from p number [] = refl
entries_from p number (f ∷ functions) = ap (λ (l : List ℕ). entry_of p f ∷ l) (entries_from p (number + 1) functions)

-- where graphs begin
pub entries_seen : (gs : List declared-graph.Graph) → map (λ (g : declared-graph.Graph). g.entry.0) gs ≡ map entry_place (map graph_view gs)
entries_seen [] = refl
entries_seen (g ∷ gs) = let rest = entries_seen gs in (λ i. entry_place (graph_view g) ∷ rest i)

-- the unit that a program becomes has its shape, and so has what passes make of it
pub shaped : (p : ProgramTree) (u v : UnitForm) → IsUnitOf p u → ((s : FlowStep) → Contains u.steps s ↔ Contains (steps_of_program p) s)
    → ((a : Assignment) → Contains u.assignments a ↔ Contains (assignments_of_program p) a) → KeepsShape u v → HasShapeOf p v
shaped p u v is steps assignments kept = record {
  functions = as_many u.graphs v.graphs kept.functions ∙ ap length is.graphs ∙ graphs_counted p 0 p.functions;
  entries = same_entries u.graphs v.graphs kept.functions ∙ ap (map entry_place) is.graphs ∙ entries_from p 0 p.functions;
  steps = subst (λ all. (s : FlowStep) → Contains all s ↔ Contains (steps_of_program p) s) (sym kept.shared.steps) steps;
  assignments = subst (λ all. (a : Assignment) → Contains all a ↔ Contains (assignments_of_program p) a) (sym kept.shared.assignments) assignments;
}

-- what passes make of that unit has its shape
pub shaped_by : {E : Type 0} (p : ProgramTree) (u : UnitForm) (made : Result declared-unit.Unit E) → IsUnitOf p u
    → ((s : FlowStep) → Contains u.steps s ↔ Contains (steps_of_program p) s) → ((a : Assignment) → Contains u.assignments a ↔ Contains (assignments_of_program p) a)
    → IfOk made (λ v. KeepsShape u (unit_view v)) → IfOk made (λ v. HasShapeOf p (unit_view v))
shaped_by p u (Ok v) is steps assignments kept = shaped p u (unit_view v) is steps assignments kept
shaped_by p u (Err e) is steps assignments kept = tt

-- a unit that differs by its log alone has the same shape
pub log_only : (p : ProgramTree) (u v : UnitForm) → v ≡ record u { log = v.log } → HasShapeOf p u → HasShapeOf p v
log_only p u v same is = record {
  functions = ap (λ (w : UnitForm). length w.graphs) same ∙ is.functions;
  entries = ap (λ (w : UnitForm). map entry_place w.graphs) same ∙ is.entries;
  steps = subst (λ all. (s : FlowStep) → Contains all s ↔ Contains (steps_of_program p) s) (sym (ap (λ (w : UnitForm). w.steps) same)) is.steps;
  assignments = subst (λ all. (a : Assignment) → Contains all a ↔ Contains (assignments_of_program p) a) (sym (ap (λ (w : UnitForm). w.assignments) same)) is.assignments;
}
