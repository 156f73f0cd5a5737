-- The unit of a well-formed program keeps notes.
use Rattle.std.proofs.Common.{◌≡◌, ℕ, false, Some, List, ◌∷◌, slice_get, sym, subst}
use Rattle.places.specs.Flow.{assigns}
use Rattle.c_tree.specs.Programs.{ProgramTree}
use Rattle.c_type_laws.specs.Laws.{IsWellFormed}
use Rattle.graph_core.specs.Graphs.{Instruction, Marker, End, Graph, UnitForm}
use Rattle.graph_core.specs.Graphs as unit
use Rattle.graph_core.specs.Paths.{History, Path, owed}
use Rattle.graph_core.specs.Validity.{IsGraph, IsValid}
use Rattle.graph_core.specs.WellMarked.{IsVariable}
use Rattle.graph_build.specs.Units.{IsUnitOf, scalars_among, variables_in, function_coding, graph_of}
use Rattle.graph_build_laws.proofs.Accepted.{facts_of}
use Rattle.image_truth_units.specs.Notes.{KeepsNotes, KeepNotes}
use Rattle.image_truth_units.proofs.Assigning.{HasAssignments, of_scalar}
use Rattle.image_truth_units.proofs.Noted.{HasOnly, nothing_owed}
use Rattle.image_truth_units.proofs.Notes.{of_function, of_variable, within, counted, written_where, noted_where, right, behind_write, calls, local, local_at_end}
use Rattle.graph_core_weights.proofs.Placing.{got_one}
use Rattle.image_truth_units.proofs.ScalarVariables.{all_different}

-- The unit of a well-formed program, which is valid and has the program's assignments and no others, keeps notes.
pub keep_notes : (p : ProgramTree) (u : UnitForm) → IsWellFormed p → IsUnitOf p u → HasAssignments p u → HasOnly p u → IsValid u → KeepNotes u
keep_notes p u well is has only valid k g at =
    let x = of_function p 0 p.functions k g (subst (λ (l : List Graph). slice_get l k ≡ Some g) is.graphs at) in
    let facts = facts_of p well in
    let f = x.function in
    let main = x.is_main in
    let v : IsGraph u (graph_of p f main) = subst (IsGraph u) (sym x.same) (got_one (IsGraph u) u.graphs k g valid.graphs at) in
    let owes : (h : History) (n : ℕ) (q y variable : ℕ) (rest : List Instruction) (e : End) → IsVariable (graph_of p f main) y variable → Path (graph_of p f main) h n (Marker q ∷ rest) e → owed (λ r. assigns u.assignments r variable) y h ≡ false =
    λ h n q y variable rest e is_variable way. (
    let s = of_scalar p u has k f x.is (within p u facts has k f x.is main v) main y variable is_variable in
    subst (λ w. owed (λ r. assigns u.assignments r w) y h ≡ false) s.number (nothing_owed p u facts only k f x.is main (counted p u facts has k f x.is main v) y s.own (of_variable p u facts has k f x.is main v y variable is_variable) s.named h n q rest e way)) in
    let n = (function_coding p f main).names in
    subst (KeepsNotes u) x.same (record {
      variables = all_different p f n (function_coding p f main).entry (scalars_among n (variables_in f)) f.first_variable f.variables;
      written_where = written_where p u facts has k f x.is main v;
      noted_where = noted_where p u facts has k f x.is main v;
      noted = owes;
      right = right p u facts has k f x.is main v;
      behind_write = λ h n y rest e way. behind_write p u facts has k f x.is main v h n y (unit.Is (unit.Of (unit.Name y))) rest e way;
      calls = calls p u facts has k f x.is main v;
      local = local p u facts has k f x.is main v;
      local_at_end = local_at_end p u facts has k f x.is main v;
    })
