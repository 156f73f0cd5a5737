-- The unit that is built of a well-formed program is well marked.
use Rattle.std.proofs.Common.{List, [], ◌∷◌, refl, arith}
use Rattle.std.specs.List.{Contains}
use Rattle.places.specs.declared.flow.Assignment.{Assignment}
use Rattle.c_tree.specs.Programs.{ProgramTree}
use Rattle.c_flow.specs.Assigns.{assignments_of_program}
use Rattle.c_type_laws.specs.Laws.{IsWellFormed}
use Rattle.graph_core.specs.Graphs.{UnitForm}
use Rattle.graph_core.specs.Paths.{Among, front, behind}
use Rattle.graph_core.specs.WellMarked.{AreWellMarked}
use Rattle.graph_core.proofs.Among.{contains_among}
use Rattle.graph_build_laws.specs.Built.{IsBuilt}
use Rattle.graph_build_laws.proofs.Whole.{valid}
use Rattle.base_laws.proofs.Lists.{one_behind_again as one_behind}
use Rattle.image_truth_units.specs.Notes.{KeepNotes}
use Rattle.image_truth_units.specs.Timing.{KeepTime}
use Rattle.image_truth_units.proofs.Marked.{KeepPlaces, are_well_marked}
use Rattle.image_truth_units.proofs.TimedUnits.{keep_time}
use Rattle.image_truth_units.proofs.Units.{keep_notes}

among_contains : {A : Type 0} (xs : List A) (a : A) → Among a xs → Contains xs a
among_contains [] a there = elim there [ ]
among_contains (x ∷ xs) a front = (0, omega arith, refl)
among_contains (x ∷ xs) a (behind there) = one_behind x xs a (among_contains xs a there)

-- What bounds how long places take and what is kept of notes are together all that is kept of places.
both : (u : UnitForm) → KeepTime u → KeepNotes u → KeepPlaces u
both u time notes k g is = (let t = time k g is in let n = notes k g is in record {
  entry_calls = t.entry_calls;
  leaves = t.leaves;
  zeroes = t.zeroes;
  copies = t.copies;
  zeroes_first = t.zeroes_first;
  copies_first = t.copies_first;
  variables = n.variables;
  written_where = n.written_where;
  noted_where = n.noted_where;
  noted = n.noted;
  right = n.right;
  behind_write = n.behind_write;
  calls = n.calls;
  local = n.local;
  local_at_end = n.local_at_end;
})

-- So it is: what is built is valid, and has the assignments of its program and no others.
pub built_marked : (p : ProgramTree) (u : UnitForm) → IsWellFormed p → IsBuilt p u → AreWellMarked u
built_marked p u formed built =
    let is_valid = valid p u formed built.forms in
    let has = λ (a : Assignment) (among : Among a (assignments_of_program p)). contains_among u.assignments a ((built.assignments a).1 (among_contains (assignments_of_program p) a among)) in
    let only = λ (a : Assignment) (among : Among a u.assignments). contains_among (assignments_of_program p) a ((built.assignments a).0 (among_contains u.assignments a among)) in
    are_well_marked u is_valid built.follows (both u (keep_time p u formed built.forms) (keep_notes p u formed built.forms has only is_valid))
