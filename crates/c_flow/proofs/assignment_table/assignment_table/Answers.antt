use Rattle.std.proofs.Common.{◌≡◌, List, sym, ap, ◌∙◌, subst}
use Rattle.std.specs.List.{Contains}
use Rattle.places.specs.declared.flow.Assignment.{Assignment}
use Rattle.c_tree.specs.Programs.{program_view}
use Rattle.c_places.specs.Places.{places_of_program}
use Rattle.c_flow.specs.Assigns.{assignments_of_program, numbered_assigned}
use Rattle.c_flow.specs.Tables.{assignments_among}
use Rattle.c_flow.proofs.SameNumbers.{same_assignments}
use Rattle.c_flow.proofs.assignment_table.assignment_table.Goals as goal

pub returns-clause-exact : goal.returns-clause-exact
returns-clause-exact c =
    let p = program_view c.args.program.now in
    let same : assignments_among p c.args.positions.now c.in_ok-all.all.items ≡ assignments_of_program p =
    same_assignments p (places_of_program p) c.args.positions.now c.requires.numbers c.in_ok-all.all.items ∙ ap (numbered_assigned p (places_of_program p)) c.in_ok-all.ensures in
    let passed : assignments_among p c.args.positions.now c.deref.result.now ≡ assignments_of_program p = ap (assignments_among p c.args.positions.now) c.deref.ensures.value ∙ same in
    let exact = c.in_ok-assignments.ensures.exact in
    λ a. (λ h. subst (λ (xs : List Assignment). Contains xs a) passed ((exact a).0 h), λ h. (exact a).1 (subst (λ (xs : List Assignment). Contains xs a) (sym passed) h))
