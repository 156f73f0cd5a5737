use Rattle.std.proofs.Common.{◌≡◌, List, sym, subst}
use Rattle.std.specs.List.{Contains}
use Rattle.places.specs.declared.flow.Assignment.{Assignment}
use Rattle.c_tree.specs.Programs.{program_view}
use Rattle.c_flow.specs.Tables.{assignments_among}
use Rattle.c_flow.proofs.InOrder.{assignments_in_order}
use Rattle.c_flow.proofs.assignment_table.assignments_of.Goals as goal

pub returns-clause-ordered : goal.returns-clause-ordered
returns-clause-ordered c = assignments_in_order _ c.put_in_order.ensures.ordered

pub returns-clause-exact : goal.returns-clause-exact
returns-clause-exact c =
    let same : c.in_ok-assignments.assignments.items ≡ assignments_among (program_view c.args.program.now) c.args.positions.now c.args.all.now = c.in_ok-assignments.ensures in
    λ s. (λ h. subst (λ (xs : List Assignment). Contains xs s) same (c.put_in_order.ensures.none_added s h), λ h. c.put_in_order.ensures.kept s (subst (λ (xs : List Assignment). Contains xs s) (sym same) h))
