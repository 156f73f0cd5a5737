use Rattle.std.proofs.Common.{◌≡◌, ◌<◌, ◌+◌, ap, arith, sym, ◌∙◌}
use Rattle.std.specs.Prelude.{map}
use Rattle.c_tree.specs.Programs.{automatic_view}
use Rattle.c_places.proofs.Parameters.{next_number, no_number}
use Rattle.c_type_bounds.specs.Visible.{behind_one, behind_scope, names_view}
use Rattle.c_type_bounds.proofs.visible.add_parameters.Goals as goal

pub loop-i-preserved : goal.loop-i-preserved
loop-i-preserved c =
    let vs = map automatic_view c.args.automatics.now in
    let first = c.args.f.now.first_variable in
    let count = c.args.f.now.parameters in
    let names = names_view c.loop-i.names.items in
    let lt : c.loop-i.i < count = omega arith in
    let next = ap (λ ks. behind_scope vs ks names) (next_number first c.loop-i.i count lt) in
    let one : names_view c.add_variable.new.names.items ≡ behind_one vs (first + c.loop-i.i) names = c.in_ok-add_variable.ensures in
    rw one (sym next ∙ c.loop-i.invariant)

pub returns : goal.returns
returns c =
    let vs = map automatic_view c.args.automatics.now in
    let names = names_view c.loop-i.names.items in
    let none = ap (λ ks. behind_scope vs ks names) (no_number c.args.f.now.first_variable c.loop-i.i c.args.f.now.parameters (omega arith)) in
    sym none ∙ c.loop-i.invariant
