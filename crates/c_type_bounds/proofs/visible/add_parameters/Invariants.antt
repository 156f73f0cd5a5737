use Rattle.std.proofs.Common.{◌≡◌, ◌+◌, ◌-◌}
use Rattle.std.specs.Prelude.{map}
use Rattle.c_tree.specs.Programs.{automatic_view}
use Rattle.c_places.specs.Places.{numbers_from}
use Rattle.c_type_bounds.specs.Visible.{behind_scope, names_view}
use Rattle.c_type_bounds.proofs.visible.add_parameters.Given as goal

abbrev pub invariant-loop-i : goal.invariant-loop-i
invariant-loop-i l =
    behind_scope (map automatic_view l.automatics) (numbers_from (l.f.first_variable + l.i) (l.f.parameters - l.i)) (names_view l.names.items)
    ≡ behind_scope (map automatic_view l.automatics) (numbers_from l.f.first_variable l.f.parameters) (names_view l.fn.names.items)
