use Rattle.std.proofs.Common.{◌≡◌, ◌-◌, map, drop}
use Rattle.c_tree.specs.TypedStatements.{declared_view}
use Rattle.c_flow_assigns.specs.PlacesBefore.{declarators_before}
use Rattle.c_flow_assigns.proofs.places_before.after_declarators.Given as goal

abbrev pub invariant-loop-declared : goal.invariant-loop-declared
invariant-loop-declared l = l.left - declarators_before l.at (map declared_view (drop l.declared-index l.all)) ≡ l.number - declarators_before l.at (map declared_view l.all)
