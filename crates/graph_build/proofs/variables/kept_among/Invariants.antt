use Rattle.std.proofs.Common.{◌≡◌, ◌++◌, drop}
use Rattle.graph_build_names.specs.Names.{names_view}
use Rattle.graph_build.specs.Units.{kept_among}
use Rattle.graph_build.proofs.variables.kept_among.Given as goal

abbrev pub invariant-loop-variable : goal.invariant-loop-variable
invariant-loop-variable l =
    l.found.items ++ kept_among (names_view l.names) (drop l.variable-index l.variables) ≡ kept_among (names_view l.names) l.variables
