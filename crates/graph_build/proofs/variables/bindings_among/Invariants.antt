use Rattle.std.proofs.Common.{◌≡◌, ◌++◌, map, drop}
use Rattle.graph_core.specs.Graphs.{binding_view}
use Rattle.graph_build_names.specs.Names.{names_view}
use Rattle.graph_build.specs.Units.{binding_of}
use Rattle.graph_build.proofs.variables.bindings_among.Given as goal

abbrev pub invariant-loop-variable : goal.invariant-loop-variable
invariant-loop-variable l =
    map binding_view l.found.items ++ map (binding_of (names_view l.names)) (drop l.variable-index l.parameters) ≡ map (binding_of (names_view l.names)) l.parameters
