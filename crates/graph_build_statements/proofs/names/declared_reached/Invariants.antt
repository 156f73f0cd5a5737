use Rattle.std.proofs.Common.{◌≡◌, map, drop}
use Rattle.c_tree.specs.TypedStatements.{declared_view}
use Rattle.graph_build_statements.specs.Coding.{coding_view}
use Rattle.graph_build_statements.specs.Reached.{declared_reached}
use Rattle.graph_build_statements.proofs.names.declared_reached.Given as goal

abbrev pub invariant-loop-declared : goal.invariant-loop-declared
invariant-loop-declared l =
    declared_reached (coding_view l.form) (map declared_view (drop l.declared-index l.all)) l.at ≡ declared_reached (coding_view l.form) (map declared_view l.all) l.free
