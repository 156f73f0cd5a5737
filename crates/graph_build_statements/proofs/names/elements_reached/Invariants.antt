use Rattle.std.proofs.Common.{◌≡◌, max, map, drop}
use Rattle.c_tree.specs.TypedExpressions.{rvalue_view}
use Rattle.graph_build_statements.specs.Coding.{coding_view}
use Rattle.graph_build_statements.specs.Reached.{elements_reached}
use Rattle.graph_build_statements.proofs.names.elements_reached.Given as goal

abbrev pub invariant-loop-e : goal.invariant-loop-e
invariant-loop-e l =
    max l.most (elements_reached (coding_view l.form) (map rvalue_view (drop l.e-index l.all)) l.at) ≡ elements_reached (coding_view l.form) (map rvalue_view l.all) l.free
