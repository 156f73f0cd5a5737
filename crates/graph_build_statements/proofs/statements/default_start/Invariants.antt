use Rattle.std.proofs.Common.{◌≡◌}
use Rattle.c_tree.specs.TypedStatements.{statements_view}
use Rattle.graph_build_statements.specs.Forms.{default_start}
use Rattle.graph_build_statements.proofs.statements.default_start.Given as goal

abbrev pub invariant-loop-left : goal.invariant-loop-left
invariant-loop-left l = default_start (statements_view l.left) l.next ≡ default_start (statements_view l.all) l.next
