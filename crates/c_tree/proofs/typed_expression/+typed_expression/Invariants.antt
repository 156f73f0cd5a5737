use Rattle.std.proofs.Common.{◌≤◌}
use Rattle.c_tree.specs.declared.typed_expression.Rvalue.{size-Rvalue}
use Rattle.c_tree.specs.declared.typed_expression.Arguments.{size-Arguments}
use Rattle.c_tree.proofs.typed_expression.+typed_expression.Given as goal

abbrev pub invariant-Arguments::drop-loop-self : goal.invariant-Arguments::drop-loop-self
invariant-Arguments::drop-loop-self l = size-Arguments l.self ≤ size-Arguments l.fn.self

abbrev pub invariant-Rvalue::drop-loop-first : goal.invariant-Rvalue::drop-loop-first
invariant-Rvalue::drop-loop-first l = size-Rvalue l.self ≤ size-Rvalue l.fn.self

abbrev pub decreases-Rvalue::drop-loop-first : goal.decreases-Rvalue::drop-loop-first
decreases-Rvalue::drop-loop-first l = size-Rvalue l.self
