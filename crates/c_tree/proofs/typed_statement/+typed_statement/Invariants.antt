use Rattle.std.proofs.Common.{◌≤◌}
use Rattle.c_tree.specs.declared.typed_statement.TypedStatement.{size-TypedStatement}
use Rattle.c_tree.specs.declared.typed_statement.TypedStatements.{size-TypedStatements}
use Rattle.c_tree.proofs.typed_statement.+typed_statement.Given as goal

abbrev pub invariant-TypedStatement::drop-loop-last : goal.invariant-TypedStatement::drop-loop-last
invariant-TypedStatement::drop-loop-last l = size-TypedStatement l.self ≤ size-TypedStatement l.fn.self

abbrev pub decreases-TypedStatement::drop-loop-last : goal.decreases-TypedStatement::drop-loop-last
decreases-TypedStatement::drop-loop-last l = size-TypedStatement l.self

abbrev pub invariant-TypedStatements::drop-loop-self : goal.invariant-TypedStatements::drop-loop-self
invariant-TypedStatements::drop-loop-self l = size-TypedStatements l.self ≤ size-TypedStatements l.fn.self
