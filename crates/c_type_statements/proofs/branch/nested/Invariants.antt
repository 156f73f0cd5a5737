use Rattle.std.proofs.Common.{◌≡◌, vec_len, Box, Global}
use Rattle.std.specs.Prelude.{map}
use Rattle.std.specs.Option.{option_map}
use Rattle.c_tree.specs.declared.typed_statement.TypedStatement.{TypedStatement}
use Rattle.c_tree.specs.TypedStatements.{statement_view}
use Rattle.c_type_statements.specs.Chains.{built_view, nested}
use Rattle.c_type_statements.proofs.branch.nested.Given as goal

abbrev pub invariant-loop-built : goal.invariant-loop-built
invariant-loop-built l = nested (built_view l.first) (map built_view l.others.items) (option_map (λ (s : Box TypedStatement Global). statement_view s.value) l.inner) ≡ nested (built_view l.fn.first) (map built_view l.fn.others.items) (option_map (λ (s : Box TypedStatement Global). statement_view s.value) l.fn.otherwise)

abbrev pub decreases-loop-built : goal.decreases-loop-built
decreases-loop-built l = vec_len l.others
