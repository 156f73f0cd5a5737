use Rattle.std.proofs.Common.{◌≡◌, ◌≤◌}
use Rattle.std.specs.Prelude.{map}
use Rattle.c_tree.specs.declared.typed_statement.TypedStatements.{size-TypedStatements}
use Rattle.c_tree.specs.Programs.{automatic_view}
use Rattle.c_tree.specs.TypedStatements.{statements_view}
use Rattle.c_type_bounds.specs.Visible.{behind_statements, names_view}
use Rattle.c_type_bounds.proofs.NamesBehind.{count_from}
use Rattle.c_type_bounds.proofs.visible.+visible.Given as goal

abbrev pub invariant-at_statements-loop-left : goal.invariant-at_statements-loop-left
invariant-at_statements-loop-left l = record {
  count : count_from (map automatic_view l.automatics) l.total (statements_view l.left) (names_view l.names.items) ≡ count_from (map automatic_view l.automatics) 0 (statements_view l.all) (names_view l.fn.names.items);
  names : behind_statements (map automatic_view l.automatics) (statements_view l.left) (names_view l.names.items)
      ≡ behind_statements (map automatic_view l.automatics) (statements_view l.all) (names_view l.fn.names.items);
  within : size-TypedStatements l.left ≤ size-TypedStatements l.all;
}
