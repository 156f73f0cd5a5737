use Rattle.std.proofs.Common.{◌≡◌, ◌<◌, ◌≤◌, length, ℕ, ◌+◌, ◌*◌}
use Rattle.std.specs.Prelude.{map}
use Rattle.c_token.specs.Lexemes.{lexemes}
use Rattle.c_tree.specs.Statements.{statement_view, branch_view}
use Rattle.c_parse_tokens.specs.Front.{spot_at}
use Rattle.c_parse_expressions.specs.Expressions.{nesting}
use Rattle.c_parse_statements.specs.Statements.{statements, block, statements_from, if_statement, else_from}
use Rattle.c_parse_statements.proofs.statement.+statement.Given as goal

abbrev pub decreases-nested_statement : goal.decreases-nested_statement
decreases-nested_statement l = 8 * l.depth

abbrev pub decreases-block : goal.decreases-block
decreases-block l = 8 * l.depth + 1

abbrev pub decreases-branch : goal.decreases-branch
decreases-branch l = 8 * l.depth + 1

abbrev pub decreases-while_statement : goal.decreases-while_statement
decreases-while_statement l = 8 * l.depth + 1

abbrev pub decreases-do_statement : goal.decreases-do_statement
decreases-do_statement l = 8 * l.depth + 1

abbrev pub decreases-for_statement : goal.decreases-for_statement
decreases-for_statement l = 8 * l.depth + 1

abbrev pub decreases-if_statement : goal.decreases-if_statement
decreases-if_statement l = 8 * l.depth + 2

abbrev pub decreases-switch_statement : goal.decreases-switch_statement
decreases-switch_statement l = 8 * l.depth + 2

abbrev pub decreases-unlabeled : goal.decreases-unlabeled
decreases-unlabeled l = 8 * l.depth + 3

abbrev pub decreases-statement : goal.decreases-statement
decreases-statement l = 8 * l.depth + 4

abbrev pub invariant-block-loop-behind : goal.invariant-block-loop-behind
invariant-block-loop-behind l = record {
  shorter : length l.rest < length l.tokens;
  same : (n : ℕ) × (length l.rest < n) × (block (statements l.depth) l.may_declare (lexemes l.tokens)
      ≡ statements_from n (statements l.depth) l.may_declare (spot_at (lexemes l.tokens)) (map statement_view l.statements.items) (lexemes l.rest));
}

abbrev pub decreases-block-loop-behind : goal.decreases-block-loop-behind
decreases-block-loop-behind l = length l.rest

abbrev pub invariant-if_statement-loop-after : goal.invariant-if_statement-loop-after
invariant-if_statement-loop-after l = record {
  shorter : length l.rest < length l.tokens;
  same : (n : ℕ) × (length l.rest ≤ n) × (if_statement (nesting l.depth) (statements l.depth) (lexemes l.tokens)
      ≡ else_from n (nesting l.depth) (statements l.depth) (branch_view l.first.value) (map branch_view l.others.items) (lexemes l.rest));
}

abbrev pub decreases-if_statement-loop-after : goal.decreases-if_statement-loop-after
decreases-if_statement-loop-after l = length l.rest
