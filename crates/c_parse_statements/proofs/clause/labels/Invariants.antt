use Rattle.std.proofs.Common.{◌≡◌, ◌<◌, ◌+◌, ◌≤◌, ℕ, [], length}
use Rattle.std.specs.Prelude.{map}
use Rattle.c_token.specs.Lexemes.{lexemes}
use Rattle.c_tree.specs.Statements.{label_view}
use Rattle.c_parse_expressions.specs.Expressions.{nesting}
use Rattle.c_parse_statements.specs.Clauses.{labels}
use Rattle.c_parse_statements.proofs.clause.labels.Given as goal

abbrev pub invariant-loop-labels : goal.invariant-loop-labels
invariant-loop-labels l = record {
  not_longer : length l.rest ≤ length l.tokens;
  same : (n : ℕ) × (length l.rest < n) × (labels (length (lexemes l.tokens) + 1) (nesting l.depth) [] (lexemes l.tokens)
      ≡ labels n (nesting l.depth) (map label_view l.labels.items) (lexemes l.rest));
}

abbrev pub decreases-loop-labels : goal.decreases-loop-labels
decreases-loop-labels l = length l.rest
