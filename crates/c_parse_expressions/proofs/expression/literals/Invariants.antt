use Rattle.std.proofs.Common.{◌≡◌, ◌≤◌, length}
use Rattle.c_token.specs.Lexemes.{lexemes}
use Rattle.c_parse_expressions.specs.Expressions.{literals_at_front}
use Rattle.c_parse_expressions.proofs.expression.literals.Given as goal

abbrev pub invariant-loop-rest : goal.invariant-loop-rest
invariant-loop-rest l = record {
  same : literals_at_front l.first (lexemes l.tokens) ≡ literals_at_front l.bytes.items (lexemes l.rest);
  not_longer : length l.rest ≤ length l.tokens;
}

abbrev pub decreases-loop-rest : goal.decreases-loop-rest
decreases-loop-rest l = length l.rest
