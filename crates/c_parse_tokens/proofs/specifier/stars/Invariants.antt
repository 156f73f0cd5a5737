use Rattle.std.proofs.Common.{◌≡◌, ◌≤◌, ◌+◌, length}
use Rattle.c_token.specs.Lexemes.{lexemes}
use Rattle.c_parse_tokens.specs.Specifiers.{stars_from}
use Rattle.c_parse_tokens.proofs.specifier.stars.Given as goal

abbrev pub invariant-loop-rest : goal.invariant-loop-rest
invariant-loop-rest l = record {
  same : stars_from 0 (lexemes l.tokens) ≡ stars_from l.count (lexemes l.rest);
  counted : l.count + length l.rest ≤ length l.tokens;
}

abbrev pub decreases-loop-rest : goal.decreases-loop-rest
decreases-loop-rest l = length l.rest
