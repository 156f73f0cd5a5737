use Rattle.std.proofs.Common.{◌≡◌, ◌<◌, ◌≤◌, length, true}
use Rattle.c_token.specs.Lexemes.{lexemes}
use Rattle.c_parse_tokens.specs.Specifiers.{no_specifiers, is_type, specifiers_from}
use Rattle.c_parse_tokens.proofs.specifier.specifiers.Given as goal

abbrev pub invariant-loop-rest : goal.invariant-loop-rest
invariant-loop-rest l = record {
  same : specifiers_from l.place no_specifiers (lexemes l.tokens) ≡ specifiers_from l.place l.found (lexemes l.rest);
  not_longer : length l.rest ≤ length l.tokens;
  shorter : is_type l.found ≡ true → length l.rest < length l.tokens;
}

abbrev pub decreases-loop-rest : goal.decreases-loop-rest
decreases-loop-rest l = length l.rest
