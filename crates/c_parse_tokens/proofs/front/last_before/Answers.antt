use Rattle.std.proofs.Common.{rules, ◌≡◌}
use Rattle.c_parse_tokens.specs.Front.{last_before}
use Rattle.c_parse_tokens.proofs.Tokens.{length_lexemes, lexemes_drop}
use Rattle.c_parse_tokens.proofs.front.last_before.Goals as goal

pub returns : goal.returns
unfolding last_before
returns c = search (rules, length_lexemes, lexemes_drop)
