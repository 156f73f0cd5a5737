use Rattle.std.proofs.Common.{rules}
use Rattle.c_parse_tokens.specs.Specifiers.{is_type}
use Rattle.c_parse_tokens.proofs.specifier.specifiers.Goals as goal

pub loop-rest-init : goal.loop-rest-init
unfolding is_type
loop-rest-init c = rw c.none-found.ensures (search rules)
