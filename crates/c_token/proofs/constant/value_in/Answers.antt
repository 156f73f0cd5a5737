use Rattle.std.proofs.Common.{◌+◌, arith}
use Rattle.std.proofs.lemmas.Grind.{common_steps}
use Rattle.c_token.proofs.Digits.{value_grows}
use Rattle.c_token.proofs.constant.value_in.Goals as goal

pub returns-then-value-gt4294967295 : goal.returns-then-value-gt4294967295
returns-then-value-gt4294967295 c = grind (arith, common_steps, value_grows c.args.base (c.loop-byte.byte-index + 1) c.args.digits.now c.requires.low)
