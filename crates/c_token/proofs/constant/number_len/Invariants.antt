use Rattle.std.proofs.Common.{◌≡◌, ◌+◌, drop}
use Rattle.std.specs.List.{prefix_len}
use Rattle.c_token.specs.Constants.{is_number_byte}
use Rattle.c_token.proofs.constant.number_len.Given as goal

abbrev pub invariant-loop-i : goal.invariant-loop-i
invariant-loop-i l = prefix_len is_number_byte l.text ≡ l.i + prefix_len is_number_byte (drop l.i l.text)
