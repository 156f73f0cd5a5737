use Rattle.std.proofs.Common.{◌≡◌, ◌+◌, drop}
use Rattle.std.specs.List.{prefix_len}
use Rattle.c_token.specs.Constants.{is_digit_in}
use Rattle.c_token.proofs.constant.digits_len.Given as goal

abbrev pub invariant-loop-i : goal.invariant-loop-i
invariant-loop-i l = prefix_len (is_digit_in l.base) l.text ≡ l.i + prefix_len (is_digit_in l.base) (drop l.i l.text)
