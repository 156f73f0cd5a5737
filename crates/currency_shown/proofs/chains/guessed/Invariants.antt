use Rattle.std.proofs.Common.{◌≡◌, length}
use Rattle.currency_shown.proofs.chains.guessed.Given as goal

abbrev pub invariant-loop-number : goal.invariant-loop-number
invariant-loop-number l = length l.before.items ≡ length l.blocks
