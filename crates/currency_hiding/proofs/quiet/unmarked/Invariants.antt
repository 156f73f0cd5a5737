use Rattle.currency_hiding.proofs.QuietLeft.{AreLeft}
use Rattle.currency_hiding.proofs.quiet.unmarked.Given as goal

abbrev pub invariant-loop-place : goal.invariant-loop-place
invariant-loop-place l = AreLeft l.places l.marks l.left.items l.place-index
