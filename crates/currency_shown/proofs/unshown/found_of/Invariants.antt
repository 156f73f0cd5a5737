use Rattle.std.proofs.Common.{◌≡◌, ◌+◌, false}
use Rattle.currency_shown.specs.Chains.{ranks, AreFull}
use Rattle.currency_shown.specs.Survey.{IsWalked}
use Rattle.currency_shown.proofs.Walking.{one_if}
use Rattle.currency_shown.proofs.unshown.found_of.Given as goal

abbrev pub invariant-loop-is_new : goal.invariant-loop-is_new
invariant-loop-is_new l = record {
  full : AreFull l.survey.function.now l.states;
  walked : l.is_new ≡ false → IsWalked l.survey l.states l.found l.entered;
}

abbrev pub decreases-loop-is_new : goal.decreases-loop-is_new
decreases-loop-is_new l = ranks l.survey.function.now l.states + one_if l.is_new
