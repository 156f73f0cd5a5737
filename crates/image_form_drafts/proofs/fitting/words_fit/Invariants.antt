use Rattle.std.proofs.Common.{length}
use Rattle.image_form.specs.Rules.{AllFit}
use Rattle.image_form_drafts.proofs.fitting.words_fit.Given as goal

abbrev pub invariant-loop-ahead : goal.invariant-loop-ahead
invariant-loop-ahead l = AllFit l.ahead → AllFit l.words

abbrev pub decreases-loop-ahead : goal.decreases-loop-ahead
decreases-loop-ahead l = length l.ahead
