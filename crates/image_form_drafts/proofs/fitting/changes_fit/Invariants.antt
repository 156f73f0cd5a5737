use Rattle.std.proofs.Common.{length}
use Rattle.image_form.specs.Numbers.{change_numbers}
use Rattle.image_form.specs.Rules.{RecordsFit}
use Rattle.image_form_drafts.proofs.fitting.changes_fit.Given as goal

abbrev pub invariant-loop-ahead : goal.invariant-loop-ahead
invariant-loop-ahead l = RecordsFit change_numbers l.ahead → RecordsFit change_numbers l.changes

abbrev pub decreases-loop-ahead : goal.decreases-loop-ahead
decreases-loop-ahead l = length l.ahead
