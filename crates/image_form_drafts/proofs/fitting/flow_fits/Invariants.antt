use Rattle.std.proofs.Common.{length}
use Rattle.image_form.specs.Numbers.{flow_numbers}
use Rattle.image_form.specs.Rules.{RecordsFit}
use Rattle.image_form_drafts.proofs.fitting.flow_fits.Given as goal

abbrev pub invariant-loop-ahead : goal.invariant-loop-ahead
invariant-loop-ahead l = RecordsFit flow_numbers l.ahead → RecordsFit flow_numbers l.flow

abbrev pub decreases-loop-ahead : goal.decreases-loop-ahead
decreases-loop-ahead l = length l.ahead
