use Rattle.std.proofs.Common.{length}
use Rattle.image_form.specs.Numbers.{assigned_numbers}
use Rattle.image_form.specs.Rules.{RecordsFit}
use Rattle.image_form_drafts.proofs.fitting.assigned_fits.Given as goal

abbrev pub invariant-loop-ahead : goal.invariant-loop-ahead
invariant-loop-ahead l = RecordsFit assigned_numbers l.ahead → RecordsFit assigned_numbers l.assigned

abbrev pub decreases-loop-ahead : goal.decreases-loop-ahead
decreases-loop-ahead l = length l.ahead
