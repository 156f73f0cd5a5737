use Rattle.std.proofs.Common.{length}
use Rattle.image_form.specs.Numbers.{call_numbers}
use Rattle.image_form.specs.Rules.{RecordsFit}
use Rattle.image_form_drafts.proofs.fitting.calls_fit.Given as goal

abbrev pub invariant-loop-ahead : goal.invariant-loop-ahead
invariant-loop-ahead l = RecordsFit call_numbers l.ahead → RecordsFit call_numbers l.rows

abbrev pub decreases-loop-ahead : goal.decreases-loop-ahead
decreases-loop-ahead l = length l.ahead
