use Rattle.std.proofs.Common.{length}
use Rattle.image_form.specs.Numbers.{row_numbers}
use Rattle.image_form.specs.Rules.{RecordsFit}
use Rattle.image_form_drafts.proofs.fitting.rows_fit.Given as goal

abbrev pub invariant-loop-ahead : goal.invariant-loop-ahead
invariant-loop-ahead l = RecordsFit (row_numbers l.level) l.ahead → RecordsFit (row_numbers l.level) l.rows

abbrev pub decreases-loop-ahead : goal.decreases-loop-ahead
decreases-loop-ahead l = length l.ahead
