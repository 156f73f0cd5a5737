use Rattle.std.proofs.Common.{length}
use Rattle.image_form.specs.Numbers.{member_numbers}
use Rattle.image_form.specs.Rules.{RecordsFit}
use Rattle.image_form_drafts.proofs.fitting.members_fit.Given as goal

abbrev pub invariant-loop-ahead : goal.invariant-loop-ahead
invariant-loop-ahead l = RecordsFit member_numbers l.ahead → RecordsFit member_numbers l.members

abbrev pub decreases-loop-ahead : goal.decreases-loop-ahead
decreases-loop-ahead l = length l.ahead
