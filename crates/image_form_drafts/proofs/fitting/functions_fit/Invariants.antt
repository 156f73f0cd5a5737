use Rattle.std.proofs.Common.{length}
use Rattle.image_form.specs.Numbers.{function_numbers}
use Rattle.image_form.specs.Rules.{RecordsFit}
use Rattle.image_form_drafts.proofs.fitting.functions_fit.Given as goal

abbrev pub invariant-loop-ahead : goal.invariant-loop-ahead
invariant-loop-ahead l = RecordsFit (function_numbers l.level) l.ahead → RecordsFit (function_numbers l.level) l.functions

abbrev pub decreases-loop-ahead : goal.decreases-loop-ahead
decreases-loop-ahead l = length l.ahead
