use Rattle.std.proofs.Common.{sym, ap, ◌∙◌}
use Rattle.dead_pass_writes.specs.RemovedChangesTelling.{last_of}
use Rattle.dead_pass_writes.proofs.FirstAndLast.{last_told, none_last}
use Rattle.dead_pass_writes.proofs.removed.RemovedChanges.last.Goals as goal

pub returns-in-Some-clause-last : goal.returns-in-Some-clause-last
returns-in-Some-clause-last c = λ log is. last_told log c.args.place.0 c.args.var.0 _ (ap last_of (sym (is c.args.place.0 c.args.var.0) ∙ sym c.in-Some.ensures.value))

pub returns-in-None-clause-none : goal.returns-in-None-clause-none
returns-in-None-clause-none c = λ log is q. none_last log c.args.place.0 c.args.var.0 (ap last_of (sym (is c.args.place.0 c.args.var.0) ∙ sym c.in-None.ensures.value))
