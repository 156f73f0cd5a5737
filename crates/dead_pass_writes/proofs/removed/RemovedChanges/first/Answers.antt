use Rattle.std.proofs.Common.{sym, ap, ◌∙◌}
use Rattle.dead_pass_writes.specs.RemovedChangesTelling.{first_of}
use Rattle.dead_pass_writes.proofs.FirstAndLast.{first_told, none_first}
use Rattle.dead_pass_writes.proofs.removed.RemovedChanges.first.Goals as goal

pub returns-in-Some-clause-first : goal.returns-in-Some-clause-first
returns-in-Some-clause-first c = λ log is. first_told log c.args.place.0 c.args.var.0 _ (ap first_of (sym (is c.args.place.0 c.args.var.0) ∙ sym c.in-Some.ensures.value))

pub returns-in-None-clause-none : goal.returns-in-None-clause-none
returns-in-None-clause-none c = λ log is q. none_first log c.args.place.0 c.args.var.0 (ap first_of (sym (is c.args.place.0 c.args.var.0) ∙ sym c.in-None.ensures.value))
