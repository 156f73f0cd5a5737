use Rattle.std.proofs.Common.{subst, sym}
use Rattle.currency.specs.declared.telling.Told as declared-told
use Rattle.currency.specs.Telling.{IsVerdictOf}
use Rattle.currency.proofs.Adding.{hidden_verdict}
use Rattle.currency.proofs.telling.Told.verdict.Goals as goal

pub returns-in-Hidden : goal.returns-in-Hidden
returns-in-Hidden c = subst (λ (t : declared-told.Told). IsVerdictOf t c.verdict_of.result) (sym c.in-Hidden.is) (hidden_verdict c.in-Hidden.hiding c.verdict_of.result c.verdict_of.ensures)
