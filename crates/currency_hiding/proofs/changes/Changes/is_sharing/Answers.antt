use Rattle.std.proofs.Common.{true≢false, sym, ap}
use Rattle.std.proofs.lemmas.Option.{none-some}
use Rattle.currency_hiding.specs.Changes.{hides_as}
use Rattle.currency_hiding.proofs.changes.Changes.is_sharing.Goals as goal

-- src/changes.rt:125:5
pub returns-in-None : goal.returns-in-None
returns-in-None c = ((λ e. absurd (true≢false (sym e))), λ is. absurd (none-some is.change (c.in-None.ensures.all is.change is.is is.of (ap hides_as is.reused))))
