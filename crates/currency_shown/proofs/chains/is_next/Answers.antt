use Rattle.std.proofs.Common.{ap, ◌∙◌}
use Rattle.graph_core.specs.Graphs.{Jump}
use Rattle.currency_shown.proofs.chains.is_next.Goals as goal

pub returns : goal.returns
returns c = λ e. (c.if-found-number.false, record { jump = c.in-Some.ensures.some ∙ ap Jump c.if-next-to.false; later = c.is_later.ensures.later e; within = c.is_later.ensures.within e })
