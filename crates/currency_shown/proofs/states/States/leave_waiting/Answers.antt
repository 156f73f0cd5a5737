use Rattle.currency_shown.proofs.states.States.leave_waiting.Goals as goal

pub returns : goal.returns
returns c = λ linked before. c.in_ok-leave.ensures linked (record { count = before.count; each = before.each })
