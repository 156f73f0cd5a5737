use Rattle.session_lines.proofs.Counting.{arrivals}
use Rattle.session_lines.proofs.Stepping.{IsUnderWay}
use Rattle.session_lines.proofs.summary.count_steps.Given as goal

abbrev pub invariant-loop-ending : goal.invariant-loop-ending
invariant-loop-ending l = IsUnderWay l.fn.engine.run l.engine.run l.counts

abbrev pub decreases-loop-ending : goal.decreases-loop-ending
decreases-loop-ending l = arrivals l.engine.run.events
