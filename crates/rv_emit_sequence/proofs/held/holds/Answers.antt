use Rattle.rv_emit_sequence.proofs.Holding.{found_first, found_later}
use Rattle.rv_emit_sequence.proofs.held.holds.Goals as goal

pub returns-then-one-wanted-2 : goal.returns-then-one-wanted-2
returns-then-one-wanted-2 c = λ same. c.loop-left.invariant (found_first c.loop-left.left.now c.args.wanted _ c.in-len1-up.len_at_least c.if-one-wanted.true c.if-one-wanted-2.true)

pub loop-left-preserved : goal.loop-left-preserved
loop-left-preserved c = λ later. c.loop-left.invariant (found_later c.loop-left.left.now c.args.wanted (record { register = 0; word = 0 }) c.in-len1-up.len_at_least later)
