use Rattle.std.proofs.Common.{◌≡◌, true, rules}
use Rattle.rv_emit_sequence.proofs.Holding.{holds_first}
use Rattle.rv_emit_sequence.proofs.held.holds_all.Goals as goal

pub loop-left-preserved : goal.loop-left-preserved
loop-left-preserved c =
    let is : c.holds.result ≡ true = search rules in
    λ rest. c.loop-left.invariant (holds_first c.args.held.now c.loop-left.left.now _ c.in-len1-up.len_at_least (c.holds.ensures is) rest)
