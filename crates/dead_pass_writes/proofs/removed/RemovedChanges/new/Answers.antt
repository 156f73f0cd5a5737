use Rattle.std.proofs.Common.{◌≡◌, ◌+◌, get_or, length, arith}
use Rattle.graph_core.specs.Graphs.{logged}
use Rattle.dead_pass_writes.proofs.Steps.{front_same, rest_count}
use Rattle.dead_pass_writes.proofs.FirstAndLast.{change_done, change_step}
use Rattle.dead_pass_writes.proofs.removed.RemovedChanges.new.Goals as goal
use Rattle.std.proofs.Common.{refl}

pub loop-ahead-preserved : goal.loop-ahead-preserved
loop-ahead-preserved c =
    let counted : c.loop-ahead.number + length c.loop-ahead.ahead.now ≡ length c.args.changes.now = c.loop-ahead.invariant.counted in
    let some = c.in-len1-up.len_at_least in
    let rest = rest_count c.loop-ahead.ahead.now some in
    record {
      counted = omega (arith, counted, rest);
      same = λ p v. change_step logged c.loop-ahead.ahead.now (get_or c.loop-ahead.ahead.now 0 _) p v c.loop-ahead.number _ _ _ _ some (front_same c.loop-ahead.ahead.now _ _ some) refl (c.in_ok-add_change.ensures p v) (c.loop-ahead.invariant.same p v);
    }

pub returns : goal.returns
returns c = λ p v. change_done logged _ p v c.loop-ahead.number _ _ c.in_default.len_below (c.loop-ahead.invariant.same p v)
