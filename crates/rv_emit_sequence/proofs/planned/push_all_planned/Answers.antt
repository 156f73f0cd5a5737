use Rattle.std.proofs.Common.{◌≡◌, true, rules}
use Rattle.graph_core.specs.Graphs.{graph_view}
use Rattle.rv_emit_plan.specs.Plans.{held_at}
use Rattle.rv_emit_sequence.specs.Sequences.{ground_of, sequence_view}
use Rattle.rv_emit_sequence.proofs.PlannedBlocks.{put_step}
use Rattle.rv_emit_sequence.proofs.planned.push_all_planned.Goals as goal

pub loop-left-preserved : goal.loop-left-preserved
loop-left-preserved c =
    let is : c.in_ok-push_planned.field-0 ≡ true = search rules in
    λ well t rest. c.loop-left.invariant well t
    (put_step (ground_of c.args.storage.now) (graph_view c.args.graph.now).blocks (held_at c.args.plan.now) c.loop-left.left.now _ c.next_of-next.result.0 (sequence_view c.loop-left.sequence) (sequence_view c.push_planned.new.self) t
    c.in-len1-up.len_at_least c.next_of-next.ensures (c.in_ok-push_planned.ensures is well) rest)
