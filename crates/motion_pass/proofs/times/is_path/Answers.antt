use Rattle.std.proofs.Common.{◌≤◌, length, arith}
use Rattle.graph_core.specs.Graphs.{graph_view}
use Rattle.motion_pass.proofs.Entering.{has_some, one_more, path_some, tells_path}
use Rattle.motion_pass.proofs.times.is_path.Goals as goal

pub loop-index-preserved : goal.loop-index-preserved
loop-index-preserved c = one_more (graph_view c.args.graph.now).blocks c.args.path.now c.loop-index.index c.loop-index.invariant (c.is_entered.ensures.0 c.if-not-is_entered.false)

pub returns : goal.returns
returns c =
    let blocks = (graph_view c.args.graph.now).blocks in
    let path = c.args.path.now in
    let all : length path ≤ c.loop-index.index = omega (arith, c.loop-index-test.false) in
    let some = has_some c.is_empty.result (length path) c.is_empty.ensures in
    (λ so. tells_path blocks path c.loop-index.index all (some.0 so) c.loop-index.invariant, λ is. some.1 (path_some blocks path is))
