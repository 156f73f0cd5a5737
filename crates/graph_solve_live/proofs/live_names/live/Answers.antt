use Rattle.std.proofs.Common.{sym, subst}
use Rattle.graph_core.specs.Graphs.{graph_view}
use Rattle.graph_solve_live.specs.Live.{AreLive}
use Rattle.graph_solve_live.specs.LiveRows.{starts_of}
use Rattle.graph_solve_live.proofs.live_names.live.Goals as goal

pub returns : goal.returns
returns c =
    let graph = graph_view c.args.graph.now in
    let live = c.in_ok-live.live in
    subst (λ ss. AreLive graph ss c.in_ok-ends.ends.items) (sym c.in_ok-starts.ensures) (subst (λ es. AreLive graph (starts_of live) es) (sym c.in_ok-ends.ensures) c.in_ok-live.ensures.live)
