use Rattle.std.proofs.Common.{◌+◌, true≢false, refl, sym, subst, arith, get_or}
use Rattle.graph_solve_problem.specs.declared.flow_graph.Edge.{Edge}
use Rattle.graph_solve_problem.specs.Rounds.{IsRelaxed, rests}
use Rattle.graph_solve_problem.proofs.Rounding.{IsUnderWay, fell_more, rested_more}
use Rattle.graph_solve_problem.proofs.rounds.round.Goals as goal
use Rattle.graph_solve_problem.proofs.rounds.round.Goals.{then-branch, else-branch}

pub loop-edge-init : goal.loop-edge-init
loop-edge-init g c = record {
  counted = c.requires.counted;
  follows = rests;
  size = refl;
  settled = λ q k d low lt. absurd (omega (arith, lt));
  not_more = omega arith;
  fell = λ q. absurd (true≢false (sym q));
}

pub loop-edge-preserved : goal.loop-edge-preserved
loop-edge-preserved g c =
    let flow = g.P.Problem.flow c.args.problem.now in
    let none : Edge = record { from = 0; to = 0 } in
    let before : IsUnderWay flow c.args.height c.args.edges.now c.args.values.now.items c.args.counts.now.items c.loop-edge.edge-index c.loop-edge.changed c.loop-edge.values.items c.loop-edge.counts.items = record {
      counted = c.loop-edge.invariant.counted;
      follows = c.loop-edge.invariant.follows;
      size = c.loop-edge.invariant.size;
      settled = c.loop-edge.invariant.settled;
      not_more = c.loop-edge.invariant.not_more;
      fell = c.loop-edge.invariant.fell;
    } in
    let after : IsUnderWay flow c.args.height c.args.edges.now c.args.values.now.items c.args.counts.now.items (c.loop-edge.edge-index + 1) c.if-branch.changed c.relax.new.values.items c.relax.new.counts.items = elim c.if-branch.branch [
      | then-branch w ↦
          let fall = subst (λ b. IsRelaxed flow (get_or c.args.edges.now c.loop-edge.edge-index none) c.loop-edge.values.items c.loop-edge.counts.items c.relax.new.values.items c.relax.new.counts.items b) w.if-branch.true c.in_ok-relax.ensures in
          subst (λ b. IsUnderWay flow c.args.height c.args.edges.now c.args.values.now.items c.args.counts.now.items (c.loop-edge.edge-index + 1) b c.relax.new.values.items c.relax.new.counts.items) (sym w.changed-is)
          (fell_more flow c.args.height c.args.edges.now c.args.values.now.items c.args.counts.now.items c.requires.height c.loop-edge.edge-index none c.loop-edge-test.true c.loop-edge.changed c.loop-edge.values.items c.loop-edge.counts.items c.relax.new.values.items c.relax.new.counts.items before fall)
      | else-branch w ↦
          let rest = subst (λ b. IsRelaxed flow (get_or c.args.edges.now c.loop-edge.edge-index none) c.loop-edge.values.items c.loop-edge.counts.items c.relax.new.values.items c.relax.new.counts.items b) w.if-branch.false c.in_ok-relax.ensures in
          subst (λ b. IsUnderWay flow c.args.height c.args.edges.now c.args.values.now.items c.args.counts.now.items (c.loop-edge.edge-index + 1) b c.relax.new.values.items c.relax.new.counts.items) (sym w.changed-is)
          (rested_more flow c.args.height c.args.edges.now c.args.values.now.items c.args.counts.now.items c.requires.height c.loop-edge.edge-index none c.loop-edge-test.true c.loop-edge.changed c.loop-edge.values.items c.loop-edge.counts.items c.relax.new.values.items c.relax.new.counts.items before rest.0 rest.1 rest.2)
    ] in
    record {
      counted = after.counted;
      follows = after.follows;
      size = after.size;
      settled = after.settled;
      not_more = after.not_more;
      fell = after.fell;
    }
