use Rattle.std.proofs.Common.{◌≡◌, sym, ◌∙◌, subst, length, replicate, arith}
use Rattle.graph_solve_problem.specs.Solution.{control_flow, AreWithin}
use Rattle.graph_solve_problem.specs.Rounds.{AreAllSettled, AreDirected, AreFalling, Follows}
use Rattle.graph_solve_problem.proofs.Falling.{first_falling, follows_falling, met}
use Rattle.graph_solve_problem.proofs.Directing.{directed_within}
use Rattle.graph_solve_problem.proofs.Solved.{all_values, follows_size}
use Rattle.graph_solve_problem.proofs.plain.values_met.Goals as goal

pub loop-counts-init : goal.loop-counts-init
loop-counts-init g c =
    let flow = g.P.Problem.flow c.args.problem.now in
    let blocks : c.len.result ≡ length c.args.graph.now.ends.items = omega arith in
    let zeros : c.in_ok-counts.counts.items ≡ replicate (length c.args.graph.now.ends.items) 0 = subst (λ n. c.in_ok-counts.counts.items ≡ replicate n 0) blocks (c.in_ok-counts.ensures.items_if_clones_equal (λ y e. e)) in
    record {
      state = subst (λ cs. AreFalling flow (control_flow c.args.graph.now) c.in_ok-values.values.items cs) (sym zeros) (first_falling flow (control_flow c.args.graph.now) (length c.args.graph.now.ends.items) c.in_ok-values.values.items c.in_ok-values.ensures);
      size = c.in_ok-values.ensures.each;
    }

pub round-requires-clause-within : goal.round-requires-clause-within
round-requires-clause-within g c =
    subst (λ es. AreWithin (length c.loop-counts.values.items) es) (sym c.deref.ensures.value)
    (subst (λ n. AreWithin n c.in_ok-edges.edges.items) (sym c.loop-counts.invariant.size)
    (directed_within c.args.graph.now c.in_ok-edges.edges.items c.args.forward (length c.args.graph.now.ends.items) c.in_ok-edges.ensures c.requires.within))

pub loop-counts-preserved : goal.loop-counts-preserved
loop-counts-preserved g c =
    let flow = g.P.Problem.flow c.args.problem.now in
    let control = control_flow c.args.graph.now in
    let directed : AreDirected control flow.forward c.in_ok-edges.edges.items = subst (λ f. AreDirected control f c.in_ok-edges.edges.items) c.requires.direction c.in_ok-edges.ensures in
    let follows : Follows flow c.in_ok-edges.edges.items c.loop-counts.values.items c.loop-counts.counts.items c.round.new.values.items c.round.new.counts.items =
    subst (λ es. Follows flow es c.loop-counts.values.items c.loop-counts.counts.items c.round.new.values.items c.round.new.counts.items) c.deref.ensures.value c.in_ok-round.ensures.follows in
    record {
      state = follows_falling flow control c.in_ok-edges.edges.items c.loop-counts.values.items c.loop-counts.counts.items directed c.loop-counts.invariant.state follows;
      size = follows_size flow c.in_ok-edges.edges.items c.loop-counts.values.items c.loop-counts.counts.items follows ∙ c.loop-counts.invariant.size;
    }

pub returns-clause-each : goal.returns-clause-each
returns-clause-each g c = follows_size (g.P.Problem.flow c.args.problem.now) c.deref.result.now c.loop-counts.values.items c.loop-counts.counts.items c.in_ok-round.ensures.follows ∙ c.loop-counts.invariant.size

pub returns-clause-met : goal.returns-clause-met
returns-clause-met g c =
    let flow = g.P.Problem.flow c.args.problem.now in
    let control = control_flow c.args.graph.now in
    let directed : AreDirected control flow.forward c.in_ok-edges.edges.items = subst (λ f. AreDirected control f c.in_ok-edges.edges.items) c.requires.direction c.in_ok-edges.ensures in
    let follows : Follows flow c.in_ok-edges.edges.items c.loop-counts.values.items c.loop-counts.counts.items c.round.new.values.items c.round.new.counts.items =
    subst (λ es. Follows flow es c.loop-counts.values.items c.loop-counts.counts.items c.round.new.values.items c.round.new.counts.items) c.deref.ensures.value c.in_ok-round.ensures.follows in
    let size : length c.args.graph.now.ends.items ≡ length c.round.new.values.items = sym (follows_size flow c.in_ok-edges.edges.items c.loop-counts.values.items c.loop-counts.counts.items follows ∙ c.loop-counts.invariant.size) in
    met flow control c.in_ok-edges.edges.items c.round.new.values.items c.round.new.counts.items directed
    (follows_falling flow control c.in_ok-edges.edges.items c.loop-counts.values.items c.loop-counts.counts.items directed c.loop-counts.invariant.state follows)
    (directed_within c.args.graph.now c.in_ok-edges.edges.items c.args.forward (length c.round.new.values.items) c.in_ok-edges.ensures (subst (λ n. AreWithin n c.args.graph.now.edges.items) size c.requires.within))
    (subst (λ es. AreAllSettled flow es c.round.new.values.items) c.deref.ensures.value (c.in_ok-round.ensures.settled c.if-branch.false))

pub returns-clause-values : goal.returns-clause-values
returns-clause-values g c =
    let flow = g.P.Problem.flow c.args.problem.now in
    let control = control_flow c.args.graph.now in
    let directed : AreDirected control flow.forward c.in_ok-edges.edges.items = subst (λ f. AreDirected control f c.in_ok-edges.edges.items) c.requires.direction c.in_ok-edges.ensures in
    let follows : Follows flow c.in_ok-edges.edges.items c.loop-counts.values.items c.loop-counts.counts.items c.round.new.values.items c.round.new.counts.items =
    subst (λ es. Follows flow es c.loop-counts.values.items c.loop-counts.counts.items c.round.new.values.items c.round.new.counts.items) c.deref.ensures.value c.in_ok-round.ensures.follows in
    let state = follows_falling flow control c.in_ok-edges.edges.items c.loop-counts.values.items c.loop-counts.counts.items directed c.loop-counts.invariant.state follows in
    all_values flow c.round.new.values.items c.round.new.counts.items state.counted
