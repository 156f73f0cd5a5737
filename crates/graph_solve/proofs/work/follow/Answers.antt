use Rattle.std.proofs.Common.{◌≡◌, length, get_or, zero-add, ◌+◌, ◌++◌, [], ◌∷◌, true, false, true≢false, sym, ap, ◌∙◌, subst, arith}
use Rattle.std.proofs.lemmas.List.{get_or_read}
use Rattle.std.proofs.Math.ListN.{set}
use Rattle.graph_solve_problem.specs.Solution.{control_flow}
use Rattle.graph_solve.specs.Work.{IsState, edges_of, weighed}
use Rattle.graph_solve_problem.proofs.Relaxing.{read}
use Rattle.graph_solve.proofs.Weighing.{fewer_to_come, weighed_push}
use Rattle.graph_solve.proofs.Following.{count_in, wait_in, state_rested, count_below, made_still, state_waiting, state_anew}
use Rattle.graph_solve.proofs.work.follow.Goals as goal

pub index-requires : goal.index-requires
index-requires g c = omega (arith, count_in (g.P.Problem.flow c.args._problem.now) c.args._graph.now c.args.task.now c.requires.task c.args.work.now c.args.from c.args.to c.requires.edge c.requires.made c.requires.state.0 c.requires.state.1)

pub prove-unreachable-requires : goal.prove-unreachable-requires
prove-unreachable-requires g c = omega (arith, count_below (g.P.Problem.flow c.args._problem.now) c.args._graph.now c.args.task.now c.requires.task c.args.work.now c.args.from c.args.to c.requires.edge c.requires.made c.requires.state.0 c.requires.state.1 c.meet_into.new.self c.meet_into.ensures.met (λ (q : c.meet_into.new.self ≡ c.args.work.now.values). true≢false (sym c.if-meet_into.true ∙ c.meet_into.ensures.changed.1 q)) c.index.result.now c.index.ensures, c.requires.task.height, c.if-prove.true)

pub index_mut-requires : goal.index_mut-requires
index_mut-requires g c = omega (arith, count_in (g.P.Problem.flow c.args._problem.now) c.args._graph.now c.args.task.now c.requires.task c.args.work.now c.args.from c.args.to c.requires.edge c.requires.made c.requires.state.0 c.requires.state.1)

pub overflow_add-index_mut : goal.overflow_add-index_mut
overflow_add-index_mut g c = omega (arith, count_below (g.P.Problem.flow c.args._problem.now) c.args._graph.now c.args.task.now c.requires.task c.args.work.now c.args.from c.args.to c.requires.edge c.requires.made c.requires.state.0 c.requires.state.1 c.meet_into.new.self c.meet_into.ensures.met (λ (q : c.meet_into.new.self ≡ c.args.work.now.values). true≢false (sym c.if-meet_into.true ∙ c.meet_into.ensures.changed.1 q)) c.index_mut.result.now c.index_mut.ensures.value, c.requires.task.height, c.requires.task.height_fits)

pub returns-in_ok-push_back-clause-state : goal.returns-in_ok-push_back-clause-state
returns-in_ok-push_back-clause-state g c left state =
    let flow = g.P.Problem.flow c.args._problem.now in
    subst (λ q. IsState flow (control_flow c.args._graph.now) (edges_of flow c.args._graph.now) (length c.args._graph.now.ends.items) c.meet_into.new.self q (set c.args.work.now.waiting.items c.args.to true) (set c.args.work.now.counts.items c.args.to (c.index_mut.result.now + 1)) c.args.from left)
    (sym c.in_ok-push_back.ensures.items) (state_anew (g.P.Problem.flow c.args._problem.now) c.args._graph.now c.args.task.now c.requires.task c.args.work.now c.args.from c.args.to c.requires.edge c.requires.made left state c.meet_into.new.self c.meet_into.ensures.met (λ (q : c.meet_into.new.self ≡ c.args.work.now.values). true≢false (sym c.if-meet_into.true ∙ c.meet_into.ensures.changed.1 q)) c.index_mut.result.now c.index_mut.ensures.value)

pub returns-in_ok-push_back-clause-made : goal.returns-in_ok-push_back-clause-made
returns-in_ok-push_back-clause-made g c = made_still (g.P.Problem.flow c.args._problem.now) c.args._graph.now c.args.task.now c.requires.task c.args.work.now c.args.from c.args.to c.requires.edge c.requires.made c.requires.state.0 c.requires.state.1 c.meet_into.new.self c.meet_into.ensures.met (λ (q : c.meet_into.new.self ≡ c.args.work.now.values). true≢false (sym c.if-meet_into.true ∙ c.meet_into.ensures.changed.1 q)) c.index_mut.result.now c.index_mut.ensures.value

pub returns-in_ok-push_back-clause-to_come : goal.returns-in_ok-push_back-clause-to_come
returns-in_ok-push_back-clause-to_come g c weight =
    let count = c.index_mut.result.now in
    let fits = count_below (g.P.Problem.flow c.args._problem.now) c.args._graph.now c.args.task.now c.requires.task c.args.work.now c.args.from c.args.to c.requires.edge c.requires.made c.requires.state.0 c.requires.state.1 c.meet_into.new.self c.meet_into.ensures.met (λ (q : c.meet_into.new.self ≡ c.args.work.now.values). true≢false (sym c.if-meet_into.true ∙ c.meet_into.ensures.changed.1 q)) count c.index_mut.ensures.value in
    let at = read c.args.work.now.counts.items c.args.to count (count_in (g.P.Problem.flow c.args._problem.now) c.args._graph.now c.args.task.now c.requires.task c.args.work.now c.args.from c.args.to c.requires.edge c.requires.made c.requires.state.0 c.requires.state.1) c.index_mut.ensures.value in
    let fewer = fewer_to_come weight c.args.task.now.height 0 c.args.work.now.counts.items c.args.to count at (omega (arith, fits, c.requires.task.height)) in
    let pushed : c.args.work.now.queue.items ++ c.args.to ∷ [] ≡ c.push_back.new.self.items = sym c.in_ok-push_back.ensures.items in
    let more = ap (weighed weight) (sym pushed) ∙ weighed_push weight c.args.work.now.queue.items c.args.to in
    let zero_to = ap weight (zero-add c.args.to) in
    omega (arith, fewer, more, zero_to)

pub returns-else-not-index-clause-state : goal.returns-else-not-index-clause-state
returns-else-not-index-clause-state g c left state =
    let waits : get_or c.args.work.now.waiting.items c.args.to false ≡ true = sym (get_or_read c.args.work.now.waiting.items c.args.to c.index-then-meet_into.result.now (wait_in (g.P.Problem.flow c.args._problem.now) c.args._graph.now c.args.task.now c.requires.task c.args.work.now c.args.from c.args.to c.requires.edge c.requires.made left state) c.index-then-meet_into.ensures false) ∙ c.if-not-index.false in
    state_waiting (g.P.Problem.flow c.args._problem.now) c.args._graph.now c.args.task.now c.requires.task c.args.work.now c.args.from c.args.to c.requires.edge c.requires.made left state c.meet_into.new.self c.meet_into.ensures.met (λ (q : c.meet_into.new.self ≡ c.args.work.now.values). true≢false (sym c.if-meet_into.true ∙ c.meet_into.ensures.changed.1 q)) c.index_mut.result.now c.index_mut.ensures.value waits

pub returns-else-not-index-clause-made : goal.returns-else-not-index-clause-made
returns-else-not-index-clause-made g c = made_still (g.P.Problem.flow c.args._problem.now) c.args._graph.now c.args.task.now c.requires.task c.args.work.now c.args.from c.args.to c.requires.edge c.requires.made c.requires.state.0 c.requires.state.1 c.meet_into.new.self c.meet_into.ensures.met (λ (q : c.meet_into.new.self ≡ c.args.work.now.values). true≢false (sym c.if-meet_into.true ∙ c.meet_into.ensures.changed.1 q)) c.index_mut.result.now c.index_mut.ensures.value

pub returns-else-not-index-clause-to_come : goal.returns-else-not-index-clause-to_come
returns-else-not-index-clause-to_come g c weight =
    let count = c.index_mut.result.now in
    let fits = count_below (g.P.Problem.flow c.args._problem.now) c.args._graph.now c.args.task.now c.requires.task c.args.work.now c.args.from c.args.to c.requires.edge c.requires.made c.requires.state.0 c.requires.state.1 c.meet_into.new.self c.meet_into.ensures.met (λ (q : c.meet_into.new.self ≡ c.args.work.now.values). true≢false (sym c.if-meet_into.true ∙ c.meet_into.ensures.changed.1 q)) count c.index_mut.ensures.value in
    let at = read c.args.work.now.counts.items c.args.to count (count_in (g.P.Problem.flow c.args._problem.now) c.args._graph.now c.args.task.now c.requires.task c.args.work.now c.args.from c.args.to c.requires.edge c.requires.made c.requires.state.0 c.requires.state.1) c.index_mut.ensures.value in
    let fewer = fewer_to_come weight c.args.task.now.height 0 c.args.work.now.counts.items c.args.to count at (omega (arith, fits, c.requires.task.height)) in
    omega (arith, fewer)

pub returns-else-meet_into-clause-state : goal.returns-else-meet_into-clause-state
returns-else-meet_into-clause-state g c left state = state_rested (g.P.Problem.flow c.args._problem.now) c.args._graph.now c.args.task.now c.requires.task c.args.work.now c.args.from c.args.to c.requires.edge c.requires.made left state c.meet_into.new.self c.meet_into.ensures.met (c.meet_into.ensures.changed.0 c.if-meet_into.false)
