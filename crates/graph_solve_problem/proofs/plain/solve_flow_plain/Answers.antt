use Rattle.std.proofs.Common.{sym, ◌∙◌, subst, length}
use Rattle.graph_solve_problem.specs.Solution.{control_flow}
use Rattle.graph_solve_problem.specs.Rounds.{AreMade}
use Rattle.graph_solve_problem.proofs.Solved.{solved_forward, solved_backward}
use Rattle.graph_solve_problem.proofs.plain.solve_flow_plain.Goals as goal

pub returns-then-forward : goal.returns-then-forward
returns-then-forward g c =
    let flow = g.P.Problem.flow c.args.problem.now in
    solved_forward flow (control_flow c.args.graph.now) (length c.args.graph.now.ends.items) c.in_ok-met.met.items c.in_ok-made.made.items c.in_ok-met.ensures.each c.in_ok-met.ensures.met
    (subst (λ vs. AreMade flow vs (length vs) c.in_ok-made.made.items) c.deref.ensures.value c.in_ok-made.ensures) (sym c.forward-forward.ensures ∙ c.if-forward.true)

pub returns-else-forward : goal.returns-else-forward
returns-else-forward g c =
    let flow = g.P.Problem.flow c.args.problem.now in
    solved_backward flow (control_flow c.args.graph.now) (length c.args.graph.now.ends.items) c.in_ok-met.met.items c.in_ok-made.made.items c.in_ok-met.ensures.each c.in_ok-met.ensures.met
    (subst (λ vs. AreMade flow vs (length vs) c.in_ok-made.made.items) c.deref.ensures.value c.in_ok-made.ensures) (sym c.forward-forward.ensures ∙ c.if-forward.false)
