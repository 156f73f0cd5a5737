use Rattle.std.proofs.Common.{◌≡◌, ◌+◌, true, length, replicate, ap, ◌∙◌, subst, arith}
use Rattle.std.proofs.lemmas.List.{length-map}
use Rattle.graph_solve_problem.specs.Rounds.{directed}
use Rattle.graph_solve.specs.Work.{edges_from, edges_of, falls_to_come, sum_to, weighed}
use Rattle.graph_solve.proofs.Beginning.{IsQueue, first_state, all_to_come, edges_weigh}
use Rattle.graph_solve.proofs.Tasks.{within_as}
use Rattle.graph_solve.proofs.Visiting.{targets_there}
use Rattle.graph_solve.proofs.begin.first_work.Goals as goal

pub returns-clause-state : goal.returns-clause-state
returns-clause-state g c =
    let flow = g.P.Problem.flow c.args.problem.now in
    let graph = c.args.graph.now in
    let ends = graph.ends.items in
    let n = length ends in
    let queue : IsQueue c.args.task.now.blocks c.args.task.now.blocks c.in_ok-queue.queue.items = record { within = c.in_ok-queue.ensures.within; each = c.in_ok-queue.ensures.each; weighs = c.in_ok-queue.ensures.weighed } in
    let waits : c.len.result ≡ n = omega arith in
    let counts : c.len-2.result ≡ n = omega arith in
    first_state flow graph c.args.values c.requires.values c.in_ok-queue.queue.items c.in_ok-waiting.waiting.items c.in_ok-counts.counts.items (subst (λ m. IsQueue m m c.in_ok-queue.queue.items) c.requires.task.blocks queue)
    (c.in_ok-waiting.ensures.items_if_clones_equal (λ y e. e) ∙ ap (λ m. replicate m true) waits) (c.in_ok-counts.ensures.items_if_clones_equal (λ y e. e) ∙ ap (λ m. replicate m 0) counts)

pub returns-clause-to_come : goal.returns-clause-to_come
returns-clause-to_come g c =
    let flow = g.P.Problem.flow c.args.problem.now in
    let graph = c.args.graph.now in
    let task = c.args.task.now in
    let n = length graph.ends.items in
    let counts : c.len-2.result ≡ n = omega arith in
    let zeros : c.in_ok-counts.counts.items ≡ replicate n 0 = c.in_ok-counts.ensures.items_if_clones_equal (λ y e. e) ∙ ap (λ m. replicate m 0) counts in
    let weights = edges_weigh (edges_of flow graph) n (edges_from task) (within_as flow graph task c.requires.task)
    (λ b lt. ap length (targets_there (edges_of flow graph) task.blocks task.targets.items b c.requires.task.targets (omega (arith, lt, c.requires.task.blocks)))) ∙ length-map graph.edges.items (directed flow.forward) in
    ap (λ cs. falls_to_come (edges_from task) task.height 0 cs + weighed (edges_from task) c.in_ok-queue.queue.items) zeros
    ∙ all_to_come (edges_from task) task.height n (length graph.edges.items) c.in_ok-queue.queue.items (c.in_ok-queue.ensures.weighed (edges_from task) ∙ ap (sum_to (edges_from task)) c.requires.task.blocks) weights
