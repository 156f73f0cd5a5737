use Rattle.std.proofs.Common.{◌≡◌, ℕ, Vec, Global, map, get_or, ◌+◌, [], ◌∷◌, false, length, sym, ap, ◌∙◌, subst, arith}
use Rattle.std.specs.Prelude.{slice_set}
use Rattle.bit_rows.specs.Grid.{row_at, passed}
use Rattle.graph_solve_problem.specs.Solution.{control_flow}
use Rattle.graph_solve.specs.Rows.{set_at, table}
use Rattle.graph_solve.specs.Work.{IsState, edges_of}
use Rattle.graph_solve.proofs.Bitsets.{table_rows}
use Rattle.graph_solve.proofs.Tasks.{within_as}
use Rattle.graph_solve.proofs.Visiting.{block_in, block_width, kept_width, written_width, visited, made_now, targets_there}
use Rattle.graph_solve.proofs.work.settle.Goals as goal

pub pass_into-requires-clause-kept : goal.pass_into-requires-clause-kept
pass_into-requires-clause-kept g c =
    let flow = g.P.Problem.flow c.args.problem.now in
    let graph = c.args.graph.now in
    let task = c.args.task.now in
    let is = c.requires.task in
    let work = c.loop-block.work in
    let block = c.in-Some.block in
    let queue = c.pop_front.new.self.items in
    let popped : work.queue.items ≡ block ∷ queue = c.in-Some.ensures.items in
    let state : IsState flow (control_flow graph) (edges_of flow graph) (length graph.ends.items) work.values (block ∷ queue) work.waiting.items work.counts.items 0 [] =
    subst (λ q. IsState flow (control_flow graph) (edges_of flow graph) (length graph.ends.items) work.values q work.waiting.items work.counts.items 0 []) popped c.loop-block.invariant.state in
    let kept : task.kept ≡ table (length graph.ends.items) flow.width flow.kept = subst (λ n. task.kept ≡ table n flow.width flow.kept) is.blocks is.kept in
    let written : task.written ≡ table (length graph.ends.items) flow.width flow.written = subst (λ n. task.written ≡ table n flow.width flow.written) is.blocks is.written in
    let within = within_as flow graph task is in
    let lt = block_in flow (control_flow graph) (edges_of flow graph) (length graph.ends.items) within work.values queue work.waiting.items work.counts.items block 0 task.kept task.written kept written state in
    omega (arith, lt, ap length kept, table_rows (length graph.ends.items) flow.width flow.kept)

pub pass_into-requires-clause-written : goal.pass_into-requires-clause-written
pass_into-requires-clause-written g c =
    let flow = g.P.Problem.flow c.args.problem.now in
    let graph = c.args.graph.now in
    let task = c.args.task.now in
    let is = c.requires.task in
    let work = c.loop-block.work in
    let block = c.in-Some.block in
    let queue = c.pop_front.new.self.items in
    let popped : work.queue.items ≡ block ∷ queue = c.in-Some.ensures.items in
    let state : IsState flow (control_flow graph) (edges_of flow graph) (length graph.ends.items) work.values (block ∷ queue) work.waiting.items work.counts.items 0 [] =
    subst (λ q. IsState flow (control_flow graph) (edges_of flow graph) (length graph.ends.items) work.values q work.waiting.items work.counts.items 0 []) popped c.loop-block.invariant.state in
    let kept : task.kept ≡ table (length graph.ends.items) flow.width flow.kept = subst (λ n. task.kept ≡ table n flow.width flow.kept) is.blocks is.kept in
    let written : task.written ≡ table (length graph.ends.items) flow.width flow.written = subst (λ n. task.written ≡ table n flow.width flow.written) is.blocks is.written in
    let within = within_as flow graph task is in
    let lt = block_in flow (control_flow graph) (edges_of flow graph) (length graph.ends.items) within work.values queue work.waiting.items work.counts.items block 0 task.kept task.written kept written state in
    omega (arith, lt, ap length written, table_rows (length graph.ends.items) flow.width flow.written)

pub pass_into-requires-clause-kept_width : goal.pass_into-requires-clause-kept_width
pass_into-requires-clause-kept_width g c =
    let flow = g.P.Problem.flow c.args.problem.now in
    let graph = c.args.graph.now in
    let task = c.args.task.now in
    let is = c.requires.task in
    let work = c.loop-block.work in
    let block = c.in-Some.block in
    let queue = c.pop_front.new.self.items in
    let popped : work.queue.items ≡ block ∷ queue = c.in-Some.ensures.items in
    let state : IsState flow (control_flow graph) (edges_of flow graph) (length graph.ends.items) work.values (block ∷ queue) work.waiting.items work.counts.items 0 [] =
    subst (λ q. IsState flow (control_flow graph) (edges_of flow graph) (length graph.ends.items) work.values q work.waiting.items work.counts.items 0 []) popped c.loop-block.invariant.state in
    let kept : task.kept ≡ table (length graph.ends.items) flow.width flow.kept = subst (λ n. task.kept ≡ table n flow.width flow.kept) is.blocks is.kept in
    let written : task.written ≡ table (length graph.ends.items) flow.width flow.written = subst (λ n. task.written ≡ table n flow.width flow.written) is.blocks is.written in
    let within = within_as flow graph task is in
    kept_width flow (control_flow graph) (edges_of flow graph) (length graph.ends.items) within work.values queue work.waiting.items work.counts.items block 0 task.kept task.written kept written state ∙ sym (block_width flow (control_flow graph) (edges_of flow graph) (length graph.ends.items) within work.values queue work.waiting.items work.counts.items block 0 task.kept task.written kept written state)

pub pass_into-requires-clause-written_width : goal.pass_into-requires-clause-written_width
pass_into-requires-clause-written_width g c =
    let flow = g.P.Problem.flow c.args.problem.now in
    let graph = c.args.graph.now in
    let task = c.args.task.now in
    let is = c.requires.task in
    let work = c.loop-block.work in
    let block = c.in-Some.block in
    let queue = c.pop_front.new.self.items in
    let popped : work.queue.items ≡ block ∷ queue = c.in-Some.ensures.items in
    let state : IsState flow (control_flow graph) (edges_of flow graph) (length graph.ends.items) work.values (block ∷ queue) work.waiting.items work.counts.items 0 [] =
    subst (λ q. IsState flow (control_flow graph) (edges_of flow graph) (length graph.ends.items) work.values q work.waiting.items work.counts.items 0 []) popped c.loop-block.invariant.state in
    let kept : task.kept ≡ table (length graph.ends.items) flow.width flow.kept = subst (λ n. task.kept ≡ table n flow.width flow.kept) is.blocks is.kept in
    let written : task.written ≡ table (length graph.ends.items) flow.width flow.written = subst (λ n. task.written ≡ table n flow.width flow.written) is.blocks is.written in
    let within = within_as flow graph task is in
    written_width flow (control_flow graph) (edges_of flow graph) (length graph.ends.items) within work.values queue work.waiting.items work.counts.items block 0 task.kept task.written kept written state ∙ sym (block_width flow (control_flow graph) (edges_of flow graph) (length graph.ends.items) within work.values queue work.waiting.items work.counts.items block 0 task.kept task.written kept written state)

pub visit-requires-clause-state : goal.visit-requires-clause-state
visit-requires-clause-state g c =
    let flow = g.P.Problem.flow c.args.problem.now in
    let graph = c.args.graph.now in
    let task = c.args.task.now in
    let is = c.requires.task in
    let work = c.loop-block.work in
    let block = c.in-Some.block in
    let queue = c.pop_front.new.self.items in
    let popped : work.queue.items ≡ block ∷ queue = c.in-Some.ensures.items in
    let state : IsState flow (control_flow graph) (edges_of flow graph) (length graph.ends.items) work.values (block ∷ queue) work.waiting.items work.counts.items 0 [] =
    subst (λ q. IsState flow (control_flow graph) (edges_of flow graph) (length graph.ends.items) work.values q work.waiting.items work.counts.items 0 []) popped c.loop-block.invariant.state in
    let kept : task.kept ≡ table (length graph.ends.items) flow.width flow.kept = subst (λ n. task.kept ≡ table n flow.width flow.kept) is.blocks is.kept in
    let written : task.written ≡ table (length graph.ends.items) flow.width flow.written = subst (λ n. task.written ≡ table n flow.width flow.written) is.blocks is.written in
    let within = within_as flow graph task is in
    let new : c.pass_into.new.self ≡ slice_set work.values (length graph.ends.items + block) (passed (row_at work.values block) (row_at task.kept block) (row_at task.written block)) =
    c.pass_into.ensures ∙ ap (λ n. slice_set work.values (n + block) (passed (row_at work.values block) (row_at task.kept block) (row_at task.written block))) is.blocks in
    subst (λ vs. IsState flow (control_flow graph) (edges_of flow graph) (length graph.ends.items) vs queue (slice_set work.waiting.items block false) work.counts.items block (get_or (map (λ (w : Vec ℕ Global). w.items) task.targets.items) block [])) (sym new)
    (subst (λ ts. IsState flow (control_flow graph) (edges_of flow graph) (length graph.ends.items) (slice_set work.values (length graph.ends.items + block) (passed (row_at work.values block) (row_at task.kept block) (row_at task.written block))) queue (slice_set work.waiting.items block false) work.counts.items block ts)
    (sym (targets_there (edges_of flow graph) task.blocks task.targets.items block is.targets (omega (arith, block_in flow (control_flow graph) (edges_of flow graph) (length graph.ends.items) within work.values queue work.waiting.items work.counts.items block 0 task.kept task.written kept written state, is.blocks)))) (visited flow (control_flow graph) (edges_of flow graph) (length graph.ends.items) within work.values queue work.waiting.items work.counts.items block 0 task.kept task.written kept written state))

pub visit-requires-clause-made : goal.visit-requires-clause-made
visit-requires-clause-made g c =
    let flow = g.P.Problem.flow c.args.problem.now in
    let graph = c.args.graph.now in
    let task = c.args.task.now in
    let is = c.requires.task in
    let work = c.loop-block.work in
    let block = c.in-Some.block in
    let queue = c.pop_front.new.self.items in
    let popped : work.queue.items ≡ block ∷ queue = c.in-Some.ensures.items in
    let state : IsState flow (control_flow graph) (edges_of flow graph) (length graph.ends.items) work.values (block ∷ queue) work.waiting.items work.counts.items 0 [] =
    subst (λ q. IsState flow (control_flow graph) (edges_of flow graph) (length graph.ends.items) work.values q work.waiting.items work.counts.items 0 []) popped c.loop-block.invariant.state in
    let kept : task.kept ≡ table (length graph.ends.items) flow.width flow.kept = subst (λ n. task.kept ≡ table n flow.width flow.kept) is.blocks is.kept in
    let written : task.written ≡ table (length graph.ends.items) flow.width flow.written = subst (λ n. task.written ≡ table n flow.width flow.written) is.blocks is.written in
    let within = within_as flow graph task is in
    let new : c.pass_into.new.self ≡ slice_set work.values (length graph.ends.items + block) (passed (row_at work.values block) (row_at task.kept block) (row_at task.written block)) =
    c.pass_into.ensures ∙ ap (λ n. slice_set work.values (n + block) (passed (row_at work.values block) (row_at task.kept block) (row_at task.written block))) is.blocks in
    subst (λ vs. set_at vs (length graph.ends.items + block) ≡ flow.transfer block (set_at vs block)) (sym new) (made_now flow (control_flow graph) (edges_of flow graph) (length graph.ends.items) within work.values queue work.waiting.items work.counts.items block 0 task.kept task.written kept written state)
