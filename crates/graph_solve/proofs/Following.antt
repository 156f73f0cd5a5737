-- An edge that is followed, over the solver's own records.
use Rattle.std.proofs.Common.{◌≡◌, ℕ, ◌+◌, ◌<◌, Bool, true, false, List, [], ◌∷◌, ◌++◌, length, get_or, sym, ap, ◌∙◌, subst}
use Rattle.std.proofs.Math.ListN.{set}
use Rattle.bit_rows.specs.Grid.{row_at, met}
use Rattle.graph_solve_problem.specs.declared.flow_graph.FlowGraph.{FlowGraph}
use Rattle.graph_solve.specs.declared.task.Task.{Task}
use Rattle.graph_solve.specs.declared.work.Work.{Work}
use Rattle.graph_solve_problem.specs.Problem.{DataFlow}
use Rattle.graph_solve_problem.specs.Solution.{HasEdge, control_flow}
use Rattle.graph_solve.specs.Rows.{set_at}
use Rattle.graph_solve.specs.Work.{IsTask, IsState, IsWork, IsMadeAt, edges_of}
use Rattle.graph_solve_problem.proofs.Relaxing.{read}
use Rattle.graph_solve.proofs.Tasks.{directed_as, within_as}
use Rattle.graph_solve.proofs.Working.{rested, row_in, made_row_in, counted_in, waits_in, count_fits, still_made, fell_waiting, fell_anew}

module _ (flow : DataFlow) (graph : FlowGraph) (task : Task) (is : IsTask flow graph task) (work : Work) (from to : ℕ) (has : HasEdge (edges_of flow graph) from to) (made : IsMadeAt flow graph work from) where
  abbrev blocks : ℕ
  blocks = length graph.ends.items

  abbrev State : (values : List (List Bool)) (queue : List ℕ) (waiting : List Bool) (counts : List ℕ) (left : List ℕ) → Type 0
  State values queue waiting counts left = IsState flow (control_flow graph) (edges_of flow graph) blocks values queue waiting counts from left

  module _ (left : List ℕ) (state : IsWork flow graph work from (to ∷ left)) where
    pub to_in : to < length work.values
    to_in = row_in flow (control_flow graph) (edges_of flow graph) blocks (directed_as flow graph) (within_as flow graph task is) work.values work.queue.items work.waiting.items work.counts.items from to left state has made

    pub from_in : task.blocks + from < length work.values
    from_in = subst (λ n. n + from < length work.values) (sym is.blocks)
        (made_row_in flow (control_flow graph) (edges_of flow graph) blocks (directed_as flow graph) (within_as flow graph task is) work.values work.queue.items work.waiting.items work.counts.items from to left state has made)

    pub count_in : to < length work.counts.items
    count_in = counted_in flow (control_flow graph) (edges_of flow graph) blocks (directed_as flow graph) (within_as flow graph task is) work.values work.queue.items work.waiting.items work.counts.items from to left state has made

    pub wait_in : to < length work.waiting.items
    wait_in = waits_in flow (control_flow graph) (edges_of flow graph) blocks (directed_as flow graph) (within_as flow graph task is) work.values work.queue.items work.waiting.items work.counts.items from to left state has made

    module _ (values : List (List Bool)) (met_is : values ≡ set work.values to (met task.unites (row_at work.values (task.blocks + from)) (row_at work.values to))) where
      same : values ≡ set work.values to (met flow.unites (row_at work.values (blocks + from)) (row_at work.values to))
      same = met_is ∙ ap (λ u. set work.values to (met u (row_at work.values (task.blocks + from)) (row_at work.values to))) is.unites
          ∙ ap (λ n. set work.values to (met flow.unites (row_at work.values (n + from)) (row_at work.values to))) is.blocks

      pub state_rested : values ≡ work.values → State values work.queue.items work.waiting.items work.counts.items left
      state_rested unchanged = subst (λ vs. State vs work.queue.items work.waiting.items work.counts.items left) (sym unchanged)
          (rested flow (control_flow graph) (edges_of flow graph) blocks (directed_as flow graph) (within_as flow graph task is) work.values work.queue.items work.waiting.items work.counts.items from to left state has made (sym same ∙ unchanged))

      module _ (changed : values ≡ work.values → ⊥) (count : ℕ) (count_is : count ≡ get_or work.counts.items to count) where
        changes : set work.values to (met flow.unites (row_at work.values (blocks + from)) (row_at work.values to)) ≡ work.values → ⊥
        changes q = changed (same ∙ q)

        pub count_below : count < flow.height
        count_below = count_fits flow (control_flow graph) (edges_of flow graph) blocks (directed_as flow graph) (within_as flow graph task is) work.values work.queue.items work.waiting.items work.counts.items from to left state has made changes count (read work.counts.items to count count_in count_is)

        pub made_still : set_at values (blocks + from) ≡ flow.transfer from (set_at values from)
        made_still = subst (λ vs. set_at vs (blocks + from) ≡ flow.transfer from (set_at vs from)) (sym same)
            (still_made flow (control_flow graph) (edges_of flow graph) blocks (directed_as flow graph) (within_as flow graph task is) work.values work.queue.items work.waiting.items work.counts.items from to left state has made changes count (read work.counts.items to count count_in count_is))

        pub state_waiting : get_or work.waiting.items to false ≡ true → State values work.queue.items work.waiting.items (set work.counts.items to (count + 1)) left
        state_waiting waits = subst (λ vs. State vs work.queue.items work.waiting.items (set work.counts.items to (count + 1)) left) (sym same)
            (fell_waiting flow (control_flow graph) (edges_of flow graph) blocks (directed_as flow graph) (within_as flow graph task is) work.values work.queue.items work.waiting.items work.counts.items from to left state has made changes count (read work.counts.items to count count_in count_is) waits)

        pub state_anew : State values (work.queue.items ++ to ∷ []) (set work.waiting.items to true) (set work.counts.items to (count + 1)) left
        state_anew = subst (λ vs. State vs (work.queue.items ++ to ∷ []) (set work.waiting.items to true) (set work.counts.items to (count + 1)) left) (sym same)
            (fell_anew flow (control_flow graph) (edges_of flow graph) blocks (directed_as flow graph) (within_as flow graph task is) work.values work.queue.items work.waiting.items work.counts.items from to left state has made changes count (read work.counts.items to count count_in count_is))
