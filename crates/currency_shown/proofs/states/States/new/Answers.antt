use Rattle.std.proofs.Common.{[], subst, sym, ◌∙◌}
use Rattle.graph_core.specs.Graphs.{graph_view}
use Rattle.graph_core.specs.Paths.{path, stays}
use Rattle.currency_notes.proofs.Sourcing.{attained_first}
use Rattle.currency_shown.specs.declared.states.States as declared-states
use Rattle.currency_shown.specs.Chains.{AreFull}
use Rattle.currency_shown.proofs.Chaining.{full_nothing}
use Rattle.currency_shown.proofs.states.States.new.Goals.{else-loop-test, then-loop-test+in_ok-round+then-not-branch}
use Rattle.currency_shown.proofs.states.States.new.Goals as goal

pub loop-init : goal.loop-init
loop-init c = λ linked.
    (let f = c.args.function.now in
    c.in_ok-arrive.ensures.full (record { count = c.in_ok-nothing.ensures.count ∙ c.len-count.ensures ∙ c.args.function.now.graph.now.blocks.ok.0; each = λ l t e. full_nothing f _ l t c.in_ok-nothing.ensures.none e })
    (λ b at. record { reached = record { history = []; path = path b at stays }; sized = c.in_ok-entered.ensures.sized; full = λ exact. c.in_ok-entered.ensures.full exact b at; attained = λ log told. attained_first log (graph_view f.graph.now) b c.in_ok-entered.entered at c.in_ok-entered.ensures.told }))

pub loop-preserved : goal.loop-preserved
loop-preserved c = λ linked. c.in_ok-round.ensures linked (c.loop.invariant linked)

pub returns : goal.returns
returns c = λ linked.
    elim c.loop-test.branch [
      | else-loop-test w ↦ subst (λ (s : declared-states.States). AreFull c.args.function.now s) (sym w.states-is) (c.loop.invariant linked)
      | then-loop-test+in_ok-round+then-not-branch w ↦ subst (λ (s : declared-states.States). AreFull c.args.function.now s) (sym w.states-is) (w.in_ok-round.ensures linked (c.loop.invariant linked))
    ]
