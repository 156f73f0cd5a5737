use Rattle.std.proofs.Common.{◌≡◌, ◌+◌, ◌<◌, ◌^◌, List, Some, length, map, sym, ap, ◌∙◌, subst, arith}
use Rattle.std.specs.Prelude.{slice_get}
use Rattle.std.specs.declared.vec.Vec.{Vec}
use Rattle.std.specs.declared.alloc.Global.{Global}
use Rattle.std.proofs.lemmas.List.{length-map}
use Rattle.graph_core.specs.Graphs.{block_view, graph_view}
use Rattle.dead_pass_rule.specs.Asking.{is_going}
use Rattle.dead_pass_rule.specs.Cascade.{AllGo, HaveRows}
use Rattle.dead_pass_rule.specs.Certified.{AreIdle}
use Rattle.dead_pass_rule.specs.Walks.{turn_of}
use Rattle.dead_pass_rule.proofs.Freeing.{are_free}
use Rattle.dead_pass_rule.proofs.Passing.{none_gone}
use Rattle.dead_pass_rule.proofs.cascade.idle_writes.Goals as goal

pub settle-requires-clause-told : goal.settle-requires-clause-told
settle-requires-clause-told c =
    let g = c.args.graph.now in
    let size = length-map g.blocks.items block_view in
    record {
      blocks = omega (arith, size, c.requires.few);
      few = omega (arith, c.requires.few);
      led = c.requires.led;
      named = c.requires.named;
      may_go = λ n b at. are_free c.args.flow.now.assignments.items (graph_view g) n b (slice_get c.in_ok-may_go.may_go.items n) at
          (c.in_ok-may_go.ensures n b (ap (λ l. slice_get (map block_view l) n) c.deref.ensures.value ∙ at));
    }

pub settle-requires-clause-rows : goal.settle-requires-clause-rows
settle-requires-clause-rows c =
    let rows = subst (λ xs. HaveRows (map block_view xs) c.in_ok-turns.turns.items) c.deref-2.ensures.value c.in_ok-turns.ensures.rows in
    subst (λ l. HaveRows (graph_view c.args.graph.now).blocks l) (sym c.deref_mut.ensures.value) rows

pub settle-requires-clause-goes : goal.settle-requires-clause-goes
settle-requires-clause-goes c =
    subst (λ l. AllGo c.args.flow.now.assignments.items (graph_view c.args.graph.now) (turn_of l)) (sym c.deref_mut.ensures.value)
    (none_gone c.args.flow.now.assignments.items (graph_view c.args.graph.now) c.in_ok-turns.turns.items c.in_ok-turns.ensures.stay)
