use Rattle.std.proofs.Common.{◌∙◌, ◌<◌, ap, arith, length, refl, sym}
use Rattle.std.specs.Prelude.{slice_get}
use Rattle.std.proofs.lemmas.Option.{same_Some}
use Rattle.graph_core.specs.declared.graph.Graph as declared-graph
use Rattle.graph_core.specs.Graphs.{ToScalar, binding_view, graph_view}
use Rattle.currency_writers.proofs.Written.{binding_at, bindings_more, bindings_on, more_on}
use Rattle.currency_writers.proofs.Ordering.{blocks_behind, lists_on, parameter_next}
use Rattle.currency_writers.proofs.writers.Writers.add_bindings.Goals as goal

pub loop-k-preserved : goal.loop-k-preserved
loop-k-preserved c =
    (let old = c.args.self.now in
    let mid = c.loop-k.self in
    let new = c.add_binding.new.self in
    let k = c.loop-k.k in
    let b = c.index.result.now in
    let known = c.loop-k.invariant in
    let said = c.in_ok-add_binding.ensures in
    let lt : k < length old.graph.now.parameters.items = omega arith in
    record {
      more = more_on old mid new known.more said.more;
      sound = said.sound;
      indexed = said.indexed;
      lists = lists_on mid new said.more known.lists;
      next = parameter_next new k said.next;
      all = bindings_more new k (bindings_on mid new k said.more known.all)
          (λ x at. said.there x (same_Some (binding_view b) (ToScalar x) (sym (binding_at old.graph.now k k b b refl lt c.index.ensures) ∙ ap (λ (g : declared-graph.Graph). slice_get (graph_view g).parameters k) (sym (said.more.graph ∙ known.more.graph)) ∙ at)));
    })

pub returns-clause-next : goal.returns-clause-next
returns-clause-next c = blocks_behind c.loop-k.self c.loop-k.k c.loop-k.invariant.next
