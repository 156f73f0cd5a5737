use Rattle.std.proofs.Common.{◌∙◌, ◌∷◌, [], length, refl, subst, sym}
use Rattle.graph_core.specs.declared.graph.Graph as declared-graph
use Rattle.currency_writers.specs.Writers.{AreBindings}
use Rattle.currency_writers.proofs.Indexed.{indexed_moved}
use Rattle.currency_writers.proofs.Ordering.{lists_first, lists_on, none_later}
use Rattle.currency_writers.proofs.Written.{all_written, bindings_on}
use Rattle.currency_writers.proofs.writers.Writers.new.Goals as goal

pub returns-clause-writers : goal.returns-clause-writers
returns-clause-writers c =
    (let mid = c.add_bindings.new.self in
    let new = c.add_blocks.new.self in
    let first = c.in_ok-add_bindings.ensures in
    let last = c.in_ok-add_blocks.ensures in
    all_written _ last.sound (indexed_moved new _ last.indexed refl refl c.sort_all.ensures c.sort_all-2.ensures)
    (subst (λ (g : declared-graph.Graph). AreBindings new (length g.parameters.items)) (sym last.more.graph) (bindings_on mid new (length mid.graph.now.parameters.items) last.more first.all))
    last.all)

pub add_bindings-requires-clause-lists : goal.add_bindings-requires-clause-lists
add_bindings-requires-clause-lists c = lists_first _ c.requires (c.in_ok-no_writes.ensures.count ∙ c.home_count.ensures) c.in_ok-no_writes-2.ensures.count

pub add_bindings-requires-clause-next : goal.add_bindings-requires-clause-next
add_bindings-requires-clause-next c = none_later c.new.result.items (0 ∷ 0 ∷ []) c.new.ensures.items

pub add_blocks-requires-clause-lists : goal.add_blocks-requires-clause-lists
add_blocks-requires-clause-lists c = lists_on _ _ c.in_ok-add_bindings.ensures.more (lists_first _ c.requires (c.in_ok-no_writes.ensures.count ∙ c.home_count.ensures) c.in_ok-no_writes-2.ensures.count)
