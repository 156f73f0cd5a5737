use Rattle.std.proofs.Common.{◌≡◌, ℕ, ◌+◌, List, [], Some, None, arith, map, sym, take, subst, ◌∙◌}
use Rattle.std.proofs.lemmas.List.{length-map}
use Rattle.graph_homes.specs.Homes.{bound_last}
use Rattle.graph_core.specs.declared.graph.Binding as declared-binding
use Rattle.graph_core.specs.Graphs.{binding_view, graph_view, scalar_view}
use Rattle.currency_notes.specs.Homes.{home_by}
use Rattle.currency_notes.specs.Notes.{IsHeld, IsSo}
use Rattle.currency_notes.proofs.Lists.{take_whole}
use Rattle.currency_notes.proofs.Losing.{next_bound, so_first}
use Rattle.currency_notes.proofs.Sourcing.{told_recipe}
use Rattle.currency_notes.proofs.Filling.{AreBound, full_first, next_full, next_sizes}
use Rattle.currency_notes.proofs.state.State.entered.Goals as goal

pub loop-binding-preserved : goal.loop-binding-preserved
loop-binding-preserved c =
    let m = c.args.function.now.homes in
    let i = c.loop-binding.binding-index in
    let e = c.deref-binding-items.ensures.value in
    let inv = c.loop-binding.invariant in
    let before : (y : ℕ) → IsHeld m c.loop-binding.state y → bound_last (home_by m) (home_by m y) (map binding_view (take i c.deref-binding-items.result.now)) None ≡ Some y = λ y held. subst (λ qs. bound_last (home_by m) (home_by m y) (map binding_view (take i qs)) None ≡ Some y) (sym e) (inv.bound y held) in
    let next = next_bound m c.deref-binding-items.result.now i _ c.loop-binding.state c.bind.new.self c.loop-binding-test.true c.bind.ensures inv.none before in
    let sizes = next_sizes m c.deref-binding-items.result.now i _ c.loop-binding.state c.bind.new.self c.bind.ensures in
    record {
      none = next.0;
      bound = λ y held. subst (λ qs. bound_last (home_by m) (home_by m y) (map binding_view (take (i + 1) qs)) None ≡ Some y) e (next.1 y held);
      scalars = sizes.0 ∙ inv.scalars;
      homes = sizes.1 ∙ inv.homes;
      full = λ exact. subst (λ (qs : List declared-binding.Binding). AreBound m c.bind.new.self (map binding_view (take (i + 1) qs))) e
          (next_full m (graph_view c.args.function.now.graph.now) exact.told exact.numbered c.deref-binding-items.result.now i _ c.loop-binding.state c.bind.new.self c.loop-binding-test.true c.bind.ensures inv.homes
          (subst (λ (qs : List declared-binding.Binding). AreBound m c.loop-binding.state (map binding_view (take i qs))) (sym e) (inv.full exact)));
    }

pub returns-clause-so : goal.returns-clause-so
returns-clause-so c =
    (let ps = c.args.function.now.graph.now.parameters.items in
    let whole : take c.loop-binding.binding-index ps ≡ ps = take_whole ps c.loop-binding.binding-index (omega arith) in
    subst (λ qs. IsSo c.args.function.now.homes (map binding_view qs) c.loop-binding.state []) whole (so_first c.args.function.now.homes (map binding_view (take c.loop-binding.binding-index ps)) c.loop-binding.state c.loop-binding.invariant.none c.loop-binding.invariant.bound))

pub returns-clause-full : goal.returns-clause-full
returns-clause-full c = λ exact b at.
    (let ps = c.args.function.now.graph.now.parameters.items in
    let m = c.args.function.now.homes in
    let whole : take c.loop-binding.binding-index ps ≡ ps = take_whole ps c.loop-binding.binding-index (omega arith) in
    full_first m (graph_view c.args.function.now.graph.now) b c.loop-binding.state at (c.loop-binding.invariant.scalars ∙ sym (length-map c.args.function.now.graph.now.scalars.items scalar_view)) c.loop-binding.invariant.homes
    (subst (λ (qs : List declared-binding.Binding). AreBound m c.loop-binding.state (map binding_view qs)) whole (c.loop-binding.invariant.full exact)))

pub returns-clause-told : goal.returns-clause-told
returns-clause-told c = λ x d said. (let found = told_recipe c.loop-binding.state.noted.items x d said in c.loop-binding.invariant.none x found.0 found.1)

pub returns-clause-sized : goal.returns-clause-sized
returns-clause-sized c = (c.loop-binding.invariant.scalars ∙ sym (length-map c.args.function.now.graph.now.scalars.items scalar_view), c.loop-binding.invariant.homes)
