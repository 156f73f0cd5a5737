use Rattle.std.proofs.Common.{◌≡◌, ◌+◌, ◌<◌, ℕ, List, None, Option, Some, arith, ap, get_or, length, subst, sym, ◌∙◌}
use Rattle.std.proofs.lemmas.List.{length-set}
use Rattle.graph_core.specs.declared.block.Block as declared-block
use Rattle.graph_core.specs.Graphs.{end_view}
use Rattle.currency_notes.proofs.Lists.{at_all, at_more_any}
use Rattle.currency_shown.specs.Chains.{name_at, AreEdgesNext}
use Rattle.currency_shown.proofs.Linking.{edges_struck, none_at, still_none}
use Rattle.currency_shown.proofs.chains.links_of.Goals as goal

pub loop-number-init : goal.loop-number-init
loop-number-init c = record {
  size = ap (λ xs. length xs) c.put_name.ensures ∙ length-set c.in_ok-before.before.items 0 None ∙ c.in_ok-before.ensures;
  first = ap (λ xs. name_at xs 0) c.put_name.ensures ∙ none_at c.in_ok-before.before.items 0;
  edges = λ n b lt. absurd (omega (arith, lt));
}

pub loop-number-preserved : goal.loop-number-preserved
loop-number-preserved c =
    let old = c.loop-number.before.items in
    let new = c.strike_edges.new.before.items in
    let positions = c.in_ok-positions.positions.items in
    let struck = c.strike_edges.ensures.struck in
    let inv = c.loop-number.invariant in
    let same = c.deref.ensures.value in
    record {
      size = struck.size ∙ inv.size;
      first = still_none old new 0 struck inv.first;
      edges = λ n b. at_more_any (λ k (d : declared-block.Block). AreEdgesNext new positions k (end_view d.end)) c.args.blocks.now c.loop-number.number c.index-blocks-number.result (omega (arith, c.loop-number-test.true, c.loop-number.auto))
          (subst (λ (ps : List ℕ). AreEdgesNext new ps c.loop-number.number (end_view (get_or c.args.blocks.now c.loop-number.number c.index-blocks-number.result).end)) same c.strike_edges.ensures.edges) (λ k d lt at. edges_struck old new positions k (end_view d.end) struck (inv.edges k d lt at)) n b;
    }

pub returns : goal.returns
returns c =
    (let inv = c.loop-number.invariant in
    let positions = c.in_ok-positions.positions.items in
    record {
      size = inv.size;
      first = inv.first;
      edges = at_all (λ k (d : declared-block.Block). AreEdgesNext c.loop-number.before.items positions k (end_view d.end)) c.args.blocks.now c.loop-number.number (omega (arith, c.loop-number-test.false, c.loop-number.auto)) inv.edges;
    })
