use Rattle.std.proofs.Common.{◌≡◌, ◌+◌, ◌<◌, ◌∷◌, ℕ, List, arith, ap, drop, get_or, inl, inr, refl, subst, sym, ◌∙◌, Some}
use Rattle.std.specs.Prelude.{slice_get}
use Rattle.std.proofs.lemmas.Option.{same_Some, slice_get-get_or, slice_get_within}
use Rattle.graph_core.specs.declared.block.Block as declared-block
use Rattle.graph_core.specs.Graphs.{block_view, end_view, graph_view}
use Rattle.graph_core.specs.Paths.{Among, front}
use Rattle.graph_core.specs.Uses.{targets_of}
use Rattle.currency_notes.proofs.Lists.{drop_end, drop_more_any, get_among_at}
use Rattle.currency_shown.specs.Chains.{IsCourse}
use Rattle.currency_shown.proofs.Adding.{extended_on, extended_same}
use Rattle.currency_shown.proofs.Chaining.{end_walked, start_each, view_at}
use Rattle.currency_shown.proofs.Walking.{block_among, block_different, chain_end, chain_next, fresh_next, whole_over}
use Rattle.currency_shown.proofs.survey.Survey.add_chain.Goals as goal

pub loop-number-init : goal.loop-number-init
loop-number-init c = record {
  extended = extended_same c.args.self.now c.args.found.now c.requires.met;
  course = c.requires.course;
  full = c.requires.full;
  only = λ p e. inl e;
  fresh = c.requires.fresh;
  sound = λ states later more rest. rest;
}

pub loop-number-preserved : goal.loop-number-preserved
loop-number-preserved c =
    let v = c.args.self.now in
    let f = v.function.now in
    let chain = c.args.chain.now in
    let blocks = (graph_view f.graph.now).blocks in
    let i = c.loop-number.number-index in
    let n = get_or chain i 0 in
    let b = c.index-block.result.now in
    let inv = c.loop-number.invariant in
    let s = c.loop-number.state in
    let t = c.add_block.new.state in
    let old = c.loop-number.found in
    let new = c.add_block.new.found in
    let left : drop i chain ≡ n ∷ drop (i + 1) chain = drop_more_any chain i 0 c.loop-number-test.true in
    let here : IsCourse f.graph.now.blocks.items v.chains.now (end_view c.loop-number.end) (n ∷ drop (i + 1) chain) = subst (λ (l : List ℕ). IsCourse f.graph.now.blocks.items v.chains.now (end_view c.loop-number.end) l) left inv.course in
    let at : slice_get f.graph.now.blocks.items n ≡ Some b = slice_get-get_or f.graph.now.blocks.items n b (slice_get_within f.graph.now.blocks.items n here.1.0 here.1.1) ∙ ap Some (sym c.index-block.ensures) in
    let same : here.1.0 ≡ b = same_Some here.1.0 b (sym here.1.1 ∙ at) in
    let view = view_at f n b at in
    let start = inv.full n (subst (λ e. Among n (targets_of e)) (sym here.0) front) in
    let walked = c.in_ok-add_block.ensures.extended in
    let end = end_walked f s t n b at (λ whole. whole_over v new n (block_view b).instructions (end_view b.end) s t (c.in_ok-add_block.ensures.sound new n (extended_same v new walked.all) view) whole) start in
    record {
      extended = extended_on v c.args.found.now old new inv.extended walked;
      course = subst (λ (d : declared-block.Block). IsCourse f.graph.now.blocks.items v.chains.now (end_view d.end) (drop (i + 1) chain)) same here.1.2;
      full = start_each f t n b at end;
      only = λ p e. elim (c.in_ok-add_block.ensures.only p e) [
        | inl m ↦ inv.only p m
        | inr m ↦ inr (record { number = n; block = block_view b; among = get_among_at chain i n 0 c.loop-number-test.true refl; is = view; marked = m })
      ];
      fresh = fresh_next blocks chain i n (block_view b) old new c.requires.survey.once c.requires.once (slice_get-get_or chain i 0 c.loop-number-test.true) left view c.in_ok-add_block.ensures.only inv.fresh;
      sound = λ states later more rest.
          inv.sound states later (extended_on v old new later walked more)
          (chain_next v states later chain i 0 (end_view c.loop-number.end) s t b c.loop-number-test.true here.0 at (c.in_ok-add_block.ensures.sound later n more view) rest);
    }

-- the next block
pub index-block-requires : goal.index-block-requires
index-block-requires c =
    let v = c.args.self.now in
    let f = v.function.now in
    let chain = c.args.chain.now in
    let n = get_or chain c.loop-number.number-index 0 in
    let here = subst (λ (l : List ℕ). IsCourse f.graph.now.blocks.items v.chains.now (end_view c.loop-number.end) l) (drop_more_any chain c.loop-number.number-index 0 c.loop-number-test.true) c.loop-number.invariant.course in
    subst (λ k. n < k) (sym f.graph.now.blocks.ok.0) (slice_get_within f.graph.now.blocks.items n here.1.0 here.1.1)

pub add_block-requires-clause-places : goal.add_block-requires-clause-places
add_block-requires-clause-places c =
    let v = c.args.self.now in
    let f = v.function.now in
    let chain = c.args.chain.now in
    let i = c.loop-number.number-index in
    let n = get_or chain i 0 in
    let b = c.index-block.result.now in
    let here = subst (λ (l : List ℕ). IsCourse f.graph.now.blocks.items v.chains.now (end_view c.loop-number.end) l) (drop_more_any chain i 0 c.loop-number-test.true) c.loop-number.invariant.course in
    let at : slice_get f.graph.now.blocks.items n ≡ Some b = slice_get-get_or f.graph.now.blocks.items n b (slice_get_within f.graph.now.blocks.items n here.1.0 here.1.1) ∙ ap Some (sym c.index-block.ensures) in
    λ p there. c.requires.survey.places p (block_among (graph_view f.graph.now).blocks n (block_view b) p (view_at f n b at) there)

pub add_block-requires-clause-fresh : goal.add_block-requires-clause-fresh
add_block-requires-clause-fresh c =
    let v = c.args.self.now in
    let f = v.function.now in
    let chain = c.args.chain.now in
    let i = c.loop-number.number-index in
    let n = get_or chain i 0 in
    let b = c.index-block.result.now in
    let left : drop i chain ≡ n ∷ drop (i + 1) chain = drop_more_any chain i 0 c.loop-number-test.true in
    let here = subst (λ (l : List ℕ). IsCourse f.graph.now.blocks.items v.chains.now (end_view c.loop-number.end) l) left c.loop-number.invariant.course in
    let at : slice_get f.graph.now.blocks.items n ≡ Some b = slice_get-get_or f.graph.now.blocks.items n b (slice_get_within f.graph.now.blocks.items n here.1.0 here.1.1) ∙ ap Some (sym c.index-block.ensures) in
    let view = view_at f n b at in
    record {
      different = block_different (graph_view f.graph.now).blocks n (block_view b) view c.requires.survey.once;
      unmet = λ p there. c.loop-number.invariant.fresh p (record { number = n; block = block_view b; among = subst (λ (l : List ℕ). Among n l) (sym left) front; is = view; marked = there });
    }

pub add_block-requires-clause-reached : goal.add_block-requires-clause-reached
add_block-requires-clause-reached c =
    let v = c.args.self.now in
    let f = v.function.now in
    let chain = c.args.chain.now in
    let i = c.loop-number.number-index in
    let n = get_or chain i 0 in
    let b = c.index-block.result.now in
    let here = subst (λ (l : List ℕ). IsCourse f.graph.now.blocks.items v.chains.now (end_view c.loop-number.end) l) (drop_more_any chain i 0 c.loop-number-test.true) c.loop-number.invariant.course in
    let at : slice_get f.graph.now.blocks.items n ≡ Some b = slice_get-get_or f.graph.now.blocks.items n b (slice_get_within f.graph.now.blocks.items n here.1.0 here.1.1) ∙ ap Some (sym c.index-block.ensures) in
    (n, (c.loop-number.invariant.full n (subst (λ e. Among n (targets_of e)) (sym here.0) front) (block_view b) (view_at f n b at)).reached)

pub returns-clause-starts : goal.returns-clause-starts
returns-clause-starts c =
    (let v = c.args.self.now in
    let blocks = v.function.now.graph.now.blocks.items in
    subst (λ (l : List ℕ). IsCourse blocks v.chains.now (end_view c.loop-number.end) l) (drop_end c.args.chain.now c.loop-number.number-index (omega arith)) c.loop-number.invariant.course)

pub returns-clause-sound : goal.returns-clause-sound
returns-clause-sound c = λ states later more next.
    c.loop-number.invariant.sound states later more (chain_end c.args.self.now states later c.args.chain.now c.loop-number.number-index (end_view c.loop-number.end) c.loop-number.state (omega arith) next)
