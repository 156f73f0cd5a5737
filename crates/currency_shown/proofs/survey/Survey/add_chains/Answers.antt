use Rattle.std.proofs.Common.{◌≡◌, ◌<◌, ℕ, List, Some, ap, arith, inl, inr, length, refl, sym, subst, true≢false, ◌∙◌}
use Rattle.std.proofs.lemmas.Option.{slice_get-get_or}
use Rattle.graph_core.specs.Graphs.{graph_view}
use Rattle.currency_notes.proofs.Lists.{each_all, each_more, get_among}
use Rattle.currency_shown.specs.declared.states.States as declared-states
use Rattle.currency_shown.specs.Chains.{AreFull}
use Rattle.currency_shown.specs.Survey.{IsMarkedIn, IsReachedSound}
use Rattle.currency_shown.proofs.Adding.{extended_on, extended_same}
use Rattle.currency_shown.proofs.Linking.{chain_course, chain_once}
use Rattle.currency_shown.proofs.Walking.{chain_fresh, none_taken}
use Rattle.currency_shown.proofs.survey.Survey.add_chains.Goals as goal

pub loop-chain-init : goal.loop-chain-init
loop-chain-init c = record {
  same = refl;
  met = c.requires.met;
  only = λ p e. absurd (true≢false (sym e ∙ c.requires.fresh p));
  sound = λ later more k there. absurd (none_taken c.args.self.now.chains.now k there);
}

pub loop-chain-preserved : goal.loop-chain-preserved
loop-chain-preserved c =
    let v = c.args.self.now in
    let inv = c.loop-chain.invariant in
    let one = c.chain-item.result in
    let i = c.loop-chain.chain-index in
    let chain : c.deref.result.now ≡ one.items = c.deref.ensures.value in
    let quiet = c.in_ok-add_reached.ensures.quiet c.if-branch.false in
    let blocks = (graph_view v.function.now.graph.now).blocks in
    record {
      same = quiet ∙ inv.same;
      met = c.in_ok-add_reached.ensures.extended.all;
      only = λ p e. elim (c.in_ok-add_reached.ensures.only p e) [
        | inl m ↦ (let j = inv.only p m in (j.0, (let lt = j.1 in omega (arith, lt)), j.2, j.3, j.4))
        | inr m ↦ (i, omega arith, one, slice_get-get_or v.chains.now i one c.loop-chain-test.true ∙ ap Some (sym c.chain-item.is), subst (λ (l : List ℕ). IsMarkedIn blocks l p) chain m)
      ];
      sound = λ later more.
          each_more (λ k. IsReachedSound v c.args.states.now later k.items) v.chains.now i one c.loop-chain-test.true c.chain-item.is
          (inv.sound later (extended_on v c.loop-chain.found c.add_reached.new.found later c.in_ok-add_reached.ensures.extended more))
          (subst (λ (l : List ℕ). IsReachedSound v c.args.states.now later l) chain (subst (λ (s : declared-states.States). IsReachedSound v s later c.deref.result.now) inv.same (c.in_ok-add_reached.ensures.sound c.if-branch.false later more)));
    }

-- the next chain
pub add_reached-requires-clause-some : goal.add_reached-requires-clause-some
add_reached-requires-clause-some c = subst (λ (l : List ℕ). 0 < length l) (sym c.deref.ensures.value) (c.requires.survey.chains.some c.chain-item.result (get_among c.args.self.now.chains.now c.loop-chain.chain-index c.chain-item.result c.loop-chain-test.true c.chain-item.is))

pub add_reached-requires-clause-course : goal.add_reached-requires-clause-course
add_reached-requires-clause-course c = chain_course c.args.self.now.function.now.graph.now.blocks.items c.args.self.now.chains.now c.requires.survey.chains c.loop-chain.chain-index c.chain-item.result c.deref.result.now c.loop-chain-test.true c.chain-item.is c.deref.ensures.value

pub add_reached-requires-clause-once : goal.add_reached-requires-clause-once
add_reached-requires-clause-once c =
    let at = slice_get-get_or c.args.self.now.chains.now c.loop-chain.chain-index c.chain-item.result c.loop-chain-test.true ∙ ap Some (sym c.chain-item.is) in
    chain_once c.args.self.now.function.now.graph.now.blocks.items c.args.self.now.chains.now c.requires.survey.chains c.loop-chain.chain-index c.chain-item.result c.deref.result.now at c.deref.ensures.value

pub add_reached-requires-clause-fresh : goal.add_reached-requires-clause-fresh
add_reached-requires-clause-fresh c =
    let v = c.args.self.now in
    let at = slice_get-get_or v.chains.now c.loop-chain.chain-index c.chain-item.result c.loop-chain-test.true ∙ ap Some (sym c.chain-item.is) in
    chain_fresh v c.requires.survey c.loop-chain.found c.loop-chain.chain-index c.chain-item.result c.deref.result.now at c.deref.ensures.value c.loop-chain.invariant.only

pub add_reached-requires-clause-full : goal.add_reached-requires-clause-full
add_reached-requires-clause-full c = subst (λ (s : declared-states.States). AreFull c.args.self.now.function.now s) (sym c.loop-chain.invariant.same) c.requires.full

pub returns-clause-sound : goal.returns-clause-sound
returns-clause-sound c = λ e chain among.
    (let v = c.args.self.now in
    each_all (λ k. IsReachedSound v c.args.states.now c.loop-chain.found k.items) v.chains.now c.loop-chain.chain-index (omega arith) (c.loop-chain.invariant.sound c.loop-chain.found (extended_same v c.loop-chain.found c.loop-chain.invariant.met)) chain among)
