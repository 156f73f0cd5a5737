use Rattle.std.proofs.Common.{◌<◌, false, arith, length, refl, subst, sym, ◌∙◌}
use Rattle.std.proofs.lemmas.Option.{none-some}
use Rattle.currency_notes.proofs.Lists.{get_any}
use Rattle.currency_shown.proofs.Linking.{begun_more, starts_kept, starts_pushed}
use Rattle.currency_shown.proofs.chains.Chains.add.Goals as goal

pub returns-then-first-blocks-clause-starts : goal.returns-then-first-blocks-clause-starts
returns-then-first-blocks-clause-starts c = λ lt. absurd (omega (arith, lt))

pub returns-in-Some-clause-starts : goal.returns-in-Some-clause-starts
returns-in-Some-clause-starts c = λ lt none. absurd (none-some _ (sym none ∙ sym c.before_of.ensures ∙ c.in-Some.is))

pub returns-then-index-clause-starts : goal.returns-then-index-clause-starts
returns-then-index-clause-starts c = λ lt none.
    c.requires.begun.begun c.args.first (get_any c.args.self.now.begun.items c.args.first false c.index.result.now (subst (λ k. c.args.first < k) (sym c.requires.begun.size) lt) ∙ sym c.index.ensures ∙ c.if-index.true)

pub returns-clause-begun : goal.returns-clause-begun
returns-clause-begun c =
    let lt : c.args.first < length c.args.blocks.now = omega arith in
    begun_more c.args.blocks.now c.args.links.now c.args.self.now _ c.args.first c.in_ok-chain.chain lt
    (get_any c.args.self.now.begun.items c.args.first false c.index.result.now (subst (λ k. c.args.first < k) (sym c.requires.begun.size) lt) ∙ sym c.index.ensures ∙ c.if-index.false) c.in_ok-chain.ensures refl c.in_ok-push.ensures.items c.requires.begun

pub returns-clause-kept : goal.returns-clause-kept
returns-clause-kept c = λ l s. starts_kept c.args.self.now.chains.items c.in_ok-chain.chain _ l c.in_ok-push.ensures.items s

pub returns-clause-starts : goal.returns-clause-starts
returns-clause-starts c = λ lt none. starts_pushed c.args.blocks.now c.args.links.now c.args.self.now.chains.items c.in_ok-chain.chain _ c.args.first c.in_ok-chain.ensures c.in_ok-push.ensures.items
