use Rattle.std.proofs.Common.{◌≡◌, ◌++◌, ◌∷◌, ◌<◌, ℕ, List, [], ap, arith, length, subst, sym, ◌∙◌}
use Rattle.graph_core.specs.Paths.{Among}
use Rattle.graph_core.proofs.Among.{among_one}
use Rattle.currency_shown.specs.Chains.{last_in, IsFollowing, IsLinked}
use Rattle.currency_shown.proofs.Linking.{begins_on, chain_ends, followed_within, following_on, last_on, linked_on, within_on}
use Rattle.currency_shown.proofs.chains.chain_from.Goals as goal

pub loop-next-init : goal.loop-next-init
loop-next-init c =
    let e : c.push.new.self.items ≡ c.args.first ∷ [] = c.in_ok-push.ensures.items ∙ ap (λ (l : List ℕ). l ++ (c.args.first ∷ [])) c.new-chain.ensures.items in
    record {
      begins = ([], e);
      linked = subst (λ (l : List ℕ). IsLinked c.args.blocks.now l) (sym e) tt;
      following = subst (λ (l : List ℕ). IsFollowing c.args.links.now l) (sym e) tt;
      within = λ n among. subst (λ k. k < length c.args.blocks.now) (sym (among_one (subst (λ (l : List ℕ). Among n l) e among))) c.requires.within;
      last = ap last_in e;
    }

pub loop-next-preserved : goal.loop-next-preserved
loop-next-preserved c =
    let blocks = c.args.blocks.now in
    let links = c.args.links.now in
    let last = c.loop-next.last in
    let next = c.in-Some.next in
    let chain = c.loop-next.chain.items in
    let all = c.push-in-Some.new.self.items in
    let is = c.in_ok-push-2.ensures.items in
    let step = c.in-Some.ensures.some in
    let inv = c.loop-next.invariant in
    record {
      begins = (inv.begins.0 ++ (next ∷ []), begins_on blocks links c.args.first last next chain all is inv.last inv.begins.0 inv.begins.1);
      linked = linked_on blocks links c.args.first last next chain all is inv.last inv.linked step.leads;
      following = following_on blocks links c.args.first last next chain all is inv.last inv.following step.before;
      within = within_on blocks links c.args.first last next chain all is inv.last inv.within (followed_within blocks links last next c.requires.links step.before);
      last = last_on blocks links c.args.first last next chain all is inv.last;
    }

pub loop-next-smaller : goal.loop-next-smaller
loop-next-smaller c =
    let later = c.in-Some.ensures.some.later in
    let within = c.in-Some.ensures.some.within in
    omega (arith, later, within)

pub returns : goal.returns
returns c =
    (let inv = c.loop-next.invariant in
    record {
      more = inv.begins.0;
      begins = inv.begins.1;
      start = c.requires.start;
      linked = inv.linked;
      following = inv.following;
      within = inv.within;
      ends = λ n at b is l among. chain_ends c.args.blocks.now c.args.links.now c.loop-next.chain.items c.loop-next.last inv.last (c.follower.ensures.none c.in_default.is) n at b is l among;
    })
