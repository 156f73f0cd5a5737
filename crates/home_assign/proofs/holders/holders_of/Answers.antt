use Rattle.std.proofs.Common.{◌≡◌, ℕ, ◌+◌, ◌≤◌, ◌++◌, ◌∷◌, Vec, Global, List, [], take, drop, get_or, length, sym, ap, ◌∙◌, subst, arith}
use Rattle.std.proofs.lemmas.List.{length-take-le, take-append-le, take_all, take_more}
use Rattle.graph_homes.specs.declared.home.Home.{Home}
use Rattle.graph_homes.specs.declared.home.Home.TheVariants.{Register}
use Rattle.home_assign.specs.Holders.{AreHolders}
use Rattle.home_assign.proofs.holders.holders_of.Goals as goal

pub loop-name-preserved : goal.loop-name-preserved
loop-name-preserved c =
    let homes = c.args.homes.now in
    let n = c.loop-name.name in
    let old = c.deref_mut.result.now in
    let new = c.add_holder.new.holders in
    let before : AreHolders (take n homes) 32 old = subst (λ all. AreHolders (take n homes) 32 all) (sym c.deref_mut.ensures.value) c.loop-name.invariant in
    let lt : n ≤ length homes = omega (arith, c.loop-name-test.true) in
    let after : AreHolders (take n homes ++ get_or homes n (Register 0) ∷ []) (length old) new =
    c.in_ok-add_holder.ensures (take n homes) (sym (length-take-le n homes lt)) (subst (λ k. AreHolders (take n homes) k old) (sym before.each) before) in
    let all : AreHolders (take (n + 1) homes) 32 new =
    subst (λ k. AreHolders (take (n + 1) homes) k new) before.each (subst (λ hs. AreHolders hs (length old) new) (sym (take_more homes n (Register 0) (omega (arith, c.loop-name-test.true)))) after) in
    let count : length new ≡ c.loop-name.holders.len = after.each ∙ c.deref_mut.ensures.len in
    let behind : List (Vec ℕ Global) = drop (length new) c.loop-name.holders.items in
    subst (λ hs. AreHolders (take (n + 1) homes) 32 hs) (sym (take-append-le c.loop-name.holders.len new behind (omega (arith, count)) ∙ take_all c.loop-name.holders.len new (omega (arith, count)))) all
