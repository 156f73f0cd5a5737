use Rattle.std.proofs.Common.{◌≡◌, ℕ, ap, arith, length, replicate, subst}
use Rattle.std.proofs.lemmas.List.{length-replicate}
use Rattle.currency.specs.Telling.{AreBelow, told_at}
use Rattle.currency.proofs.rows.rows_of.Goals as goal

pub rows_by-requires-clause-below : goal.rows_by-requires-clause-below
rows_by-requires-clause-below c =
    (let filled : c.in_ok-slots.slots.items ≡ replicate {A = ℕ} c.args.variables 0 = c.in_ok-slots.ensures.items_if_clones_equal (λ y e. e) in
    let count = ap length filled in
    let long = length-replicate {A = ℕ} c.args.variables 0 in
    let same = ap length c.deref_mut.ensures.value in
    let size : c.args.variables ≡ length c.deref_mut.result.now = omega (arith, count, long, same) in
    λ p. subst (λ n. AreBelow n (told_at c.args.told.now p)) size (c.requires.below p))
