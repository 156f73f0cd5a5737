use Rattle.std.proofs.Common.{◌≡◌, ℕ, ◌<◌, Some, arith, refl, subst, sym, ◌∙◌}
use Rattle.currency_notes.proofs.Lists.{each_all, each_more_any, get_among_at}
use Rattle.currency_shown.specs.Numbering.{scalar_in}
use Rattle.currency_shown.specs.Found.{AreBelow, IsSeen, IsTold}
use Rattle.currency_shown.proofs.Adding.{added_on, only_of, only_on, told_on}
use Rattle.currency_shown.proofs.found.Found.add_all.Goals as goal

pub loop-var-preserved : goal.loop-var-preserved
loop-var-preserved c =
    let m = c.args.function.now.homes in
    let s = c.args.state.now in
    let p = c.args.place.0 in
    let inv = c.loop-var.invariant in
    let start = c.args.self.now.unshown.items in
    let now = c.loop-var.self.unshown.items in
    let next = c.add_variable.new.self.unshown.items in
    let added = c.in_ok-add_variable.ensures.added in
    record {
      met = c.in_ok-add_variable.ensures.met ∙ inv.met;
      added = added_on m s p start now next inv.added added;
      told = λ v x among number.
          each_more_any (λ w. (y : ℕ) → scalar_in c.args.numbering.now w.0 ≡ Some y → IsTold m s p next y) c.args.visible.now c.loop-var.var-index _ c.loop-var-test.true (λ w there y e. told_on m s p now next y added (inv.told w y there e))
          c.in_ok-add_variable.ensures.told v among x number;
      only = only_on (IsSeen c.args.numbering.now c.args.visible.now) start now next inv.only
          (only_of _ (IsSeen c.args.numbering.now c.args.visible.now) now next (λ x e. (_, get_among_at c.args.visible.now c.loop-var.var-index _ _ c.loop-var-test.true refl, e)) c.in_ok-add_variable.ensures.only);
    }

pub add_variable-requires : goal.add_variable-requires
add_variable-requires c = record { numbers = subst (λ n. AreBelow c.args.numbering.now n) (sym c.loop-var.invariant.added.size) c.requires.numbers }

pub returns-clause-told : goal.returns-clause-told
returns-clause-told c = λ v x among number.
    each_all (λ w. (y : ℕ) → scalar_in c.args.numbering.now w.0 ≡ Some y → IsTold c.args.function.now.homes c.args.state.now c.args.place.0 c.loop-var.self.unshown.items y) c.args.visible.now c.loop-var.var-index (omega arith) (λ w there y q. c.loop-var.invariant.told w y there q) v among x number
