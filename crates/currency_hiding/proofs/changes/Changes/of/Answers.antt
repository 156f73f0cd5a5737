use Rattle.std.proofs.Common.{List, ℕ, ◌<◌, ◌≡◌, inl, inr, None, Some, ap, arith, length, subst, sym, ◌∙◌, ◌≤◌, ◌++◌, ◌∷◌, []}
use Rattle.std.specs.Prelude.{AllPairs, ◌⊎◌}
use Rattle.std.specs.Global.{Vec}
use Rattle.debug_records.specs.declared.change.Change.{Change}
use Rattle.currency_hiding.specs.Changes.{IsListed, hides_as}
use Rattle.currency_hiding.proofs.Asked.{all_none}
use Rattle.currency_hiding.proofs.Listed.{found_done, found_more}
use Rattle.currency_hiding.proofs.Numbering.{ascending_more, ascending_none}
use Rattle.currency_hiding.proofs.changes.Changes.of.Goals.{in-Some+in_ok-push-in-Some, in-None}
use Rattle.currency_hiding.proofs.changes.Changes.of.Goals as goal

pub loop-number-init : goal.loop-number-init
loop-number-init c = record { each = all_none (λ (d : Change). IsListed c.args.self.now d.number d × (d.var.0 ≡ c.args.var.0) × (hides_as d.kind ≡ c.args.kind)) _ c.new-found.ensures.items; all = λ k d lt. absurd (omega (arith, lt)); ascending = ascending_none _ c.get-number-items.result.now c.new-found.ensures.items }

pub loop-number-preserved : goal.loop-number-preserved
loop-number-preserved c =
    (let before = c.loop-number.invariant in
    let old : List Change = c.loop-number.found.items in
    let new : List Change = c.match-get_of.found.items in
    let ordered : AllPairs (λ m n. m < n) c.get-number-items.result.now = subst (λ (l : List ℕ). AllPairs (λ m n. m < n) l) (sym c.get-number-items.ensures) (c.requires.ordered c.args.var.0) in
    let step : ((c.get_of.result ≡ None) × (new ≡ old)) ⊎ ((e : Change) × (c.get_of.result ≡ Some e) × (new ≡ old ++ (e ∷ []))) =
    elim c.match-get_of.branch [
      | in-Some+in_ok-push-in-Some w ↦ inr (w.in-Some.change, w.in-Some.is, ap (λ (v : Vec Change). v.items) w.found-is ∙ w.in_ok-push-in-Some.ensures.items)
      | in-None w ↦ inl (w.in-None.is, ap (λ (v : Vec Change). v.items) w.found-is)
    ] in
    let both = found_more c.args.self.now c.args.var.0 c.args.kind old new c.get-number-items.result.now c.loop-number.number-index _ c.get_of.result c.requires c.loop-number-test.true c.get_of.ensures.some c.get_of.ensures.all step before.each before.all in
    record { each = both.0; all = both.1; ascending = ascending_more c.args.self.now c.args.var.0 c.args.kind old new c.get-number-items.result.now c.loop-number.number-index _ c.get_of.result c.requires ordered c.loop-number-test.true c.get_of.ensures.some step before.ascending })

pub returns : goal.returns
returns c =
    (let le : length c.get-number-items.result.now ≤ c.loop-number.number-index = omega arith in
    found_done c.args.self.now c.args.var.0 c.args.kind c.loop-number.found.items c.get-number-items.result.now c.loop-number.number-index c.requires le c.get-number-items.ensures c.loop-number.invariant.each c.loop-number.invariant.all c.loop-number.invariant.ascending.ordered)
