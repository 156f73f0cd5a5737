use Rattle.std.proofs.Common.{◌∙◌, arith, refl}
use Rattle.std.proofs.lemmas.Option.{slice_get_within}
use Rattle.currency_hiding.proofs.Numbering.{listed_at, listing_next, listing_none}
use Rattle.currency_hiding.proofs.changes.Changes.new.Goals as goal

pub loop-change-init : goal.loop-change-init
loop-change-init c = record { listing = listing_none c.args.all.now _ c.in_ok-by_variable.ensures.none; count = refl }

pub push-requires : goal.push-requires
push-requires c = listed_at c.args.all.now c.loop-change.change-index _ c.variable_count.result _ c.loop-change-test.true c.variable_count.ensures (c.loop-change.invariant.count ∙ c.in_ok-by_variable.ensures.count)

pub loop-change-preserved : goal.loop-change-preserved
loop-change-preserved c = record {
  listing = listing_next c.args.all.now c.requires c.loop-change.by_variable c.push.new.self c.loop-change.change-index _ c.loop-change-test.true c.in_ok-push.ensures.pushed c.in_ok-push.ensures.others c.loop-change.invariant.listing;
  count = c.in_ok-push.ensures.count ∙ c.loop-change.invariant.count;
}

pub returns-clause-listed : goal.returns-clause-listed
returns-clause-listed c = record {
  numbers = c.requires;
  listed = λ k d at. (let lt = slice_get_within c.args.all.now k d at in c.loop-change.invariant.listing.listed k d (omega (arith, lt)) at);
  ordered = c.loop-change.invariant.listing.ordered;
}
