use Rattle.std.proofs.Common.{◌<◌, length, ◌++◌, List, reverse, ap, ◌∙◌, rules}
use Rattle.debug_records.specs.declared.change.Place.{Place}
use Rattle.std.proofs.lemmas.Option.{slice_get-get_or}
use Rattle.places.specs.Path.{numbers}
use Rattle.places.proofs.Tracing.{trace_end, trace_goes, trace_less, trace_more, trace_within}
use Rattle.places.proofs.search.trace.Goals as goal

pub loop-at-init : goal.loop-at-init
loop-at-init c = (c.requires, λ whole w. (whole, w, ap (λ (bs : List Place). whole ++ reverse (numbers bs)) c.in_ok-back.ensures.items))

pub offset_bounds-visits-at : goal.offset_bounds-visits-at
offset_bounds-visits-at c = let within : c.loop-at.at < length c.args.visits.now = trace_within _ _ c.loop-at.invariant.0 in search rules

pub bounds-visits-at : goal.bounds-visits-at
bounds-visits-at c = trace_within _ _ c.loop-at.invariant.0

pub loop-at-smaller : goal.loop-at-smaller
loop-at-smaller c = trace_less _ _ _ c.loop-at.invariant.0 c.loop-at-test.true

pub loop-at-preserved : goal.loop-at-preserved
loop-at-preserved c = (trace_goes _ _ _ c.loop-at.invariant.0 c.loop-at-test.true, λ whole w. trace_more _ _ _ _ _ _ c.loop-at-test.true c.in_ok-push.ensures.items (c.loop-at.invariant.1 whole w))

pub bounds-visits-at-2 : goal.bounds-visits-at-2
bounds-visits-at-2 c = trace_within _ _ c.loop-at.invariant.0

pub returns-clause-way : goal.returns-clause-way
returns-clause-way c = λ whole w.
    let first = slice_get-get_or c.args.visits.now c.loop-at.at _ (trace_within _ _ c.loop-at.invariant.0) in
    let turned = c.in_ok-from_slice.ensures.ok ∙ c.deref.ensures.value ∙ c.reverse.ensures.items in
    trace_end c.args.visits.now c.loop-at.at _ c.loop-at.back.items c.push-2.new.self.items _ _ c.loop-at-test.false first c.in_ok-push-2.ensures.items turned (c.loop-at.invariant.1 whole w)
