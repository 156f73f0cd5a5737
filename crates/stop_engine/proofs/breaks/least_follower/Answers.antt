use Rattle.std.proofs.Common.{◌≡◌, ◌≢◌, ◌≤◌, get_or, length, sym, subst, ◌∙◌, arith}
use Rattle.std.proofs.lemmas.Option.{slice_get_within}
use Rattle.image_form.specs.Views.{viewed}
use Rattle.image_form.specs.declared.tables.FlowPair.{FlowPair}
use Rattle.stop_engine_tables.proofs.Records.{record_at}
use Rattle.stop_engine.proofs.Followers.{follower-found}
use Rattle.stop_engine.proofs.StopsByLine.{followers-behind, followers-none, followers-past}
use Rattle.stop_engine.proofs.breaks.least_follower.Goals as goal

pub returns-then-index-flow_count : goal.returns-then-index-flow_count
returns-then-index-flow_count c =
    let flow = (viewed c.args.image.now).flow in
    let i = c.first_from-index.result in
    let past : length flow ≤ i = omega (arith, c.flow_count.ensures.count, c.if-index-flow_count.true) in
    sym (followers-past c.args.place i flow past) ∙ followers-behind c.args.place i flow c.first_from-index.ensures.before

pub returns-then-pair-place : goal.returns-then-pair-place
returns-then-pair-place c =
    let flow = (viewed c.args.image.now).flow in
    let i = c.first_from-index.result in
    follower-found c.args.place i c.flow_at-pair.result flow c.requires c.flow_at-pair.ensures c.if-pair-place.true ∙ followers-behind c.args.place i flow c.first_from-index.ensures.before

pub returns-else-pair-place : goal.returns-else-pair-place
returns-else-pair-place c =
    let flow = (viewed c.args.image.now).flow in
    let i = c.first_from-index.result in
    let pair = c.flow_at-pair.result in
    let within = slice_get_within flow i pair c.flow_at-pair.ensures in
    let same : pair ≡ get_or flow i pair = record_at flow i pair pair c.flow_at-pair.ensures in
    let other : (get_or flow i pair).from ≢ c.args.place = subst (λ (q : FlowPair). q.from ≢ c.args.place) same c.if-pair-place.false in
    sym (followers-none c.args.place i pair flow c.requires within (c.first_from-index.ensures.behind i pair (omega arith) within) other)
    ∙ followers-behind c.args.place i flow c.first_from-index.ensures.before
