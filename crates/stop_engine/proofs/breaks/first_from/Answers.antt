use Rattle.std.proofs.Common.{◌+◌, ◌-◌, ◌/◌, arith}
use Rattle.image_form.specs.Views.{viewed}
use Rattle.image_form.specs.declared.tables.FlowPair.{FlowPair}
use Rattle.stop_engine.proofs.StopsByLine.{from_not_falling, in_order, less_before, not_less_behind}
use Rattle.stop_engine.proofs.breaks.first_from.Goals as goal

pub loop-low-preserved-then-flow_at-place : goal.loop-low-preserved-then-flow_at-place
loop-low-preserved-then-flow_at-place c =
    let flow = (viewed c.args.image.now).flow in
    let from = λ (x : FlowPair). x.from in
    record {
      order = omega (arith, c.loop-low-test.true);
      within = c.loop-low.invariant.within;
      before = less_before from flow c.args.place (c.loop-low.low + (c.loop-low.high - c.loop-low.low) / 2) c.flow_at.result (in_order from flow (from_not_falling flow c.requires)) c.flow_at.ensures c.if-flow_at-place.true;
      behind = c.loop-low.invariant.behind;
    }

pub loop-low-preserved : goal.loop-low-preserved
loop-low-preserved c =
    let flow = (viewed c.args.image.now).flow in
    let from = λ (x : FlowPair). x.from in
    record {
      order = omega arith;
      within = omega (arith, c.loop-low-test.true, c.loop-low.invariant.within);
      before = c.loop-low.invariant.before;
      behind = not_less_behind from flow c.args.place (c.loop-low.low + (c.loop-low.high - c.loop-low.low) / 2) c.flow_at.result (in_order from flow (from_not_falling flow c.requires)) c.flow_at.ensures c.if-flow_at-place.false;
    }
