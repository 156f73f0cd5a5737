use Rattle.std.proofs.Common.{◌+◌, ◌-◌, ◌/◌, arith}
use Rattle.image_form.specs.Views.{viewed}
use Rattle.image_form.specs.declared.tables.Place.{Place}
use Rattle.stop_engine.proofs.StopsByLine.{in_order, less_before, not_less_behind}
use Rattle.stop_engine.proofs.breaks.first_on.Goals as goal

pub loop-low-preserved-then-place_at-line : goal.loop-low-preserved-then-place_at-line
loop-low-preserved-then-place_at-line c =
    let places = (viewed c.args.image.now).places in
    let line = λ (x : Place). x.line in
    record {
      order = omega (arith, c.loop-low-test.true);
      within = c.loop-low.invariant.within;
      before = less_before line places c.args.line (c.loop-low.low + (c.loop-low.high - c.loop-low.low) / 2) c.place_at.result (in_order line places c.requires) c.place_at.ensures c.if-place_at-line.true;
      behind = c.loop-low.invariant.behind;
    }

pub loop-low-preserved : goal.loop-low-preserved
loop-low-preserved c =
    let places = (viewed c.args.image.now).places in
    let line = λ (x : Place). x.line in
    record {
      order = omega arith;
      within = omega (arith, c.loop-low-test.true, c.loop-low.invariant.within);
      before = c.loop-low.invariant.before;
      behind = not_less_behind line places c.args.line (c.loop-low.low + (c.loop-low.high - c.loop-low.low) / 2) c.place_at.result (in_order line places c.requires) c.place_at.ensures c.if-place_at-line.false;
    }
