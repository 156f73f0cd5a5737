use Rattle.std.proofs.Common.{arith, map, refl}
use Rattle.currency.specs.Visible.{sight}
use Rattle.image_build.proofs.OnRows.{shown_more, sights_all, sights_first, sights_next}
use Rattle.image_build.proofs.shown.push_place.Goals as goal

pub loop-var-init : goal.loop-var-init
loop-var-init c = record { visible = sights_first c.args.place c.args.visible.now c.args.rows.now.items; shown = λ h. h }

pub loop-var-preserved : goal.loop-var-preserved
loop-var-preserved c =
    let visible = c.args.visible.now in
    let first = c.args.rows.now.items in
    let rows = c.loop-var.rows.items in
    let k = c.loop-var.var-index in
    record {
      visible = sights_next c.args.place visible rows c.push.new.self.items k _ c.loop-var-test.true c.in_ok-push.ensures.items (map sight first) c.loop-var.invariant.visible;
      shown = λ h. shown_more rows c.push.new.self.items _ refl c.in_ok-push.ensures.items (c.loop-var.invariant.shown h);
    }

pub returns-clause-visible : goal.returns-clause-visible
returns-clause-visible c = sights_all c.args.place c.args.visible.now c.loop-var.var-index (map sight c.args.rows.now.items) (map sight c.loop-var.rows.items) (omega arith) c.loop-var.invariant.visible

pub returns-clause-shown : goal.returns-clause-shown
returns-clause-shown c = c.loop-var.invariant.shown
