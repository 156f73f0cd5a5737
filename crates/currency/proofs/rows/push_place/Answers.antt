use Rattle.std.proofs.Common.{arith, inl, map}
use Rattle.currency.specs.Visible.{sight}
use Rattle.currency.proofs.OnRows.{sights_all, sights_first, sights_next, told_next}
use Rattle.currency.proofs.rows.push_place.Goals as goal

pub loop-var-init : goal.loop-var-init
loop-var-init c = record { sights = sights_first c.args.place c.args.visible.now c.args.rows.now.items; told = λ w among. inl among }

pub returns-clause-sights : goal.returns-clause-sights
returns-clause-sights c = sights_all c.args.place c.args.visible.now c.loop-var.var-index (map sight c.args.rows.now.items) (map sight c.loop-var.rows.items) (omega arith) c.loop-var.invariant.sights

pub loop-var-preserved : goal.loop-var-preserved
loop-var-preserved c =
    let told = c.args.told.now in
    let visible = c.args.visible.now in
    let first = c.args.rows.now.items in
    let rows = c.loop-var.rows.items in
    let k = c.loop-var.var-index in
    record {
      sights = sights_next told c.args.place visible first rows c.push.new.self.items k _ c.in_ok-verdict.verdict c.loop-var-test.true c.in_ok-push.ensures.items (map sight first) c.loop-var.invariant.sights;
      told = told_next told c.args.place visible first rows c.push.new.self.items k _ c.in_ok-verdict.verdict c.loop-var-test.true c.in_ok-push.ensures.items c.told_on.result c.told_on.ensures c.in_ok-verdict.ensures c.loop-var.invariant.told;
    }
