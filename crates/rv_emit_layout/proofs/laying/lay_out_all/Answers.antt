use Rattle.std.proofs.Common.{◌≡◌, length, map, refl, arith}
use Rattle.graph_core.specs.Graphs.{graph_view}
use Rattle.graph_homes.specs.Homed.{homed_view}
use Rattle.rv_emit_layout.specs.Laid.{laid_view, static_view}
use Rattle.rv_emit_layout.proofs.Appended.{fewer, laid_end, laid_step, lay_step}
use Rattle.rv_emit_layout.proofs.Shortened.{longest_more}
use Rattle.rv_emit_layout.proofs.laying.lay_out_all.Goals as goal

pub loop-left-preserved : goal.loop-left-preserved
loop-left-preserved c = record {
  each = omega (arith, c.loop-left.invariant.each, c.in_ok-push.ensures.len, fewer c.loop-left.left.now c.in-len1-up.len_at_least);
  few = λ plain. omega (arith, c.loop-left.invariant.few plain, lay_step graph_view c.loop-left.left.now c.loop-left.all.items _ _ _ _ c.in-len1-up.len_at_least c.graph-item.is (c.in_ok-one.ensures.few plain) c.in_ok-push.ensures.items);
  drawn = λ more rest. laid_step graph_view (homed_view c.args.homed.now) (static_view c.args.statics.now) (map graph_view c.args.homed.now.unit.graphs.items) c.loop-left.function c.saturating_add-function.result c.loop-left.left.now c.loop-left.all.items
      c.push.new.self.items c.in_ok-one.one c.graph-item.result _ c.homes_at-homes.result.now _ more c.in-len1-up.len_at_least c.graph-item.is c.saturating_add-function.ensures c.homes_at-homes.ensures refl c.in_ok-one.ensures.drawn
      c.in_ok-push.ensures.items c.loop-left.invariant.drawn rest;
  longest = longest_more laid_view c.args.homed.now.unit.room c.loop-left.all.items c.push.new.self.items c.in_ok-one.one c.in_ok-push.ensures.items c.loop-left.invariant.longest c.in_ok-one.ensures.longest;
}

pub returns-clause-drawn : goal.returns-clause-drawn
returns-clause-drawn c =
    let none : length c.loop-left.left.now ≡ 0 = omega (arith, c.in_default.len_below) in
    laid_end graph_view (homed_view c.args.homed.now) (static_view c.args.statics.now) (map graph_view c.args.homed.now.unit.graphs.items) c.loop-left.function c.loop-left.left.now c.loop-left.all.items none c.loop-left.invariant.drawn
