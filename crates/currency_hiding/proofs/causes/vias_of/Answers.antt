use Rattle.std.proofs.Common.{arith}
use Rattle.currency_hiding.specs.declared.causes.Via as declared-via
use Rattle.currency_hiding.specs.Found.{IsWayBy}
use Rattle.currency_hiding.proofs.Asked.{all_none}
use Rattle.currency_hiding.proofs.Coming.{vias_sorted}
use Rattle.currency_hiding.proofs.First.{of_none, vias_moved, vias_next, ways_moved, ways_next}
use Rattle.currency_hiding.proofs.causes.vias_of.Goals as goal

pub loop-write-init : goal.loop-write-init
loop-write-init c = record { each = all_none (λ (v : declared-via.Via). IsWayBy c.args.search.now v) _ c.new-vias.ensures.items; of = of_none c.args.writes.now _ c.new-vias.ensures.items; last = tt; all = λ k d lt. absurd (omega (arith, lt)) }

pub loop-write-preserved : goal.loop-write-preserved
loop-write-preserved c = record {
  each = c.in_ok-last.ensures.each;
  of = ways_next c.args.search.now c.args.writes.now c.loop-write.write-index _ c.loop-write.vias.items c.add_next.new.vias.items c.loop-write-test.true c.in_ok-last.ensures.only c.loop-write.invariant.of;
  last = c.in_ok-last.ensures.last;
  all = vias_next c.args.search.now c.loop-write.vias.items c.add_next.new.vias.items c.args.writes.now c.loop-write.write-index _ c.loop-write-test.true c.in_ok-last.ensures.kept c.in_ok-last.ensures.there c.loop-write.invariant.all;
}

pub returns-clause-each : goal.returns-clause-each
returns-clause-each c = ways_moved c.args.search.now c.args.writes.now c.loop-write.vias.items c.sort_unstable.new.self.items c.sort_unstable.ensures.permutation c.loop-write.invariant.each c.loop-write.invariant.of

pub returns-clause-all : goal.returns-clause-all
returns-clause-all c = vias_moved c.args.search.now c.loop-write.vias.items c.sort_unstable.new.self.items c.args.writes.now c.loop-write.write-index (omega arith) c.sort_unstable.ensures.permutation c.loop-write.invariant.all

pub returns-clause-ordered : goal.returns-clause-ordered
returns-clause-ordered c = vias_sorted c.sort_unstable.new.self.items c.sort_unstable.ensures.sorted
