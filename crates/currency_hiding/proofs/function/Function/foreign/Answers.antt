use Rattle.std.proofs.Common.{arith}
use Rattle.currency_writers.specs.declared.writers.Write as declared-write
use Rattle.currency_hiding.specs.Found.{IsForeignWrite}
use Rattle.currency_hiding.proofs.Asked.{all_none, foreign_done, foreign_next}
use Rattle.currency_hiding.proofs.function.Function.foreign.Goals as goal

pub loop-write-init : goal.loop-write-init
loop-write-init c = record { each = all_none (λ (w : declared-write.Write). IsForeignWrite c.args.self.now w) _ c.new-found.ensures.items; all = λ k d lt. absurd (omega (arith, lt)) }

pub loop-write-preserved : goal.loop-write-preserved
loop-write-preserved c = record {
  each = c.in_ok-add_foreign.ensures.each;
  all = foreign_next c.args.self.now c.loop-write.found.items c.add_foreign.new.found.items c.of_home-write-items.result.now c.loop-write.write-index _ c.loop-write-test.true c.in_ok-add_foreign.ensures.kept c.in_ok-add_foreign.ensures.there c.loop-write.invariant.all;
}

pub returns-clause-all : goal.returns-clause-all
returns-clause-all c = foreign_done c.args.self.now c.loop-write.found.items c.of_home-write-items.result.now c.loop-write.write-index c.of_home-write-items.ensures (omega arith) c.loop-write.invariant.all
