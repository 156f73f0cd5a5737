use Rattle.std.proofs.Common.{arith}
use Rattle.currency_hiding.proofs.Listed.{sharing_done, sharing_next}
use Rattle.currency_hiding.proofs.changes.Changes.sharing.Goals as goal

pub loop-number-preserved : goal.loop-number-preserved
loop-number-preserved c = record {
  is = c.last_of-found.ensures.is;
  all = sharing_next c.args.self.now c.args.var.0 c.loop-number.found c.last_of-found.result c.get-number-items.result.now c.loop-number.number-index _ c.loop-number-test.true c.last_of-found.ensures.first c.last_of-found.ensures.second c.loop-number.invariant.all;
}

pub returns : goal.returns
returns c = sharing_done c.args.self.now c.args.var.0 c.loop-number.found c.get-number-items.result.now c.loop-number.number-index c.requires c.get-number-items.ensures (omega arith) c.loop-number.invariant.is c.loop-number.invariant.all
