use Rattle.std.proofs.Common.{◌<◌, arith}
use Rattle.c_places.proofs.Parameters.{counted_on}
use Rattle.c_places.proofs.listing.parameters.Goals as goal

pub loop-i-preserved : goal.loop-i-preserved
loop-i-preserved c =
    let lt : c.loop-i.i < c.args.function.now.parameters = omega arith in
    counted_on c.args.function.now.first_variable c.loop-i.i c.args.function.now.parameters c.loop-i.found.items c.push.new.self.items lt c.in_ok-push.ensures.items c.loop-i.invariant
