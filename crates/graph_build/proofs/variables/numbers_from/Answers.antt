use Rattle.std.proofs.Common.{◌≡◌, ◌<◌, ◌+◌, ◌∷◌, [], ◌++◌, arith}
use Rattle.c_places.proofs.Parameters.{counted_on}
use Rattle.graph_build.proofs.variables.numbers_from.Goals as goal

pub loop-i-preserved : goal.loop-i-preserved
loop-i-preserved c =
    let lt : c.loop-i.i < c.args.count = omega arith in
    let longer : c.push.new.self.items ≡ c.loop-i.found.items ++ (c.args.first + c.loop-i.i) ∷ [] = grind arith in
    counted_on c.args.first c.loop-i.i c.args.count c.loop-i.found.items c.push.new.self.items lt longer c.loop-i.invariant
