use Rattle.std.proofs.Common.{◌<◌, ◌∙◌, arith}
use Rattle.c_flow.proofs.EachAssigned.{parameter_added}
use Rattle.c_flow.proofs.assigned.add_entry.Goals as goal

pub loop-i-preserved : goal.loop-i-preserved
loop-i-preserved c =
    let lt : c.loop-i.i < c.args.function.now.parameters = omega arith in
    parameter_added c.args.function.now.spot.at c.args.function.now.first_variable c.loop-i.i c.args.function.now.parameters c.loop-i.found.items c.add.new.found.items lt c.in_ok-add.ensures ∙ c.loop-i.invariant
