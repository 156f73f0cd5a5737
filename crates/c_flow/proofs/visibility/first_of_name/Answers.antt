use Rattle.std.proofs.Common.{map, arith}
use Rattle.c_tree.specs.Programs.{automatic_view}
use Rattle.c_places.specs.Places.{name_of}
use Rattle.c_flow.proofs.Classes.{name_itself}
use Rattle.c_flow.proofs.visibility.first_of_name.Goals as goal

pub returns : goal.returns
returns c = record {
  within = omega arith;
  same = name_itself (name_of (map automatic_view c.args.automatics.now) c.args.variable);
  least = λ j lt. c.loop-i.invariant j (omega arith);
}
