use Rattle.std.proofs.Common.{map, arith}
use Rattle.c_tree.specs.Programs.{automatic_view}
use Rattle.c_flow.proofs.Classes.{one_more_class}
use Rattle.c_flow.proofs.visibility.name_classes.Goals as goal

pub loop-i-preserved : goal.loop-i-preserved
loop-i-preserved c = record {
  count = omega (arith, c.in_ok-push.ensures.len);
  first = one_more_class (map automatic_view c.args.automatics.now) c.loop-i.classes.items c.push.new.self.items c.loop-i.i c.first_of_name.result c.in_ok-push.ensures.items c.loop-i.invariant.count c.loop-i.invariant.first c.first_of_name.ensures;
}
