use Rattle.std.proofs.Common.{◌<◌, map, length, arith}
use Rattle.c_tree.specs.Programs.{literal_view}
use Rattle.c_meaning_values.specs.Views.{object_view}
use Rattle.c_meaning.proofs.Statics.{adds_literal, seen_at}
use Rattle.c_meaning.proofs.static_storage.add_literals.Goals as goal

pub loop-number-preserved : goal.loop-number-preserved
loop-number-preserved c =
    let inside : c.loop-number.number < length c.args.literals.now = omega (arith, c.loop-number-test.true) in
    let found = seen_at literal_view c.args.literals.now c.loop-number.number c.index-literals-number.result inside c.index-literals-number.is in
    adds_literal c.loop-number.number (map literal_view c.args.literals.now) (map object_view c.args.memory.now.all.items) (map object_view c.loop-number.memory.all.items) (map object_view c.push.new.self.all.items) (literal_view c.index-literals-number.result) (object_view c.in_ok-literal_object.field-0) c.loop-number.invariant found c.in_ok-literal_object.ensures c.in_ok-push.ensures
