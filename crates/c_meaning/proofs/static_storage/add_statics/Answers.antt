use Rattle.std.proofs.Common.{◌≡◌, ◌<◌, Some, map, length, sym, ap, ◌∙◌, arith}
use Rattle.std.specs.Prelude.{slice_get}
use Rattle.c_tree.specs.Programs.{program_view, static_view}
use Rattle.c_meaning_values.specs.Views.{object_view}
use Rattle.c_meaning.proofs.Statics.{adds_static, seen_at}
use Rattle.c_meaning.proofs.static_storage.add_statics.Goals as goal

pub loop-number-preserved : goal.loop-number-preserved
loop-number-preserved c =
    let items = c.deref-variable-items.result.now in
    let inside : c.loop-number.number < length items = omega (arith, c.loop-number-test.true) in
    let found = seen_at static_view items c.loop-number.number c.variable-item.result inside c.variable-item.is in
    let there : slice_get (map static_view c.args.program.now.statics.items) c.loop-number.number ≡ Some (static_view c.variable-item.result) =
    ap (λ all. slice_get (map static_view all) c.loop-number.number) (sym c.deref-variable-items.ensures.value) ∙ found in
    adds_static (program_view c.args.program.now) c.loop-number.number (map static_view c.args.program.now.statics.items) (map object_view c.args.memory.now.all.items) (map object_view c.loop-number.memory.all.items) (map object_view c.push.new.self.all.items) (static_view c.variable-item.result) (object_view c.in_ok-static_object.field-0) c.loop-number.invariant there c.in_ok-static_object.ensures c.in_ok-push.ensures
