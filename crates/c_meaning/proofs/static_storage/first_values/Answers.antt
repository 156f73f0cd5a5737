use Rattle.c_tree.specs.Programs.{program_view, static_view}
use Rattle.c_meaning.proofs.Statics.{adds_value}
use Rattle.c_meaning.proofs.static_storage.first_values.Goals as goal

pub loop-index-preserved : goal.loop-index-preserved
loop-index-preserved c =
    adds_value (program_view c.args.program.now) (static_view c.args.variable.now) c.element_of-element.result c.scalar_size-size.result c.loop-index.index c.loop-index.values.items c.push.new.self.items c.first_value.result c.element_of-element.ensures c.scalar_size-size.ensures.bytes c.loop-index.invariant c.first_value.ensures c.in_ok-push.ensures.items
