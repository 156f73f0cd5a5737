use Rattle.std.proofs.Common.{◌+◌, drop, map, sym, ◌∙◌}
use Rattle.std.specs.Option.{option_map}
use Rattle.c_tree.specs.Declarations.{chain_of_initializers, initializer_view}
use Rattle.c_type_values.specs.Values.{value_view}
use Rattle.c_type_declarations.specs.Progress.{progress_view}
use Rattle.c_type_declarations.specs.Statics.{contents_view}
use Rattle.c_type_declarations.proofs.Loops.{chain_item, fills_step}
use Rattle.c_type_declarations.proofs.fixed.fills.Goals as goal

pub loop-one-preserved : goal.loop-one-preserved
loop-one-preserved c =
    sym (fills_step c.args.element c.args.extent (initializer_view c.one-item.result) (chain_of_initializers (map initializer_view (drop (c.loop-one.one-index + 1) c.args.initializers.now))) (contents_view c.loop-one.contents) (contents_view c.fill.new.contents) (option_map value_view c.in_ok-value.value) (progress_view c.loop-one.progress) (progress_view c.scalar.new.progress) (progress_view c.fill.new.progress) c.in_ok-value.ensures c.in_ok-fill.ensures)
    ∙ (rw (chain_item c.args.initializers.now c.loop-one.one-index c.one-item.result c.loop-one-test.true c.one-item.is) at c.loop-one.invariant)
