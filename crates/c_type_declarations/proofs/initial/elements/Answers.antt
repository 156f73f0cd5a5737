use Rattle.std.proofs.Common.{◌+◌, [], ◌∷◌, drop, map, sym, ◌∙◌}
use Rattle.std.proofs.lemmas.List.{map-append}
use Rattle.std.specs.Option.{option_map}
use Rattle.c_tree.specs.Declarations.{chain_of_initializers, initializer_view}
use Rattle.c_tree.specs.TypedExpressions.{rvalue_view}
use Rattle.c_type_values.specs.Values.{value_view}
use Rattle.c_type_declarations.specs.Progress.{progress_view}
use Rattle.c_type_declarations.proofs.Loops.{chain_item, elements_end, elements_step}
use Rattle.c_type_declarations.proofs.initial.elements.Goals as goal

pub loop-one-preserved : goal.loop-one-preserved
loop-one-preserved c =
    rw (c.in_ok-push.ensures.items, map-append rvalue_view c.loop-one.values.items (c.into_inner.result ∷ []), c.into_inner.ensures, c.in_ok-tree.ensures)
    (sym (elements_step c.args.of c.args.extent (initializer_view c.one-item.result) (chain_of_initializers (map initializer_view (drop (c.loop-one.one-index + 1) c.args.initializers.now))) (map rvalue_view c.loop-one.values.items) (option_map value_view c.in_ok-value.value) (progress_view c.loop-one.progress) (progress_view c.scalar.new.progress) c.in_ok-value.ensures)
    ∙ (rw (chain_item c.args.initializers.now c.loop-one.one-index c.one-item.result c.loop-one-test.true c.one-item.is) at c.loop-one.invariant))

pub returns : goal.returns
returns c =
    sym (elements_end c.args.of c.args.extent c.args.initializers.now c.loop-one.one-index (map rvalue_view c.loop-one.values.items) (progress_view c.loop-one.progress) c.loop-one-test.false) ∙ c.loop-one.invariant
