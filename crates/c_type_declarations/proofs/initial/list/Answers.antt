use Rattle.std.proofs.Common.{◌≡◌, length, arith}
use Rattle.std.specs.Prelude.{map}
use Rattle.c_tree.specs.TypedExpressions.{rvalue_view}
use Rattle.c_type_declarations.specs.Progress.{progress_view}
use Rattle.c_type_declarations.proofs.Loops.{list_is}
use Rattle.c_type_declarations.proofs.Views.{list_view}
use Rattle.c_type_declarations.proofs.initial.list.Goals as goal

pub returns-in_ok-values-in-List : goal.returns-in_ok-values-in-List
returns-in_ok-values-in-List c =
    let len : c.len.result ≡ length c.in-List.initializers.items = omega (arith, c.len.ensures) in
    rw (c.in-List.is, list_view c.in-List.initializers)
    (list_is c.args.element c.args.size c.args.extent c.in-List.initializers.items (map rvalue_view c.in_ok-values-in-List.values.items) (progress_view c.args.progress.now) (progress_view c.within_count.new.progress) (progress_view c.elements.new.progress) (rw len at c.in_ok-within_count-in-List.ensures) (rw c.deref.ensures.value at c.in_ok-values-in-List.ensures))
