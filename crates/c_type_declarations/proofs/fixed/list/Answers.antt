use Rattle.std.proofs.Common.{◌≡◌, length, arith}
use Rattle.c_type_declarations.specs.Progress.{progress_view}
use Rattle.c_type_declarations.specs.Statics.{contents_view}
use Rattle.c_type_declarations.proofs.Loops.{contents_is}
use Rattle.c_type_declarations.proofs.Views.{list_view}
use Rattle.c_type_declarations.proofs.fixed.list.Goals as goal

pub returns-in_ok-made-in-List : goal.returns-in_ok-made-in-List
returns-in_ok-made-in-List c =
    let len : c.len.result ≡ length c.in-List.initializers.items = omega (arith, c.len.ensures) in
    rw (c.in-List.is, list_view c.in-List.initializers)
    (contents_is c.args.element c.args.size c.args.extent c.in-List.initializers.items (contents_view c.in_ok-made-in-List.made) (progress_view c.args.progress.now) (progress_view c.within_count.new.progress) (progress_view c.fills.new.progress) (rw len at c.in_ok-within_count-in-List.ensures) (rw c.deref.ensures.value at c.in_ok-made-in-List.ensures))
