use Rattle.std.proofs.Common.{◌≡◌, take}
use Rattle.std.specs.Prelude.{map, sum_by}
use Rattle.c_tree.specs.Programs.{automatic_view, function_view}
use Rattle.c_type_bounds.specs.Counts.{capped}
use Rattle.c_type_bounds.specs.Visible.{at_function}
use Rattle.c_type_bounds.proofs.visible.visible_pairs.Given as goal

abbrev pub invariant-loop-f : goal.invariant-loop-f
invariant-loop-f l = l.total ≡ capped (sum_by (λ x. at_function (map automatic_view l.program.automatics.items) (function_view x)) (take l.f-index l.program.functions.items))
