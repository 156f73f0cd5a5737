use Rattle.std.proofs.Common.{◌+◌, ◌<◌, ◌^◌, length, map}
use Rattle.std.specs.Prelude.{◌↔◌}
use Rattle.std.specs.List.{AllByRecursion}
use Rattle.c_tree.specs.Programs.{TypedFunctionTree, function_view}
use Rattle.c_flow.proofs.limits.parameters_fit.Given as goal

abbrev pub invariant-loop-left : goal.invariant-loop-left
invariant-loop-left l =
    AllByRecursion (λ (f : TypedFunctionTree). f.first_variable + f.parameters < 2 ^ 32) (map function_view l.left)
    ↔ AllByRecursion (λ (f : TypedFunctionTree). f.first_variable + f.parameters < 2 ^ 32) (map function_view l.functions)

abbrev pub decreases-loop-left : goal.decreases-loop-left
decreases-loop-left l = length l.left
