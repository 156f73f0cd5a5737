use Rattle.std.proofs.Common.{◌≡◌, ◌++◌, map, drop}
use Rattle.c_tree.specs.Programs.{function_view}
use Rattle.c_type_rules.specs.ValueTypes.{results_of}
use Rattle.c_type_rules.proofs.value_type.results_of.Given as goal

abbrev pub invariant-loop-function : goal.invariant-loop-function
invariant-loop-function l =
    l.results.items ++ results_of (map function_view (drop l.function-index l.functions)) ≡ results_of (map function_view l.functions)
