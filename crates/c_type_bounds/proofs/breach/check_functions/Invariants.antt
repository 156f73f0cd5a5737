use Rattle.std.proofs.Common.{◌≡◌, drop}
use Rattle.std.specs.Prelude.{map}
use Rattle.c_tree.specs.Programs.{automatic_view, function_view}
use Rattle.c_type_bounds.specs.Bounds.{behind_functions}
use Rattle.c_type_bounds.proofs.breach.check_functions.Given as goal

abbrev pub invariant-loop-number : goal.invariant-loop-number
invariant-loop-number l = behind_functions l.number (map function_view (drop l.number l.functions)) (map automatic_view l.automatics) ≡ behind_functions 0 (map function_view l.functions) (map automatic_view l.fn.automatics)
