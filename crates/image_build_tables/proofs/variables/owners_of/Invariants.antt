use Rattle.std.proofs.Common.{◌≡◌, ◌++◌, drop, map}
use Rattle.c_tree.specs.Programs.{function_view}
use Rattle.image_build_tables.specs.Variables.{owned_from}
use Rattle.image_build_tables.proofs.variables.owners_of.Given as goal

abbrev pub invariant-loop-number : goal.invariant-loop-number
invariant-loop-number l = l.owners.items ++ owned_from l.number (map function_view (drop l.number l.functions)) ≡ owned_from 0 (map function_view l.functions)
