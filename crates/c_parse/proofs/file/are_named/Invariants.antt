use Rattle.std.proofs.Common.{◌≡◌, length}
use Rattle.std.specs.Prelude.{map}
use Rattle.c_tree.specs.Declarations.{parameter_view}
use Rattle.c_parse.specs.Reading.{are_named}
use Rattle.c_parse.proofs.file.are_named.Given as goal

abbrev pub invariant-loop-rest : goal.invariant-loop-rest
invariant-loop-rest l = are_named (map parameter_view l.parameters) ≡ are_named (map parameter_view l.rest)

abbrev pub decreases-loop-rest : goal.decreases-loop-rest
decreases-loop-rest l = length l.rest
