use Rattle.std.proofs.Common.{◌≡◌, drop}
use Rattle.std.specs.Prelude.{map}
use Rattle.c_tree.specs.Declarations.{declarator_view}
use Rattle.c_type.specs.Programs.{object_line}
use Rattle.c_type.proofs.main_function.object_line.Given as goal

abbrev pub invariant-loop-declarator : goal.invariant-loop-declarator
invariant-loop-declarator l = object_line (map declarator_view (drop l.declarator-index l.declarators)) ≡ object_line (map declarator_view l.declarators)
