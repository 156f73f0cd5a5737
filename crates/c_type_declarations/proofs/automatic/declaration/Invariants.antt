use Rattle.std.proofs.Common.{◌≡◌, ◌++◌, drop}
use Rattle.std.specs.Prelude.{map}
use Rattle.c_tree.specs.Declarations.{declarator_view}
use Rattle.c_tree.specs.TypedStatements.{declared_view}
use Rattle.c_type_declarations.specs.Declarations.{automatics_met}
use Rattle.c_type_declarations.specs.Progress.{means, next_met, progress_view}
use Rattle.c_type_declarations.proofs.automatic.declaration.Given as goal

abbrev pub invariant-loop-declarator : goal.invariant-loop-declarator
invariant-loop-declarator l =
    next_met (automatics_met l.declaration.integer_type (map declarator_view (drop l.declarator-index l.declaration.declarators.items)) (progress_view l.progress)) (λ all. means (map declared_view l.all.items ++ all)) ≡ automatics_met l.declaration.integer_type (map declarator_view l.declaration.declarators.items) (progress_view l.fn.progress)
