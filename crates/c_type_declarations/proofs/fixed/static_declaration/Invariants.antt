use Rattle.std.proofs.Common.{◌≡◌, drop}
use Rattle.std.specs.Prelude.{map}
use Rattle.c_tree.specs.Declarations.{declarator_view}
use Rattle.c_type_declarations.specs.Declarations.{statics_met}
use Rattle.c_type_declarations.specs.Progress.{progress_view}
use Rattle.c_type_declarations.proofs.fixed.static_declaration.Given as goal

abbrev pub invariant-loop-declarator : goal.invariant-loop-declarator
invariant-loop-declarator l =
    statics_met l.declaration.integer_type (map declarator_view (drop l.declarator-index l.declaration.declarators.items)) (progress_view l.progress) ≡ statics_met l.declaration.integer_type (map declarator_view l.declaration.declarators.items) (progress_view l.fn.progress)
