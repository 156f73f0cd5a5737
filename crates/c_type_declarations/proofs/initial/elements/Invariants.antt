use Rattle.std.proofs.Common.{◌≡◌, ◌++◌, drop}
use Rattle.std.specs.Prelude.{map}
use Rattle.c_tree.specs.Declarations.{chain_of_initializers, initializer_view}
use Rattle.c_tree.specs.TypedExpressions.{rvalue_view}
use Rattle.c_type_declarations.specs.Initials.{elements_met}
use Rattle.c_type_declarations.specs.Progress.{means, next_met, progress_view}
use Rattle.c_type_declarations.proofs.initial.elements.Given as goal

abbrev pub invariant-loop-one : goal.invariant-loop-one
invariant-loop-one l =
    next_met (elements_met l.of l.extent (chain_of_initializers (map initializer_view (drop l.one-index l.initializers))) (progress_view l.progress)) (λ vs. means (map rvalue_view l.values.items ++ vs)) ≡ elements_met l.of l.extent (chain_of_initializers (map initializer_view l.initializers)) (progress_view l.fn.progress)
