use Rattle.std.proofs.Common.{◌≡◌, drop}
use Rattle.std.specs.Prelude.{map}
use Rattle.c_tree.specs.Declarations.{chain_of_initializers, initializer_view}
use Rattle.c_type_declarations.specs.Initials.{looked_at}
use Rattle.c_type_declarations.specs.Progress.{progress_view}
use Rattle.c_type_declarations.proofs.initial.look_at.Given as goal

abbrev pub invariant-loop-one : goal.invariant-loop-one
invariant-loop-one l = looked_at (chain_of_initializers (map initializer_view (drop l.one-index l.initializers))) (progress_view l.progress) ≡ looked_at (chain_of_initializers (map initializer_view l.initializers)) (progress_view l.fn.progress)
