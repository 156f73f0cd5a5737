use Rattle.std.proofs.Common.{◌≡◌, drop}
use Rattle.std.specs.Prelude.{map}
use Rattle.c_tree.specs.Declarations.{chain_of_initializers, initializer_view}
use Rattle.c_type_declarations.specs.Progress.{progress_view}
use Rattle.c_type_declarations.specs.Statics.{contents_view, fills_met, nothing}
use Rattle.c_type_declarations.proofs.fixed.fills.Given as goal

abbrev pub invariant-loop-one : goal.invariant-loop-one
invariant-loop-one l =
    fills_met l.element l.extent (chain_of_initializers (map initializer_view (drop l.one-index l.initializers))) (contents_view l.contents) (progress_view l.progress) ≡ fills_met l.element l.extent (chain_of_initializers (map initializer_view l.initializers)) nothing (progress_view l.fn.progress)
