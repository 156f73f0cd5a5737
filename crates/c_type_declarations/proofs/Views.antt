-- The views of initializers in braces.
use Rattle.std.proofs.Common.{◌≡◌, Vec, Global, ap, sym, ◌∙◌}
use Rattle.std.specs.Prelude.{map}
use Rattle.c_tree.specs.declared.declaration.Initializer.{Initializer, Initializer-F, fold-roll-Initializer}
use Rattle.c_tree.specs.declared.declaration.Initializer.TheVariants as initializer
use Rattle.c_tree.specs.Declarations.{InitializerTree, Braces, chain_of_initializers, initializer_step, initializer_view}

pub list_view : (v : Vec Initializer Global) → initializer_view (initializer.List v) ≡ Braces (chain_of_initializers (map initializer_view v.items))
list_view v = ap initializer_view (sym (initializer.rolls-List v)) ∙ fold-roll-Initializer InitializerTree initializer_step (Initializer-F.List v)
