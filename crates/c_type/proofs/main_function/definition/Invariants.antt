use Rattle.std.proofs.Common.{◌≡◌, drop}
use Rattle.std.specs.Prelude.{map}
use Rattle.c_tree.specs.Trees.{item_view}
use Rattle.c_type.specs.Programs.{main_definition}
use Rattle.c_type.proofs.main_function.definition.Given as goal

abbrev pub invariant-loop-item : goal.invariant-loop-item
invariant-loop-item l = main_definition (map item_view (drop l.item-index l.items)) ≡ main_definition (map item_view l.items)
