use Rattle.std.proofs.Common.{◌≡◌, drop}
use Rattle.std.specs.Prelude.{map}
use Rattle.c_tree.specs.Trees.{item_view}
use Rattle.c_type.specs.Programs.{first_misdeclared}
use Rattle.c_type.proofs.main_function.no_main.Given as goal

abbrev pub invariant-loop-item : goal.invariant-loop-item
invariant-loop-item l = first_misdeclared (map item_view (drop l.item-index l.items)) ≡ first_misdeclared (map item_view l.items)
