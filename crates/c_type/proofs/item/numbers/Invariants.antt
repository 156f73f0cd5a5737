use Rattle.std.proofs.Common.{◌≡◌, length, take}
use Rattle.std.specs.Prelude.{map}
use Rattle.c_tree.specs.Trees.{item_view}
use Rattle.c_type.specs.Functions.{IsNumbering, defined}
use Rattle.c_type.proofs.item.numbers.Given as goal

abbrev pub invariant-loop-item : goal.invariant-loop-item
invariant-loop-item l = record {
  numbering : IsNumbering l.numbers (defined (map item_view (take l.item-index l.items)));
  counted : l.count ≡ length (defined (map item_view (take l.item-index l.items)));
}
