use Rattle.std.proofs.Common.{◌≡◌, ℕ, List, [], drop}
use Rattle.std.specs.Prelude.{map}
use Rattle.c_tree.specs.Programs.{function_view}
use Rattle.c_tree.specs.Trees.{item_view}
use Rattle.c_type_declarations.specs.Progress.{progress_view}
use Rattle.c_type.specs.Functions.{IsNumbering}
use Rattle.c_type.specs.Items.{items_met}
use Rattle.c_type.proofs.item.items.Given as goal

abbrev pub invariant-loop-one : goal.invariant-loop-one
invariant-loop-one l =
    (names : List (List ℕ)) → IsNumbering l.numbers names → items_met names (map function_view l.functions.items) (map item_view (drop l.one-index l.items)) (progress_view l.progress) ≡ items_met names [] (map item_view l.items) (progress_view l.fn.progress)
