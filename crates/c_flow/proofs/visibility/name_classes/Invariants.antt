use Rattle.std.proofs.Common.{◌≡◌, ℕ, ◌<◌, length, map, get_or}
use Rattle.c_tree.specs.Programs.{automatic_view}
use Rattle.c_flow.specs.Names.{IsFirstOfName}
use Rattle.c_flow.proofs.visibility.name_classes.Given as goal

abbrev pub invariant-loop-i : goal.invariant-loop-i
invariant-loop-i l = record {
  count : length l.classes.items ≡ l.i;
  first : (x : ℕ) → x < l.i → IsFirstOfName (map automatic_view l.automatics) x (get_or l.classes.items x 0);
}
