use Rattle.std.proofs.Common.{◌≡◌, ℕ, ◌<◌, false, length, map, drop, get_or, reverse}
use Rattle.std.specs.Prelude.{◌==◌}
use Rattle.std.specs.List.{list_any}
use Rattle.c_tree.specs.Programs.{automatic_view}
use Rattle.c_places.specs.Places.{visible}
use Rattle.c_flow.specs.Names.{class_of}
use Rattle.c_flow.proofs.visibility.visible_by_class.Given as goal

abbrev pub invariant-loop-i : goal.invariant-loop-i
invariant-loop-i l = record {
  count : length l.seen.items ≡ length l.classes;
  found : reverse l.found.items ≡ visible (map automatic_view l.automatics) (drop l.i l.scope);
  seen : (k : ℕ) → k < length l.classes → get_or l.seen.items k false ≡ list_any (λ (y : ℕ). class_of (length (map automatic_view l.automatics)) l.classes y == k) (drop l.i l.scope);
}
