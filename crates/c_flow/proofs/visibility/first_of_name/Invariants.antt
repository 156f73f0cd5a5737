use Rattle.std.proofs.Common.{◌≡◌, ℕ, ◌<◌, false, map}
use Rattle.c_tree.specs.Programs.{automatic_view}
use Rattle.c_places.specs.Places.{is_same_name, name_of}
use Rattle.c_flow.proofs.visibility.first_of_name.Given as goal

abbrev pub invariant-loop-i : goal.invariant-loop-i
invariant-loop-i l = (j : ℕ) → j < l.i → is_same_name (name_of (map automatic_view l.automatics) j) (name_of (map automatic_view l.automatics) l.variable) ≡ false
