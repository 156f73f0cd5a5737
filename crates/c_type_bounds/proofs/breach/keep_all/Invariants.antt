use Rattle.std.proofs.Common.{◌≡◌, drop}
use Rattle.std.specs.Prelude.{map}
use Rattle.c_tree.specs.Programs.{automatic_view}
use Rattle.c_type_bounds.specs.Bounds.{with_all_in_memory}
use Rattle.c_type_bounds.proofs.breach.keep_all.Given as goal

abbrev pub invariant-loop-number : goal.invariant-loop-number
invariant-loop-number l = with_all_in_memory (drop l.number-index l.numbers) (map automatic_view l.automatics) ≡ with_all_in_memory l.numbers (map automatic_view l.fn.automatics)
