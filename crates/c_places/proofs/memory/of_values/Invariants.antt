use Rattle.std.proofs.Common.{◌≡◌, drop}
use Rattle.std.specs.Prelude.{map}
use Rattle.c_tree.specs.TypedExpressions.{rvalue_view}
use Rattle.c_places.specs.Memory.{kept_values}
use Rattle.c_places.proofs.memory.of_values.Given as goal

abbrev pub invariant-loop-value : goal.invariant-loop-value
invariant-loop-value l = kept_values (map rvalue_view (drop l.value-index l.values)) l.kept.items ≡ kept_values (map rvalue_view l.values) l.fn.kept.items
