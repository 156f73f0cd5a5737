use Rattle.std.proofs.Common.{◌≡◌, drop}
use Rattle.std.specs.Prelude.{map}
use Rattle.c_tree.specs.TypedStatements.{declared_view}
use Rattle.c_places.specs.Memory.{kept_declared}
use Rattle.c_places.proofs.memory.of_declared.Given as goal

abbrev pub invariant-loop-one : goal.invariant-loop-one
invariant-loop-one l = kept_declared (map declared_view (drop l.one-index l.declared)) l.kept.items ≡ kept_declared (map declared_view l.declared) l.fn.kept.items
