use Rattle.std.proofs.Common.{◌≡◌, ◌++◌, None, map, take}
use Rattle.c_tree.specs.Programs.{static_view}
use Rattle.image_build_tables.specs.Variables.{owner, static_shape, shape, storage}
use Rattle.image_build_tables.proofs.variables.push_statics.Given as goal

abbrev pub invariant-loop-number : goal.invariant-loop-number
invariant-loop-number l = record {
  storages : map storage l.variables.items ≡ map storage l.initial.variables.items ++ take l.number l.storages;
  owners : map owner l.variables.items ≡ map owner l.initial.variables.items ++ map (λ v. None) (map static_view (take l.number l.statics));
  shapes : map shape l.variables.items ≡ map shape l.initial.variables.items ++ map static_shape (map static_view (take l.number l.statics));
}
