use Rattle.std.proofs.Common.{◌≡◌, ◌++◌, map, take}
use Rattle.c_tree.specs.Programs.{automatic_view}
use Rattle.image_build_tables.specs.Variables.{automatic_shape, owner, shape, storage}
use Rattle.image_build_tables.proofs.variables.push_automatics.Given as goal

abbrev pub invariant-loop-number : goal.invariant-loop-number
invariant-loop-number l = record {
  storages : map storage l.variables.items ≡ map storage l.initial.variables.items ++ take l.number l.storages;
  owners : map owner l.variables.items ≡ map owner l.initial.variables.items ++ take l.number l.owners;
  shapes : map shape l.variables.items ≡ map shape l.initial.variables.items ++ map automatic_shape (map automatic_view (take l.number l.automatics));
}
