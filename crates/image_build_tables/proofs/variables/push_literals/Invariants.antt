use Rattle.std.proofs.Common.{◌≡◌, ◌++◌, None, map, take}
use Rattle.c_tree.specs.Programs.{literal_view}
use Rattle.image_build_tables.specs.Variables.{literal_shape, owner, shape, storage}
use Rattle.image_build_tables.proofs.variables.push_literals.Given as goal

abbrev pub invariant-loop-number : goal.invariant-loop-number
invariant-loop-number l = record {
  storages : map storage l.variables.items ≡ map storage l.initial.variables.items ++ take l.number l.storages;
  owners : map owner l.variables.items ≡ map owner l.initial.variables.items ++ map (λ v. None) (map literal_view (take l.number l.literals));
  shapes : map shape l.variables.items ≡ map shape l.initial.variables.items ++ map literal_shape (map literal_view (take l.number l.literals));
}
