use Rattle.std.proofs.Common.{◌≡◌, ◌<◌, ◌+◌, ◌^◌, drop}
use Rattle.std.specs.Prelude.{map}
use Rattle.c_tree.specs.Programs.{automatic_view}
use Rattle.c_tree.specs.TypedStatements.{declared_view}
use Rattle.c_type_bounds.specs.Counts.{capped}
use Rattle.c_type_bounds.specs.Visible.{at_declared, behind_all, names_view}
use Rattle.c_type_bounds.proofs.visible.at_declared.Given as goal

abbrev pub invariant-loop-one : goal.invariant-loop-one
invariant-loop-one l = record {
  fits : l.total < 2 ^ 64;
  count : capped (l.total + at_declared (map automatic_view l.automatics) (map declared_view (drop l.one-index l.all)) (names_view l.names.items))
      ≡ capped (at_declared (map automatic_view l.automatics) (map declared_view l.all) (names_view l.fn.names.items));
  names : behind_all (map automatic_view l.automatics) (map declared_view (drop l.one-index l.all)) (names_view l.names.items)
      ≡ behind_all (map automatic_view l.automatics) (map declared_view l.all) (names_view l.fn.names.items);
}
