use Rattle.std.proofs.Common.{◌≡◌, ◌≤◌, length, take}
use Rattle.std.specs.Prelude.{map}
use Rattle.c_type_expressions.specs.Names.{found_in, scope_view}
use Rattle.c_type_expressions.proofs.names.meaning_in.Given as goal

abbrev pub invariant-loop-left : goal.invariant-loop-left
invariant-loop-left l = record {
  within : l.left ≤ length l.scopes;
  none_yet : found_in (map scope_view l.scopes) l.name ≡ found_in (map scope_view (take l.left l.scopes)) l.name;
}

abbrev pub decreases-loop-left : goal.decreases-loop-left
decreases-loop-left l = l.left
