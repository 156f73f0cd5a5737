use Rattle.std.proofs.Common.{◌≡◌, ◌++◌, map, take}
use Rattle.currency.specs.Telling.{AreTold}
use Rattle.currency.specs.Visible.{sight, sights_at}
use Rattle.currency.proofs.rows.push_place.Given as goal

abbrev pub invariant-loop-var : goal.invariant-loop-var
invariant-loop-var l = record {
  sights : map sight l.rows.items ≡ map sight l.fn.rows.items ++ sights_at l.place (take l.var-index l.visible);
  told : AreTold l.told l.place l.visible l.fn.rows.items l.rows.items;
}
