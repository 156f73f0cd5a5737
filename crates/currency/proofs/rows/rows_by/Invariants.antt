use Rattle.std.proofs.Common.{◌≡◌, ◌+◌, ◌++◌, length, map, drop}
use Rattle.currency.specs.Telling.{AreRowsTold}
use Rattle.currency.specs.Visible.{sight, sights_from}
use Rattle.currency.proofs.rows.rows_by.Given as goal

abbrev pub invariant-loop-row : goal.invariant-loop-row
invariant-loop-row l = record {
  place : l.place ≡ l.row-index + 1;
  sights : map sight l.rows.items ++ sights_from l.place (drop l.row-index l.places.rows.items) ≡ sights_from 1 l.places.rows.items;
  told : AreRowsTold l.places l.told l.rows.items;
  slots : length l.slots ≡ length l.fn.slots;
}
