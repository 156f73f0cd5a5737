use Rattle.std.proofs.Common.{◌≡◌, ◌+◌, ◌++◌, map, drop}
use Rattle.currency.specs.Visible.{sight, sights_from}
use Rattle.image_build.specs.Shown.{AreShown}
use Rattle.image_build.proofs.shown.slot_verdicts.Given as goal

abbrev pub invariant-loop-row : goal.invariant-loop-row
invariant-loop-row l = record {
  visible : map sight l.rows.items ++ sights_from l.place (drop l.row-index l.places.rows.items) ≡ sights_from 1 l.places.rows.items;
  shown : AreShown l.rows.items;
}
