use Rattle.std.proofs.Common.{◌≡◌, ◌++◌, map, take}
use Rattle.currency.specs.Visible.{sight, sights_at}
use Rattle.image_build.specs.Shown.{AreShown}
use Rattle.image_build.proofs.shown.push_place.Given as goal

abbrev pub invariant-loop-var : goal.invariant-loop-var
invariant-loop-var l = record {
  visible : map sight l.rows.items ≡ map sight l.fn.rows.items ++ sights_at l.place (take l.var-index l.visible);
  shown : AreShown l.fn.rows.items → AreShown l.rows.items;
}
