use Rattle.std.proofs.Common.{◌≡◌, take}
use Rattle.currency_shown.specs.Found.{AreOnlyOf, AreVisibleTold, IsAdded, IsSeen}
use Rattle.currency_shown.proofs.found.Found.add_all.Given as goal

abbrev pub invariant-loop-var : goal.invariant-loop-var
invariant-loop-var l = record {
  met : l.self.met.items ≡ l.fn.self.met.items;
  added : IsAdded l.function.homes l.state l.place.0 l.fn.self.unshown.items l.self.unshown.items;
  told : AreVisibleTold l.function.homes l.state l.numbering l.place.0 l.self.unshown.items (take l.var-index l.visible);
  only : AreOnlyOf (IsSeen l.numbering l.visible) l.fn.self.unshown.items l.self.unshown.items;
}
