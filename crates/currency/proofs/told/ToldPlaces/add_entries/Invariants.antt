use Rattle.std.proofs.Common.{◌≡◌, length}
use Rattle.currency_hiding.specs.Found.{TellsFor}
use Rattle.currency.specs.Evident.{AreNew, IsHidingOn}
use Rattle.currency.proofs.Entries.{AreToldSoFar}
use Rattle.currency.proofs.told.ToldPlaces.add_entries.Given as goal

abbrev pub invariant-loop-one : goal.invariant-loop-one
invariant-loop-one l = record {
  told : AreToldSoFar l.fn.self l.self l.var l.unshown l.one-index;
  hiding : AreNew (IsHidingOn (λ p c. TellsFor l.teller l.function p c) l.var) l.fn.self l.self;
  count : length l.self.by_place.items ≡ length l.fn.self.by_place.items;
}
