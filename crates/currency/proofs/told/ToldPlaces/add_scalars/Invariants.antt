use Rattle.std.proofs.Common.{◌≡◌, length}
use Rattle.currency_hiding.specs.Found.{IsSameFunction, IsSameTeller}
use Rattle.currency.specs.Evident.{AreNew, IsHidingScalar}
use Rattle.currency.proofs.Entries.{AreScalarsTold}
use Rattle.currency.proofs.told.ToldPlaces.add_scalars.Given as goal

abbrev pub invariant-loop-x : goal.invariant-loop-x
invariant-loop-x l = record {
  told : AreScalarsTold l.fn.self l.self l.scalars l.unshown l.x;
  teller : IsSameTeller l.fn.teller l.teller;
  function : IsSameFunction l.fn.function l.function;
  hiding : AreNew (IsHidingScalar l.fn.teller l.fn.function.writers l.scalars) l.fn.self l.self;
  count : length l.self.by_place.items ≡ length l.fn.self.by_place.items;
}
