use Rattle.std.proofs.Common.{◌∷◌, []}
use Rattle.currency_writers.specs.Writers.{AreBindings, AreMore, AreNoLater, AreSound, HaveLists, IsIndexed}
use Rattle.currency_writers.proofs.writers.Writers.add_bindings.Given as goal

abbrev pub invariant-loop-k : goal.invariant-loop-k
invariant-loop-k l = record {
  more : AreMore l.fn.self l.self;
  sound : AreSound l.self;
  lists : HaveLists l.self;
  indexed : IsIndexed l.self;
  next : AreNoLater l.self (0 ∷ l.k ∷ []);
  all : AreBindings l.self l.k;
}
