use Rattle.std.proofs.Common.{◌∷◌, []}
use Rattle.currency_writers.specs.Writers.{AreBlocks, AreMore, AreNoLater, AreSound, HaveLists, IsIndexed}
use Rattle.currency_writers.proofs.writers.Writers.add_blocks.Given as goal

abbrev pub invariant-loop-n : goal.invariant-loop-n
invariant-loop-n l = record {
  more : AreMore l.fn.self l.self;
  sound : AreSound l.self;
  lists : HaveLists l.self;
  indexed : IsIndexed l.self;
  next : AreNoLater l.self (1 ∷ l.n ∷ 0 ∷ []);
  all : AreBlocks l.self l.n;
}
