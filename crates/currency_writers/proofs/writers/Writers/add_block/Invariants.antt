use Rattle.std.proofs.Common.{◌≡◌, ◌∷◌, [], map, take}
use Rattle.graph_core.specs.Graphs.{instruction_view}
use Rattle.graph_core.specs.Validity.{place_behind}
use Rattle.currency_writers.specs.Writers.{AreInstructions, AreMore, AreNoLater, AreSound, HaveLists, IsIndexed, placed}
use Rattle.currency_writers.proofs.writers.Writers.add_block.Given as goal

abbrev pub invariant-loop-k : goal.invariant-loop-k
invariant-loop-k l = record {
  more : AreMore l.fn.self l.self;
  sound : AreSound l.self;
  lists : HaveLists l.self;
  indexed : IsIndexed l.self;
  next : AreNoLater l.self (1 ∷ l.number ∷ l.k ∷ []);
  place : placed l.place ≡ place_behind (take l.k (map instruction_view l.block.instructions.items)) (placed l.block.place);
  all : AreInstructions l.self l.number (map instruction_view l.block.instructions.items) (placed l.block.place) l.k;
}
