use Rattle.std.proofs.Common.{map, take}
use Rattle.graph_core.specs.Graphs.{instruction_view}
use Rattle.currency_notes.specs.Numbers.{AreNotesRead, AreOrderly, IsMore}
use Rattle.currency_notes.proofs.homes.Homes.add_block.Given as goal

abbrev pub invariant-loop-instruction : goal.invariant-loop-instruction
invariant-loop-instruction l = record {
  more : IsMore l.fn.self l.self;
  read : AreOrderly l.fn.self → AreNotesRead l.self (map instruction_view (take l.instruction-index l.block.instructions.items));
}
