use Rattle.std.proofs.Common.{◌≡◌, ◌+◌, length, map, min, take}
use Rattle.graph_core.specs.declared.block.Block as declared-block
use Rattle.graph_core.specs.Graphs.{instruction_view}
use Rattle.graph_core.specs.Paths.{Among}
use Rattle.currency_notes.specs.Numbers.{AreNotesRead, AreOrderly}
use Rattle.currency_notes.proofs.homes.Homes.new.Given as goal

abbrev pub invariant-loop-block : goal.invariant-loop-block
invariant-loop-block l = record {
  homes : l.made.homes.now ≡ l.homes;
  count : length l.made.numbers.items ≡ min (length l.homes + 32) 18446744073709551615;
  orderly : AreOrderly l.made;
  read : (b : declared-block.Block) → Among b (take l.block-index l.graph.blocks.items) → AreNotesRead l.made (map instruction_view b.instructions.items);
}
