use Rattle.std.proofs.Common.{◌≡◌, map, take}
use Rattle.graph_core.specs.Graphs.{instruction_view}
use Rattle.graph_core.specs.Validity.{place_behind}
use Rattle.currency_writers.specs.Writers.{placed}
use Rattle.currency_writers.specs.Copies.{AreCopied}
use Rattle.currency_writers.proofs.copies.Copies.add_block.Given as goal

abbrev pub invariant-loop-instruction : goal.invariant-loop-instruction
invariant-loop-instruction l = record {
  place : placed l.place ≡ place_behind (take l.instruction-index (map instruction_view l.block.instructions.items)) (placed l.block.place);
  copied : AreCopied l.fn.self l.self (placed l.block.place) (take l.instruction-index (map instruction_view l.block.instructions.items));
}
