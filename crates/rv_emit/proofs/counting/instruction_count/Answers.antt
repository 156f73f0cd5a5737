use Rattle.std.proofs.Common.{length, rules, tests}
use Rattle.std.proofs.lemmas.Iterator.{YieldsList-from_slice}
use Rattle.std.proofs.lemmas.List.{length-map}
use Rattle.graph_core.specs.Graphs.{Block, block_view}
use Rattle.graph_core.proofs.Lists.{adds_up}
use Rattle.rv_emit.proofs.counting.instruction_count.Goals as goal

pub returns : goal.returns
returns c = adds_up (λ (b : Block). length b.instructions) block_view _ _ c.fold.ensures.ran (YieldsList-from_slice c.args.blocks.now cc) (λ a x b q k. search (rules, tests, length-map))
