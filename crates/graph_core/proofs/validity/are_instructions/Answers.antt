use Rattle.std.proofs.Common.{rules, tests}
use Rattle.std.proofs.lemmas.Iterator.{YieldsList-from_slice}
use Rattle.graph_core.specs.Graphs.{graph_view, instruction_view, unit_view}
use Rattle.graph_core.specs.Validity.{IsInstruction}
use Rattle.graph_core.proofs.Lists.{all_passes}
use Rattle.graph_core.proofs.validity.are_instructions.Goals as goal

pub returns : goal.returns
returns c = all_passes (IsInstruction (unit_view c.args.unit.now) (graph_view c.args.graph.now)) instruction_view _ _ _ c.all.ensures.ran (YieldsList-from_slice c.args.instructions.now cc) (λ x b q k. search (rules, tests))
