use Rattle.std.proofs.Common.{rules, tests}
use Rattle.std.proofs.lemmas.Iterator.{YieldsList-from_slice}
use Rattle.graph_core.specs.Graphs.{graph_view, operand_view, unit_view}
use Rattle.graph_core.specs.Validity.{IsOperand}
use Rattle.graph_core.proofs.Lists.{all_passes}
use Rattle.graph_core.proofs.validity.are_operands.Goals as goal

pub returns : goal.returns
returns c = all_passes (IsOperand (unit_view c.args.unit.now).statics (graph_view c.args.graph.now)) operand_view _ _ _ c.all.ensures.ran (YieldsList-from_slice c.args.operands.now cc) (λ x b q k. search (rules, tests))
