use Rattle.std.proofs.Common.{arith, map}
use Rattle.std.proofs.lemmas.List.{length-map}
use Rattle.graph_core.specs.declared.name.Name.{Name}
use Rattle.graph_core.specs.Graphs.{scalar_view}
use Rattle.graph_core.specs.Uses.{numbers}
use Rattle.copy_pass.specs.Points.{placed}
use Rattle.copy_pass.proofs.Operands.{operand_step, operands_done, operands_first}
use Rattle.copy_pass.proofs.names.add_names.Goals as goal

pub loop-operand-init : goal.loop-operand-init
loop-operand-init c = operands_first (map scalar_view c.args.scalars.now) (placed c.args.point.now.place) c.args.point.now.block c.args.point.now.index (numbers c.args.was.now) (numbers c.args.is.now) _

pub loop-operand-preserved : goal.loop-operand-preserved
loop-operand-preserved c =
    operand_step (map scalar_view c.args.scalars.now) (placed c.args.point.now.place) c.args.point.now.block c.args.point.now.index (numbers c.args.was.now) (numbers c.args.is.now) c.loop-operand.operand _ _ _
    c.loop-operand.invariant c.in_ok-add_operand.ensures

pub returns : goal.returns
returns c =
    operands_done (map scalar_view c.args.scalars.now) (placed c.args.point.now.place) c.args.point.now.block c.args.point.now.index (numbers c.args.was.now) (numbers c.args.is.now) c.loop-operand.operand _ _
    (let long = length-map c.args.was.now (λ (n : Name). n.0) in omega (arith, long)) c.loop-operand.invariant
