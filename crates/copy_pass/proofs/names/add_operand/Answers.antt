use Rattle.std.proofs.Common.{map}
use Rattle.graph_core.specs.Graphs.{scalar_view}
use Rattle.graph_core.specs.Uses.{numbers}
use Rattle.copy_pass.specs.Points.{placed}
use Rattle.copy_pass.proofs.Operands.{no_name}
use Rattle.copy_pass.proofs.names.add_operand.Goals as goal

pub returns-in_default : goal.returns-in_default
returns-in_default c =
    no_name (map scalar_view c.args.scalars.now) (placed c.args.point.now.place) c.args.point.now.block c.args.point.now.index (numbers c.args.was.now) (numbers c.args.is.now) c.args.operand _ c.in_default.ensures
