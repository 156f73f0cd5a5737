use Rattle.std.proofs.Common.{map}
use Rattle.graph_core.specs.Graphs.{scalar_view}
use Rattle.graph_core.specs.Uses.{numbers}
use Rattle.pass_law.specs.Changes.{Adds, Below}
use Rattle.copy_pass.specs.Points.{IsReplacedAt, placed}
use Rattle.copy_pass.proofs.Operands.{operand_of}
use Rattle.copy_pass.proofs.names.add_names.Given as goal

abbrev pub invariant-loop-operand : goal.invariant-loop-operand
invariant-loop-operand l =
    Adds (Below (IsReplacedAt (map scalar_view l.scalars) (placed l.point.place) l.point.block l.point.index (numbers l.was) (numbers l.is)) operand_of l.operand) l.fn.cases.items l.cases.items
