use Rattle.std.proofs.Common.{◌≡◌, ◌++◌, map, drop}
use Rattle.graph_core.specs.Graphs.{operand_view}
use Rattle.graph_core.specs.Uses.{names_of_all, numbers}
use Rattle.graph_core.proofs.uses.push_all.Given as goal

abbrev pub invariant-loop-operand : goal.invariant-loop-operand
invariant-loop-operand l =
    numbers l.names.items ++ names_of_all (map operand_view (drop l.operand-index l.operands)) ≡ numbers l.fn.names.items ++ names_of_all (map operand_view l.operands)
