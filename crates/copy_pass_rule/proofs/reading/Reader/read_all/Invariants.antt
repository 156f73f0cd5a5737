use Rattle.std.proofs.Common.{◌≡◌, ◌++◌, drop, map}
use Rattle.graph_core.specs.Graphs.{operand_view}
use Rattle.copy_pass_rule.specs.Copying.{reading_all}
use Rattle.copy_pass_rule.specs.Reader.{read_as}
use Rattle.copy_pass_rule.proofs.reading.Reader.read_all.Given as goal

abbrev pub invariant-loop-operand : goal.invariant-loop-operand
invariant-loop-operand l = map operand_view l.all.items ++ reading_all (read_as l.self) (map operand_view (drop l.operand-index l.operands)) ≡ reading_all (read_as l.self) (map operand_view l.operands)
