use Rattle.std.proofs.Common.{◌≡◌}
use Rattle.graph_core.specs.Graphs.{end_view, instruction_view}
use Rattle.graph_solve_live.specs.Inside.{walked}
use Rattle.graph_solve_live.proofs.Walking.{rest_from}
use Rattle.graph_solve_live.proofs.inside.walk_forward.Given as goal

abbrev pub invariant-loop-passed : goal.invariant-loop-passed
invariant-loop-passed g l = let rest = rest_from instruction_view l.width (g.E.Effects.effect l.effects l.number) (g.E.Effects.at_end l.effects l.number) l.block.instructions.items (end_view l.block.end) in
    walked l.width (rest l.passed) l.facts ≡ walked l.width (rest 0) l.fn.facts
