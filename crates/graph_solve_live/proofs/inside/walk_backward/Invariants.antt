use Rattle.std.proofs.Common.{◌≡◌, ◌-◌, length, reverse}
use Rattle.graph_core.specs.Graphs.{end_view, instruction_view}
use Rattle.graph_solve_live.specs.Inside.{walked}
use Rattle.graph_solve_live.proofs.Walking.{rest_from}
use Rattle.graph_solve_live.proofs.inside.walk_backward.Given as goal

abbrev pub invariant-loop-left : goal.invariant-loop-left
invariant-loop-left g l = let rest = rest_from instruction_view l.width (g.E.Effects.effect l.effects l.number) (g.E.Effects.at_end l.effects l.number) l.block.instructions.items (end_view l.block.end) in
    l.facts ≡ walked l.width (reverse (rest (length l.block.instructions.items - l.left))) l.fn.facts
