use Rattle.std.proofs.Common.{◌≡◌}
use Rattle.graph_core.specs.Graphs.{end_view}
use Rattle.graph_solve_live.specs.Inside.{moved}
use Rattle.graph_solve_live.proofs.inside.step_over_end.Given as goal

abbrev pub invariant-loop-fact : goal.invariant-loop-fact
invariant-loop-fact g l = l.facts ≡ moved l.fact (g.E.Effects.at_end l.effects l.block (end_view l.end)) l.fn.facts
