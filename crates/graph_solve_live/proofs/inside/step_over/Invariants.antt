use Rattle.std.proofs.Common.{◌≡◌}
use Rattle.graph_core.specs.Graphs.{instruction_view}
use Rattle.graph_solve_live.specs.Inside.{moved}
use Rattle.graph_solve_live.proofs.inside.step_over.Given as goal

abbrev pub invariant-loop-fact : goal.invariant-loop-fact
invariant-loop-fact g l = l.facts ≡ moved l.fact (g.E.Effects.effect l.effects l.block l.left (instruction_view l.instruction)) l.fn.facts
