use Rattle.std.proofs.Common.{rules, ◌≡◌, ◌-◌, ◌<◌, length, ap, ◌∙◌, arith, reverse}
use Rattle.graph_core.specs.Graphs.{end_view, instruction_view}
use Rattle.graph_solve_live.specs.Inside.{moved, walked}
use Rattle.graph_solve_live.proofs.Walking.{rest_from, backward_more}
use Rattle.graph_solve_live.proofs.inside.walk_backward.Goals as goal

pub loop-left-preserved : goal.loop-left-preserved
loop-left-preserved g c =
    let effect = g.E.Effects.effect c.args.effects.now c.args.number in
    let at_end = g.E.Effects.at_end c.args.effects.now c.args.number in
    let items = c.args.block.now.instructions.items in
    let end = end_view c.args.block.now.end in
    let width = c.args.width in
    let left = c.loop-left.left in
    let at = c.len-count.result - 1 - left in
    let size : c.len-count.result ≡ length items = search rules in
    let less : left < length items = omega (arith, size, c.loop-left-test.true) in
    let which : at ≡ length items - 1 - left = omega (arith, size) in
    c.in_ok-step_over.ensures
    ∙ ap (λ facts. moved width (effect left (instruction_view c.index.result.now)) facts) c.loop-left.invariant
    ∙ ap (λ i. moved width (effect left (instruction_view i)) (walked width (reverse (rest_from instruction_view width effect at_end items end (length items - left))) c.args.facts.now)) c.index.ensures
    ∙ backward_more instruction_view width effect at_end items end left at c.index.result.now c.args.facts.now less which
