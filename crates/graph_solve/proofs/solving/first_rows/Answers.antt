use Rattle.std.proofs.Common.{◌≡◌, ◌+◌, ◌*◌, length, ap, ◌∙◌, arith}
use Rattle.graph_solve.specs.First.{first_bit}
use Rattle.graph_solve.specs.Rows.{table}
use Rattle.graph_solve.proofs.solving.first_rows.Goals as goal

pub returns : goal.returns
returns g c =
    let flow = g.P.Problem.flow c.args.problem.now in
    let ends = c.args.graph.now.ends.items in
    let n = length ends in
    let edge = c.in_ok-edge.edge in
    let twice : 2 * c.args.blocks ≡ n + n = omega (arith, c.requires.blocks) in
    c.in_ok-rows.ensures ∙ ap (λ m. table m c.width.result (first_bit ends c.forward.result c.unites.result edge)) twice
    ∙ ap (λ w. table (n + n) w (first_bit ends c.forward.result c.unites.result edge)) c.width.ensures
    ∙ ap (λ f. table (n + n) flow.width (first_bit ends f c.unites.result edge)) c.forward.ensures
    ∙ ap (λ u. table (n + n) flow.width (first_bit ends flow.forward u edge)) c.unites.ensures
    ∙ ap (λ e. table (n + n) flow.width (first_bit ends flow.forward flow.unites e)) c.in_ok-edge.ensures
