use Rattle.std.proofs.Common.{◌∷◌, sym, ap, ◌∙◌}
use Rattle.graph_core.specs.Graphs.{graph_view, instruction_view}
use Rattle.dead_pass_notes.specs.Spots.{left_at}
use Rattle.dead_pass_notes.proofs.Reading.{first_is}
use Rattle.dead_pass_notes.proofs.recipes.copied.Goals as goal

pub returns-in-Move-clause-some : goal.returns-in-Move-clause-some
returns-in-Move-clause-some c = λ point.
    (let g = graph_view c.args.graph.now in
    let n = c.args.at.block in
    let left = c.args.at.left in
    let first = first_is g n left point c.instructions_from.result.now c.instructions_from.ensures c.instruction-item.result c.in-len1-up.len_at_least c.instruction-item.is in
    (_, first ∙ ap (λ i. instruction_view i ∷ left_at g n left) c.in-Move.is))
