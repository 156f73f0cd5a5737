use Rattle.std.proofs.Common.{◌∷◌, ap, ◌∙◌}
use Rattle.graph_core.specs.Graphs.{instruction_view, operand_view}
use Rattle.dead_pass_notes.specs.Spots.{left_at}
use Rattle.dead_pass_notes.specs.Idle.{graph_of}
use Rattle.dead_pass_notes.proofs.Found.{made_operated, made_truncated}
use Rattle.dead_pass_notes.proofs.Reading.{first_is}
use Rattle.dead_pass_notes.proofs.Unmade.{none_made}
use Rattle.dead_pass_notes.proofs.recipes.computed_at.Goals as goal

pub returns-in_ok-from-in-Truncate-clause-same : goal.returns-in_ok-from-in-Truncate-clause-same
returns-in_ok-from-in-Truncate-clause-same c = λ borne source r.
    (let g = graph_of c.args.idle.now in
    let d = c.args.made in
    let first = first_is g d.block d.left source.0 c.instructions_from.result.now c.instructions_from.ensures c.instruction-item.result c.in-len1-up.len_at_least c.instruction-item.is in
    made_truncated g c.args.note d c.in-Truncate.target.0 c.in-Truncate.truncation (operand_view c.in-Truncate.from) c.in_ok-from-in-Truncate.from
    (first ∙ ap (λ i. instruction_view i ∷ left_at g d.block d.left) c.in-Truncate.is) (c.in_ok-from-in-Truncate.ensures.same borne) r)

pub returns-in_ok-right-in-Operate-clause-same : goal.returns-in_ok-right-in-Operate-clause-same
returns-in_ok-right-in-Operate-clause-same c = λ borne source r.
    (let g = graph_of c.args.idle.now in
    let d = c.args.made in
    let first = first_is g d.block d.left source.0 c.instructions_from.result.now c.instructions_from.ensures c.instruction-item.result c.in-len1-up.len_at_least c.instruction-item.is in
    made_operated g c.args.note d c.in-Operate.target.0 c.in-Operate.operation (operand_view c.in-Operate.left) (operand_view c.in-Operate.right) c.in_ok-left-in-Operate.left c.in_ok-right-in-Operate.right
    (first ∙ ap (λ i. instruction_view i ∷ left_at g d.block d.left) c.in-Operate.is) (c.in_ok-left-in-Operate.ensures.same borne) (c.in_ok-right-in-Operate.ensures.same borne) r)

pub returns-in_default-instruction : goal.returns-in_default-instruction
returns-in_default-instruction c = record {
  sources = λ borne source. tt;
  same = λ borne source r.
      (let g = graph_of c.args.idle.now in
      let d = c.args.made in
      let first = first_is g d.block d.left source.0 c.instructions_from.result.now c.instructions_from.ensures c.instruction-item.result c.in-len1-up.len_at_least c.instruction-item.is in
      (none_made c.instruction-item.result c.in_default-instruction.not-Truncate c.in_default-instruction.not-Operate g c.args.note d first source.1 r, λ none. absurd none));
}
