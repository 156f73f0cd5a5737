use Rattle.std.proofs.Common.{◌∙◌, ap, map}
use Rattle.graph_core.specs.Graphs.{block_view, graph_view}
use Rattle.rv_emit_sequence.specs.Sequences.{ground_of, plainly, sequence_view, with_standing, SequenceForm}
use Rattle.rv_emit_sequence.proofs.PlainBlocks.{plain_sequence}
use Rattle.rv_emit_sequence.proofs.plain.plain_sequence_of.Goals as goal

pub returns-clause-sequence : goal.returns-clause-sequence
returns-clause-sequence c =
    λ end. plain_sequence (ground_of c.args.storage.now) (graph_view c.args.graph.now) c.args.is_main (sequence_view c.push_blocks.new.sequence) (sequence_view c.push_end.new.self)
    (c.in_ok-push_blocks.ensures.grown ∙ ap (λ bs. with_standing (ground_of c.args.storage.now) (plainly 0 (map block_view bs)) (sequence_view c.in_ok-sequence.sequence)) c.deref.ensures.value
    ∙ ap (λ (s : SequenceForm). with_standing (ground_of c.args.storage.now) (plainly 0 (graph_view c.args.graph.now).blocks) s) c.in_ok-sequence.ensures.grown)
    c.in_ok-push_end.ensures.grown end
