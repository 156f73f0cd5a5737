use Rattle.std.proofs.Common.{◌≡◌, length, arith}
use Rattle.std.proofs.lemmas.List.{length-map}
use Rattle.graph_core.specs.Graphs.{block_view, graph_view}
use Rattle.rv_emit_sequence.specs.Sequences.{counted}
use Rattle.rv_emit_layout.specs.Laid.{laid_view, static_view}
use Rattle.rv_emit_layout.proofs.Appended.{laid_sequence}
use Rattle.rv_emit_layout.proofs.laying.lay_out.Goals as goal

pub returns-clause-drawn : goal.returns-clause-drawn
returns-clause-drawn c =
    let end : c.count.result ≡ counted (length (graph_view c.args.graph.now).blocks) = omega (arith, c.count.ensures, c.len.ensures, c.args.graph.now.blocks.ok.0, length-map c.args.graph.now.blocks.items block_view) in
    record {
      saved = c.in_ok-frame.ensures.saved;
      slots = c.in_ok-frame.ensures.slots;
      objects = c.in_ok-frame.ensures.objects;
      size = c.in_ok-frame.ensures.size;
      sequence = laid_sequence (static_view c.args.statics.now) (graph_view c.args.graph.now) c.args.homes.now c.args.is_main (laid_view (record { frame = c.in_ok-frame.frame; sequence = c.in_ok-sequence.sequence; layout = c.in_ok-layout.layout })) c.count.result end c.in_ok-sequence.ensures.sequence;
    }
