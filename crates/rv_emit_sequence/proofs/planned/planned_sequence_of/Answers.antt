use Rattle.std.proofs.Common.{◌≡◌, length, sym, true, rules}
use Rattle.graph_core.specs.Graphs.{block_view, graph_view}
use Rattle.std.proofs.lemmas.List.{length-map}
use Rattle.rv_emit_sequence.specs.Sequences.{ground_of, sequence_view}
use Rattle.rv_emit_sequence.proofs.PlannedBlocks.{planned_sequence}
use Rattle.rv_emit_sequence.proofs.planned.planned_sequence_of.Goals as goal

pub returns : goal.returns
returns c =
    let put : c.in_ok-push_all_planned.field-0 ≡ true = search rules in
    record {
      sequence = λ order well end. planned_sequence (ground_of c.args.storage.now) (graph_view c.args.graph.now) c.args.is_main c.args.plan.now (length c.args.graph.now.blocks.items) (sequence_view c.in_ok-sequence.sequence) (sequence_view c.push_all_planned.new.sequence)
          (sequence_view c.push_end.new.self) (sym (length-map c.args.graph.now.blocks.items block_view)) order well c.in_ok-sequence.ensures.grown (c.in_ok-push_all_planned.ensures put well) c.in_ok-push_end.ensures.grown end;
    }
