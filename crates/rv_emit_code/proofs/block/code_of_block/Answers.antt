use Rattle.std.proofs.Common.{◌∙◌, [], ap, map}
use Rattle.graph_core.specs.Graphs.{instruction_view}
use Rattle.rv_emit_code.specs.Stops.{shown_after}
use Rattle.rv_emit_code.proofs.Stops.{block_stops}
use Rattle.rv_emit_code.proofs.block.code_of_block.Goals as goal

pub returns-clause-stops : goal.returns-clause-stops
returns-clause-stops c =
    block_stops c.put_end.new.code c.args.storage.now.entry.0 (map instruction_view c.args.block.now.instructions.items) c.in_ok-put_end.ensures.begun
    (c.in_ok-put_end.ensures.stops ∙ c.in_ok-put_instructions.ensures.stops ∙ ap (λ l. shown_after c.args.storage.now.entry.0 (map instruction_view c.deref.result.now) l) c.in_ok-code.ensures.stops
    ∙ ap (λ xs. shown_after c.args.storage.now.entry.0 (map instruction_view xs) []) c.deref.ensures.value)
