use Rattle.std.proofs.lemmas.Result.{on_ok_weaker}
use Rattle.graph_core.specs.Graphs.{location_view, operand_view}
use Rattle.rv_emit_storage.specs.Storages.{source_of, storage_view}
use Rattle.rv_emit_words.specs.Growing.{code_state}
use Rattle.rv_emit_instructions.proofs.EmitInstructionsInParts.{store_in_parts}
use Rattle.rv_emit_instructions.proofs.memory.put_store.Goals as goal

pub returns-clause-grown : goal.returns-clause-grown
returns-clause-grown c =
    let g = storage_view c.args.storage.now in
    on_ok_weaker c.put.result
    (λ last. store_in_parts g c.args.code.now.held.items c.fetch.new.self.held.items c.args.element (location_view c.args.to) (source_of g (operand_view c.args.value))
    (code_state c.args.code.now) (code_state c.fetch.new.self) (code_state c.reach.new.code) (code_state c.put.new.self) c.store_operation.result c.in_ok-value.value c.in_ok-reached.reached.base c.in_ok-reached.reached.offset
    c.in_ok-value.ensures.kept c.store_operation.ensures c.in_ok-value.ensures.found c.in_ok-reached.ensures.base c.in_ok-reached.ensures.offset c.in_ok-value.ensures.grown c.in_ok-reached.ensures.grown last)
    c.put.ensures.grown
