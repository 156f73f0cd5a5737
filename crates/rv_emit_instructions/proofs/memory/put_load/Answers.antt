use Rattle.std.proofs.Common.{◌≡◌, subst}
use Rattle.std.proofs.lemmas.Result.{on_ok_weaker}
use Rattle.graph_core.specs.Graphs.{location_view}
use Rattle.rv_emit_storage.specs.Storages.{storage_view}
use Rattle.rv_emit_words.specs.Growing.{code_state, with_code}
use Rattle.rv_emit_instructions.specs.Memory.{loading, reach_of}
use Rattle.rv_emit_instructions.proofs.EmitInstructionsInParts.{load_in_parts}
use Rattle.rv_emit_instructions.proofs.memory.put_load.Goals as goal

pub returns-clause-grown : goal.returns-clause-grown
returns-clause-grown c =
    let g = storage_view c.args.storage.now in
    let r = reach_of g c.args.code.now.held.items (location_view c.args.from) in
    on_ok_weaker c.finish.result
    (λ last. subst (λ t. code_state c.finish.new.self ≡ with_code (loading g t c.args.element r) (code_state c.args.code.now)) c.home-target.ensures
    (load_in_parts g c.home-target.result c.args.element r (code_state c.args.code.now) (code_state c.reach.new.code) (code_state c.put.new.self) (code_state c.finish.new.self)
    c.load_operation.result c.result_register-rd.result c.in_ok-reached.reached.base c.in_ok-reached.reached.offset
    c.load_operation.ensures c.result_register-rd.ensures c.in_ok-reached.ensures.base c.in_ok-reached.ensures.offset c.in_ok-reached.ensures.grown c.in_ok-put.ensures.grown last))
    c.finish.ensures.grown
