use Rattle.std.proofs.Common.{◌≡◌, ◌∙◌, ap}
use Rattle.std.proofs.lemmas.Result.{on_ok_weaker}
use Rattle.graph_core.specs.Graphs.{graph_view}
use Rattle.rv_emit_storage.specs.Storages.{storage_view}
use Rattle.rv_emit_words.specs.Growing.{code_state, with_code}
use Rattle.rv_emit_code.specs.Beginning.{base_code, saving_code}
use Rattle.rv_emit_code.proofs.Growing.{beginning_in_parts, base_set, base_not_set}
use Rattle.rv_emit_code.proofs.function.put_beginning.Goals as goal
use Rattle.rv_emit_code.proofs.function.put_beginning.Goals.{then-is_main+in_ok-load_constant, else-is_main}

pub returns-clause-grown : goal.returns-clause-grown
returns-clause-grown c =
    let base : code_state c.if-is_main.code ≡ with_code (base_code c.args.is_main c.args.storage.now.base) (code_state c.save.new.code) =
    elim c.if-is_main.branch [
      | then-is_main+in_ok-load_constant w ↦ ap code_state w.code-is ∙ base_set c.args.storage.now.base (code_state c.save.new.code) (code_state w.load_constant.new.self) w.in_ok-load_constant.ensures.grown c.args.is_main w.if-is_main.true
      | else-is_main w ↦ ap code_state w.code-is ∙ base_not_set c.args.storage.now.base (code_state c.save.new.code) c.args.is_main w.if-is_main.false
    ] in
    on_ok_weaker c.bind_all.result
    (λ last. beginning_in_parts (storage_view c.args.storage.now) (graph_view c.args.graph.now) c.args.storage.now.frame.now.saved.items c.args.storage.now.frame.now.size c.args.is_main c.words_of_move.result (code_state c.args.code.now)
    (code_state c.put_guard.new.code) (code_state c.move_sp.new.code) (code_state c.put.new.self) (code_state c.save.new.code) (code_state c.if-is_main.code) (code_state c.bind_all.new.code)
    c.words_of_move.ensures.words c.in_ok-put_guard.ensures.grown c.in_ok-move_sp.ensures.grown c.in_ok-put.ensures.grown
    (c.in_ok-save.ensures.grown ∙ ap (λ l. with_code (saving_code l 4) (code_state c.put.new.self)) c.deref.ensures.value)
    base
    last)
    c.bind_all.ensures.grown
