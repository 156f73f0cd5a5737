use Rattle.std.proofs.lemmas.Result.{on_ok_weaker}
use Rattle.rv_emit_storage.specs.Storages.{storage_view}
use Rattle.rv_emit_words.specs.Growing.{code_state}
use Rattle.rv_emit_code.proofs.Growing.{jump_in_parts}
use Rattle.rv_emit_code.proofs.ending.jump.Goals as goal

pub returns-clause-grown : goal.returns-clause-grown
returns-clause-grown c =
    on_ok_weaker c.go.result
    (λ last. jump_in_parts (storage_view c.args.storage.now) c.args.loads.now c.args.to.0 c.args.next.0 (code_state c.args.code.now) (code_state c.load_held.new.code) (code_state c.go.new.code) c.in_ok-load_held.ensures.grown last)
    c.go.ensures.grown
