use Rattle.std.proofs.Common.{◌∙◌, ap}
use Rattle.std.proofs.lemmas.Result.{on_ok_weaker}
use Rattle.rv_emit_words.specs.Growing.{code_state, with_code}
use Rattle.rv_emit_code.specs.Leaving.{restoring_code, of_no_place}
use Rattle.rv_emit_code.proofs.Growing.{leaving_in_parts}
use Rattle.rv_emit_code.proofs.leaving.put_leaving.Goals as goal

pub returns-clause-grown : goal.returns-clause-grown
returns-clause-grown c =
    on_ok_weaker c.put-2.result
    (λ last. leaving_in_parts c.args.moves c.args.frame.now.saved.items c.args.frame.now.size (code_state c.args.code.now) (code_state c.leave_place.new.self) (code_state c.restore.new.code) (code_state c.put.new.self) (code_state c.move_sp.new.code)
    (code_state c.put-2.new.self)
    (c.leave_place.ensures.grown ∙ ap of_no_place c.in_ok-put_sum.ensures.grown)
    (c.in_ok-restore.ensures.grown ∙ ap (λ l. with_code (restoring_code l 4) (code_state c.leave_place.new.self)) c.deref.ensures.value)
    c.in_ok-put.ensures.grown c.in_ok-move_sp.ensures.grown last)
    c.put-2.ensures.grown
