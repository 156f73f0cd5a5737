use Rattle.std.proofs.Common.{◌≡◌, subst, ◌∷◌, ◌++◌}
use Rattle.std.proofs.lemmas.Result.{on_ok_weaker}
use Rattle.rv_code.specs.declared.instruction.Instruction.TheVariants as instruction
use Rattle.rv_code.specs.declared.instruction.ImmediateOperation.TheVariants.{Sltiu}
use Rattle.rv_code.specs.declared.instruction.RegisterOperation.TheVariants.{Xor}
use Rattle.rv_emit_storage.specs.Storages.{storage_view}
use Rattle.rv_emit_words.specs.Growing.{code_state, with_code}
use Rattle.rv_emit_words.specs.Operands.{source_register, fetched_source, finishing}
use Rattle.rv_emit_instructions.proofs.InParts.{both_fetched, word_then}
use Rattle.rv_emit_instructions.proofs.operation.compare_registers.Goals as goal

pub returns-clause-grown : goal.returns-clause-grown
returns-clause-grown c =
    let g = storage_view c.args.storage.now in
    let held = c.args.code.now.held.items in
    on_ok_weaker c.finish.result
    (λ last. subst
    (λ rd. code_state c.finish.new.self ≡ with_code (fetched_source g held c.args.left 6 ++ fetched_source g held c.args.right 7
    ++ instruction.Register Xor 6 (source_register g held c.args.left 6) (source_register g held c.args.right 7) ∷ instruction.Immediate Sltiu rd 6 1 ∷ finishing g c.args.target rd) (code_state c.args.code.now))
    c.result_register-rd.ensures
    (both_fetched g c.args.left c.args.right (λ l r. instruction.Register Xor 6 l r ∷ instruction.Immediate Sltiu c.result_register-rd.result 6 1 ∷ finishing g c.args.target c.result_register-rd.result)
    held c.fetch_source.new.self.held.items (code_state c.args.code.now) (code_state c.fetch_source.new.self) (code_state c.fetch_source-2.new.self) (code_state c.finish.new.self) c.in_ok-left.left c.in_ok-right.right
    c.in_ok-left.ensures.kept c.in_ok-left.ensures.grown c.in_ok-left.ensures.found c.in_ok-right.ensures.grown c.in_ok-right.ensures.found
    (word_then _ (instruction.Immediate Sltiu c.result_register-rd.result 6 1 ∷ finishing g c.args.target c.result_register-rd.result) (code_state c.fetch_source-2.new.self) (code_state c.put.new.self) (code_state c.finish.new.self) c.in_ok-put.ensures.grown
    (word_then _ (finishing g c.args.target c.result_register-rd.result) (code_state c.put.new.self) (code_state c.put_immediate.new.self) (code_state c.finish.new.self) c.in_ok-put_immediate.ensures.grown last))))
    c.finish.ensures.grown
