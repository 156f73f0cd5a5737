use Rattle.std.proofs.Common.{◌*◌, ◌%◌, ◌∙◌, ap, sym, cond, [], ◌∷◌, ◌++◌}
use Rattle.std.proofs.lemmas.Bool.{ne_eqb}
use Rattle.std.proofs.lemmas.Result.{on_ok_weaker}
use Rattle.rv_code.specs.declared.instruction.Instruction.TheVariants as instruction
use Rattle.rv_code.specs.declared.instruction.LoadOperation.TheVariants.{Lw}
use Rattle.rv_code.specs.declared.instruction.StoreOperation.TheVariants.{Sw}
use Rattle.rv_code.specs.declared.instruction.ImmediateOperation.TheVariants.{Addi}
use Rattle.rv_emit_storage.specs.Storages.{storage_view, object_at, array_bytes_at}
use Rattle.rv_emit_words.specs.Growing.{code_state, with_code}
use Rattle.rv_emit_words.specs.Constants.{set_constant_code}
use Rattle.rv_emit_words.specs.Operands.{address_code}
use Rattle.rv_emit_words.proofs.Appending.{held_kept}
use Rattle.rv_emit_instructions.specs.Filling.{limit_code, turn_code}
use Rattle.rv_emit_instructions.proofs.EmitInstructionsInParts.{copy_in_parts}
use Rattle.rv_emit_instructions.proofs.filling.put_copy.Goals as goal

pub returns-clause-grown : goal.returns-clause-grown
returns-clause-grown c =
    let g = storage_view c.args.storage.now in
    let held = c.args.code.now.held.items in
    let s = code_state c.args.code.now in
    let address = address_code 6 6 (object_at g c.args.object) in
    let limit = limit_code 10 (c.args.words * 4 % 4294967296) in
    let word = array_bytes_at g c.args.bytes in
    on_ok_weaker c.put_turn.result
    (λ last. copy_in_parts g held c.put_address.new.self.held.items address limit word g.base s (code_state c.put_address.new.self) (code_state c.set_constant.new.self) (code_state c.put_limit.new.code) (code_state c.put_copied_word.new.code)
    (code_state c.put_turn.new.code)
    (held_kept (address_code 6 6 c.object.result) c.args.code.now c.put_address.new.self c.in_ok-put_address.ensures.grown)
    (c.in_ok-put_address.ensures.grown ∙ ap (λ o. with_code (address_code 6 6 o) s) c.object.ensures)
    (c.in_ok-set_constant.ensures.grown ∙ ap (λ a. with_code (set_constant_code 7 a g.base c.put_address.new.self.held.items) (code_state c.put_address.new.self)) c.array_bytes.ensures)
    c.in_ok-put_limit.ensures.grown c.in_ok-put_copied_word.ensures.grown last
    ∙ sym (ap (λ b. with_code (cond b [] (address ++ set_constant_code 7 word g.base held ++ limit ++ instruction.Load Lw 5 7 0 ∷ instruction.Store Sw 5 6 0 ∷ instruction.Immediate Addi 7 7 4 ∷ turn_code 10 16)) s) (ne_eqb c.args.words 0 c.if-words-eq0.false)))
    c.put_turn.ensures.grown
