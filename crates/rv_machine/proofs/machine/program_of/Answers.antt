use Rattle.std.proofs.Common.{rules, ◌∙◌}
use Rattle.rv_machine.proofs.Words.{word_more, row_more, row_more_in_form}
use Rattle.rv_machine.proofs.machine.program_of.Goals as goal

-- src/machine.rt:92:5
pub loop-k-preserved : goal.loop-k-preserved
loop-k-preserved c =
    let bytes = c.args.bytes.now in
    let words = c.loop-k.code.items in
    let rows = c.loop-k.instructions.items in
    let word = c.word_at-word.result in
    let row = c.decode.result in
    let before = c.loop-k.invariant in
    let more = c.in_ok-push.ensures.items in (
      more ∙ word_more bytes words c.loop-k.k word before.0 c.word_at-word.ensures,
      c.in_ok-push-2.ensures.items ∙ row_more rows words c.push.new.self.items word row before.1 more c.decode.ensures.value,
      row_more_in_form rows c.push-in-loop-k.new.self.items row before.2 c.in_ok-push-2.ensures.items c.decode.ensures.in_form,
      search rules,
    )
