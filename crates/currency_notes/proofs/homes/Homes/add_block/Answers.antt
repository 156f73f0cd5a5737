use Rattle.std.proofs.Common.{◌+◌, List, arith, map, sym, subst, take}
use Rattle.graph_core.specs.declared.instruction.Instr as declared-instr
use Rattle.graph_core.specs.Graphs.{instruction_view}
use Rattle.currency_notes.specs.Numbers.{AreNotesRead}
use Rattle.currency_notes.proofs.Lists.{take_whole}
use Rattle.currency_notes.proofs.Numbering.{more_on, notes_next}
use Rattle.currency_notes.proofs.homes.Homes.add_block.Goals as goal

pub loop-instruction-preserved : goal.loop-instruction-preserved
loop-instruction-preserved c =
    let old = c.loop-instruction.self in
    let new = c.add_note.new.self in
    let i = c.loop-instruction.instruction-index in
    let res = c.deref-instruction-items.result.now in
    let same = c.deref-instruction-items.ensures.value in
    let inv = c.loop-instruction.invariant in
    let said = c.in_ok-add_note.ensures in
    record {
      more = more_on c.args.self.now old new inv.more said.more;
      read = λ orderly. subst (λ (is : List declared-instr.Instr). AreNotesRead new (map instruction_view (take (i + 1) is))) same
          (notes_next old new said.more res i c.instruction-item.result c.loop-instruction-test.true c.instruction-item.is (subst (λ (is : List declared-instr.Instr). AreNotesRead old (map instruction_view (take i is))) (sym same) (inv.read orderly)) (said.read (inv.more.orderly orderly)));
    }

pub returns-clause-read : goal.returns-clause-read
returns-clause-read c = λ orderly.
    (let items = c.args.block.now.instructions.items in
    subst (λ (is : List declared-instr.Instr). AreNotesRead c.loop-instruction.self (map instruction_view is)) (take_whole items c.loop-instruction.instruction-index (omega arith)) (c.loop-instruction.invariant.read orderly))
