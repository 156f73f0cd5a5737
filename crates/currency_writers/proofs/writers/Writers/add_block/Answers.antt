use Rattle.std.proofs.Common.{◌∙◌, ◌<◌, ap, arith, length, subst, sym}
use Rattle.graph_core.specs.Graphs.{instruction_view}
use Rattle.currency_writers.specs.declared.writers.Writer as declared-writer
use Rattle.currency_writers.specs.declared.writers.Writer.TheVariants as writer
use Rattle.currency_writers.specs.Writers.{IsKnown, placed}
use Rattle.currency_writers.proofs.Written.{at_index, block_still, instructions_next, more_on, place_next, writes_there}
use Rattle.currency_writers.proofs.Ordering.{block_next, instruction_next, lists_on}
use Rattle.currency_writers.proofs.writers.Writers.add_block.Goals as goal

pub add_instruction-requires-clause-writes : goal.add_instruction-requires-clause-writes
add_instruction-requires-clause-writes c = λ p x at target.
    (let v = c.loop-k.self in
    let k = c.loop-k.k in
    let b = c.args.block.now in
    let i = c.index-instruction.result.now in
    let lt : k < length b.instructions.items = omega arith in
    writes_there v c.args.number b k (instruction_view i) p x (block_still c.args.self.now v c.args.number b c.loop-k.invariant.more c.requires.block) (at_index instruction_view b.instructions.items k i i lt c.index-instruction.ensures)
    (sym c.loop-k.invariant.place ∙ at) target)

pub loop-k-preserved : goal.loop-k-preserved
loop-k-preserved c =
    (let old = c.args.self.now in
    let mid = c.loop-k.self in
    let new = c.add_instruction.new.self in
    let k = c.loop-k.k in
    let items = c.args.block.now.instructions.items in
    let before = placed c.args.block.now.place in
    let i = c.index-instruction.result.now in
    let known = c.loop-k.invariant in
    let said = c.in_ok-add_instruction.ensures in
    let lt : k < length items = omega arith in
    record {
      more = more_on old mid new known.more said.more;
      sound = said.sound;
      indexed = said.indexed;
      lists = lists_on mid new said.more known.lists;
      next = instruction_next new c.args.number k said.next;
      place = ap placed c.or-place.ensures ∙ place_next instruction_view items k i i lt c.index-instruction.ensures c.marker.result c.loop-k.place before c.marker.ensures known.place;
      all = instructions_next mid new c.args.number items before k i i c.loop-k.place lt c.index-instruction.ensures known.place known.all said.more
          (λ p x at target. subst (λ (w : declared-writer.Writer). IsKnown new p x w) (ap (λ m. writer.Instruction m c.args.number k) (sym said.more.function)) (said.there p x at target));
    })

pub returns-clause-next : goal.returns-clause-next
returns-clause-next c = block_next c.loop-k.self c.args.number c.loop-k.k c.loop-k.invariant.next
