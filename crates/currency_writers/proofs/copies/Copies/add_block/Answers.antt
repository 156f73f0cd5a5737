use Rattle.std.proofs.Common.{◌≡◌, ◌∙◌, ◌+◌, ◌<◌, ap, arith, get_or, length, map, take}
use Rattle.graph_core.specs.Graphs.{instruction_view}
use Rattle.currency_writers.specs.Writers.{placed}
use Rattle.currency_writers.proofs.Copied.{copied_taken}
use Rattle.currency_writers.proofs.Written.{place_next, taken}
use Rattle.currency_writers.proofs.copies.Copies.add_block.Goals as goal

pub loop-instruction-preserved : goal.loop-instruction-preserved
loop-instruction-preserved c =
    (let items = c.args.block.now.instructions.items in
    let k = c.loop-instruction.instruction-index in
    let i = c.instruction-item.result in
    let before = placed c.args.block.now.place in
    let lt : k < length items = omega arith in
    let is : i ≡ get_or items k i = c.instruction-item.is ∙ ap (λ l. get_or l k i) c.deref-instruction-items.ensures.value in
    record {
      place = ap placed c.or-place.ensures ∙ place_next instruction_view items k i i lt is c.marker.result c.loop-instruction.place before c.marker.ensures c.loop-instruction.invariant.place;
      copied = copied_taken c.args.self.now c.loop-instruction.self c.add_instruction.new.self before (placed c.loop-instruction.place) (take k (map instruction_view items)) (take (k + 1) (map instruction_view items)) (instruction_view i)
          (taken instruction_view items k i i lt is) c.loop-instruction.invariant.place c.loop-instruction.invariant.copied c.in_ok-add_instruction.ensures;
    })
