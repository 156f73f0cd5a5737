use Rattle.std.proofs.Common.{◌≡◌, length}
use Rattle.rv_emit_words.specs.Growing.{holder_of}
use Rattle.rv_emit_words.proofs.code.Code.holder.Given as goal

abbrev pub invariant-loop-left : goal.invariant-loop-left
invariant-loop-left l = holder_of l.fn.word l.left ≡ holder_of l.fn.word l.fn.self.held.items

abbrev pub decreases-loop-left : goal.decreases-loop-left
decreases-loop-left l = length l.left
