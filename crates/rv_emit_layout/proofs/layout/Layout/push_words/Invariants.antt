use Rattle.std.proofs.Common.{◌≡◌, ◌++◌, length}
use Rattle.rv_emit_sequence.specs.Sequences.{sequence_view}
use Rattle.rv_emit_layout.specs.Layouts.{function_words, layout_view, lying, words_from}
use Rattle.rv_emit_layout.proofs.layout.Layout.push_words.Given as goal

abbrev pub invariant-loop-left : goal.invariant-loop-left
invariant-loop-left l = l.code.items ++ words_from (lying (sequence_view l.sequence) (layout_view l.self) l.first l.functions) l.self.reaches.items l.index l.left
    ≡ l.fn.code.items ++ function_words (sequence_view l.sequence) (layout_view l.self) l.first l.functions

abbrev pub decreases-loop-left : goal.decreases-loop-left
decreases-loop-left l = length l.left
