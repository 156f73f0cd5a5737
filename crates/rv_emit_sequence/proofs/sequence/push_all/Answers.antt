use Rattle.std.proofs.Common.{◌∙◌, ap}
use Rattle.rv_emit_words.specs.declared.piece.PlacedPiece.{PlacedPiece}
use Rattle.rv_emit_sequence.proofs.Counting.{number_step, push_step}
use Rattle.rv_emit_sequence.proofs.sequence.push_all.Goals as goal

pub loop-left-preserved : goal.loop-left-preserved
loop-left-preserved c = record {
  few = push_step c.loop-left.left.now c.loop-left.pieces.items _ _ _ c.in-len1-up.len_at_least (ap (λ (p : PlacedPiece). p.piece) c.numbered.ensures) c.in_ok-push.ensures.items ∙ c.loop-left.invariant.few;
  grown = number_step c.args.before c.loop-left.left.now c.loop-left.pieces.items _ _ _ c.in-len1-up.len_at_least c.numbered.ensures c.in_ok-push.ensures.items ∙ c.loop-left.invariant.grown;
}
