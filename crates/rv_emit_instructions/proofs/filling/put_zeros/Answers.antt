use Rattle.std.proofs.Common.{◌∙◌, arith}
use Rattle.rv_emit_words.specs.Growing.{code_state}
use Rattle.rv_emit_instructions.proofs.EmitInstructionsInParts.{zeros_then}
use Rattle.rv_emit_instructions.proofs.filling.put_zeros.Goals as goal

pub loop-word-preserved : goal.loop-word-preserved
loop-word-preserved c = record {
  few = omega (arith, c.in_ok-put_word.ensures.few, c.loop-word.invariant.few);
  stops = c.in_ok-put_word.ensures.stops ∙ c.loop-word.invariant.stops;
  grown = zeros_then c.args.offset c.loop-word.word (code_state c.args.code.now) (code_state c.loop-word.code) (code_state c.put_word.new.code) c.loop-word.invariant.grown c.in_ok-put_word.ensures.grown;
}
