use Rattle.std.proofs.Common.{◌∙◌, arith}
use Rattle.rv_emit_storage.specs.Storages.{storage_view}
use Rattle.rv_emit_words.specs.Growing.{code_state}
use Rattle.rv_emit_instructions.proofs.EmitInstructionsInParts.{one_passed, fewer}
use Rattle.rv_emit_instructions.proofs.call.pass_all.Goals as goal

pub loop-left-preserved : goal.loop-left-preserved
loop-left-preserved c = record {
  few = omega (arith, c.in_ok-pass.ensures.few, c.loop-left.invariant.few, fewer c.loop-left.left.now c.in-len1-up.len_at_least);
  small = omega (arith, c.saturating_add-number.ensures);
  stops = c.in_ok-pass.ensures.stops ∙ c.loop-left.invariant.stops;
  grown = one_passed (storage_view c.args.storage.now) c.loop-left.left.now _ c.loop-left.number c.saturating_add-number.result (code_state c.loop-left.code) (code_state c.pass.new.code) c.in-len1-up.len_at_least c.loop-left.invariant.small
      c.saturating_add-number.ensures c.in_ok-pass.ensures.grown
      ∙ c.loop-left.invariant.grown;
}
