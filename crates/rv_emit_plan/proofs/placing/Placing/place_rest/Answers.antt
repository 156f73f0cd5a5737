use Rattle.std.proofs.Common.{arith, below_more}
use Rattle.rv_emit_plan.proofs.Growing.{grows_on, grows_same}
use Rattle.rv_emit_plan.proofs.placing.Placing.place_rest.Goals as goal

pub loop-block-init : goal.loop-block-init
loop-block-init c = record { grown = grows_same _; all = λ n lt. absurd (omega (arith, lt)) }

pub loop-block-preserved : goal.loop-block-preserved
loop-block-preserved c = record {
  grown = grows_on _ _ _ c.loop-block.invariant.grown c.in_ok-place.ensures.grown;
  all = below_more _ _ (λ n lt. c.in_ok-place.ensures.grown.stay n (c.loop-block.invariant.all n lt)) c.in_ok-place.ensures.there;
}
