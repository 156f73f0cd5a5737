use Rattle.std.proofs.Common.{◌≡◌, false, true, inl, inr, ◌∙◌, arith, refl}
use Rattle.std.specs.Prelude.{slice_index_or}
use Rattle.motion_pass_placement.proofs.Marks.{marked_on}
use Rattle.motion_pass_placement.proofs.placement.mark_row.Goals as goal

pub loop-index-init : goal.loop-index-init
loop-index-init c = record {
  size = refl;
  marked = λ k lt. (λ was. inl was, λ there. elim there [ inl was ↦ was | inr m ↦ (let none = m.inside in absurd (omega (arith, none))) ]);
}

pub loop-index-preserved : goal.loop-index-preserved
loop-index-preserved c = record {
  size = c.mark.ensures.size ∙ c.loop-index.invariant.size;
  marked = λ k lt.
      marked_on (slice_index_or c.args.treated.now k false ≡ true) c.args.numbers.now c.args.fates.now k c.loop-index.index _ _ c.number_in_row-number.result c.fate_at-fate.result c.number_in_row-number.ensures c.fate_at-fate.ensures
      (c.mark.ensures.marked k (omega (arith, lt, c.loop-index.invariant.size))) (c.loop-index.invariant.marked k lt);
}
