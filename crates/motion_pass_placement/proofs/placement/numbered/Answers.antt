use Rattle.std.proofs.Common.{inl, inr, None, false, length, sym, ap, ◌∙◌, arith}
use Rattle.std.specs.Prelude.{is_some, slice_index_or}
use Rattle.std.proofs.lemmas.Bool.{cases_eq}
use Rattle.motion_pass_placement.specs.Placed.{nothing_yet}
use Rattle.motion_pass_placement.proofs.placement.numbered.Goals as goal

pub loop-number-init : goal.loop-number-init
loop-number-init c = record { numbered = rw c.new.ensures.items nothing_yet; end = omega arith; count = ap length c.new.ensures.items; flagged = λ k lt. absurd (omega (arith, lt)) }

pub loop-number-preserved : goal.loop-number-preserved
loop-number-preserved c =
    let number = c.loop-number.number in
    let count = c.loop-number.invariant.count in
    record {
      numbered = c.in_ok-add.ensures.numbered c.args.first_name c.loop-number.invariant.numbered;
      end = omega (arith, c.in_ok-add.ensures.end, c.loop-number.invariant.end);
      count = omega (arith, c.in_ok-add.ensures.count, count);
      flagged = λ k lt. elim (cases_eq k number) [
        | inl same ↦ ap (λ m. is_some (slice_index_or c.add.new.self.temporaries.items m None)) (same ∙ sym count) ∙ c.in_ok-add.ensures.flagged ∙ ap (λ m. slice_index_or c.args.treated.now m false) (sym same)
        | inr apart ↦ ap is_some (c.in_ok-add.ensures.before k (omega (arith, lt, apart, count))) ∙ c.loop-number.invariant.flagged k (omega (arith, lt, apart))
      ];
    }

pub add-requires : goal.add-requires
add-requires c = omega (arith, c.requires, c.loop-number.invariant.end, c.loop-number-test.true)
