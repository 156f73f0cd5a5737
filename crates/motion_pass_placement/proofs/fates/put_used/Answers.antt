use Rattle.std.proofs.Common.{◌≡◌, ◌↔◌, ◌+◌, ◌-◌, ◌<◌, false, inl, inr, length, refl, sym, ap, ◌∙◌, subst, arith}
use Rattle.std.proofs.lemmas.Bool.{cases_eq}
use Rattle.std.proofs.lemmas.List.{length-map}
use Rattle.graph_core.specs.Graphs.{block_view, instruction_view}
use Rattle.motion_pass_points.specs.Ways.{IsPast}
use Rattle.motion_pass_points.specs.Words.{has}
use Rattle.motion_pass_points.specs.Columns.{number_at}
use Rattle.motion_pass_placement.specs.declared.fates.Fate.{Fate}
use Rattle.motion_pass_problems.specs.Inner.{in_column, point_at}
use Rattle.motion_pass_placement.specs.Fates.{fate_of}
use Rattle.motion_pass_placement.proofs.Fated.{AreUsedBehind, used_on}
use Rattle.motion_pass_problems.proofs.Inner.{at_inside, used_last}
use Rattle.motion_pass_placement.proofs.fates.put_used.Goals as goal

pub loop-left-init : goal.loop-left-init
loop-left-init c =
    let size = length-map c.args.block.now.instructions.items instruction_view in
    record {
      inside = omega arith;
      size = refl;
      late = λ j. refl;
      used = λ blocks reached n k e is treated late end. record {
        flag = used_last blocks reached n (block_view c.args.block.now) is e (has c.args.used_end k) end _ (omega (arith, size));
        told = λ j le lt number. absurd (omega (arith, le, lt, size));
      };
      others = λ j none. refl;
    }

pub loop-left-preserved : goal.loop-left-preserved
loop-left-preserved c =
    let b = block_view c.args.block.now in
    let numbers = c.args.numbers.now in
    let column = c.args.column.now in
    let left = c.loop-left.left in
    let index = left - 1 in
    let old = c.loop-left.fates in
    let new = c.put_is_used.new.fates in
    let count = length-map c.args.block.now.instructions.items instruction_view in
    let inside : index < length b.instructions = omega (arith, c.loop-left.invariant.inside, c.loop-left-test.true, count) in
    let small : index < length old = omega (arith, inside, c.loop-left.invariant.size, c.requires) in
    let next : index + 1 ≡ left = omega (arith, c.loop-left-test.true) in
    let there = at_inside b.instructions index inside in
    let late_is : c.fate_at-fate.result.is_late ≡ (fate_of c.args.fates.now index).is_late = ap (λ (f : Fate). f.is_late) c.fate_at-fate.ensures ∙ c.put_is_used.ensures.late index ∙ c.loop-left.invariant.late index in
    record {
      inside = omega (arith, c.loop-left.invariant.inside);
      size = c.put_is_used.ensures.size ∙ c.loop-left.invariant.size;
      late = λ j. c.put_is_used.ensures.late j ∙ c.loop-left.invariant.late j;
      used = λ blocks reached n k e is treated late end.
          used_on blocks reached n b is column numbers k e treated index there.0 there.1 c.loop-left.used c.used_before-used.result c.number_in-number.result c.number_in-number.ensures c.fate_at-fate.result.is_late (c.used_before-used.ensures k treated.of)
          (λ number. subst (λ l. (l ≡ false) ↔ IsPast blocks e (point_at n b index)) (sym late_is) (late index inside number)) old new (λ m number. c.put_is_used.ensures.here small m number) c.put_is_used.ensures.others
          (subst (λ m. AreUsedBehind blocks n b numbers k e m c.loop-left.used old) (sym next) (c.loop-left.invariant.used blocks reached n k e is treated late end));
      others = λ j none. elim (cases_eq j index) [
        | inl same ↦ ap (λ fates. fate_of fates j) (c.put_is_used.ensures.none (c.number_in-number.ensures ∙ ap (λ m. in_column column.index (number_at numbers m)) (sym same) ∙ none)) ∙ c.loop-left.invariant.others j none
        | inr apart ↦ c.put_is_used.ensures.others j apart ∙ c.loop-left.invariant.others j none
      ];
    }

pub returns-clause-used : goal.returns-clause-used
returns-clause-used c = λ blocks reached n k e is treated late end index lt number. (c.loop-left.invariant.used blocks reached n k e is treated late end).told index (omega (arith, c.loop-left-test.false)) lt number
