use Rattle.std.proofs.Common.{◌≡◌, ◌<◌, inl, inr, Some, length, map, refl, sym, ap, ◌∙◌, arith}
use Rattle.std.specs.Prelude.{option_map, slice_get}
use Rattle.std.proofs.lemmas.Bool.{cases_eq}
use Rattle.std.proofs.lemmas.List.{length-map}
use Rattle.std.proofs.lemmas.Option.{slice_get-map, slice_get_read}
use Rattle.graph_core.specs.Graphs.{block_view, instruction_view}
use Rattle.motion_pass_problems.specs.Inner.{in_column}
use Rattle.motion_pass_placement.specs.Fates.{fate_of}
use Rattle.motion_pass_points.specs.Columns.{number_at}
use Rattle.motion_pass_placement.proofs.Fated.{late_on}
use Rattle.motion_pass_placement.proofs.fates.put_late.Goals as goal

pub loop-index-init : goal.loop-index-init
loop-index-init c = record {
  size = refl;
  late = λ blocks reached n k e is treated start. record { flag = λ safe. start; told = λ j lt number. absurd (omega (arith, lt)) };
  others = λ j none. refl;
}

pub loop-index-preserved : goal.loop-index-preserved
loop-index-preserved c =
    let xs = c.args.block.now.instructions.items in
    let index = c.loop-index.index in
    let i = c.index-instruction.result.now in
    let inside : index < length xs = omega (arith, c.loop-index-test.true) in
    let there : slice_get (map instruction_view xs) index ≡ Some (instruction_view i) = slice_get-map instruction_view xs index ∙ ap (option_map instruction_view) (slice_get_read xs (length xs) index i refl inside c.index-instruction.ensures) in
    let old = c.loop-index.fates in
    let new = c.put_is_late.new.fates in
    let small : index < length old = omega (arith, inside, c.loop-index.invariant.size, c.requires, length-map xs instruction_view) in
    record {
      size = c.put_is_late.ensures.size ∙ c.loop-index.invariant.size;
      late = λ blocks reached n k e is treated start.
          late_on blocks reached n (block_view c.args.block.now) is c.args.column.now c.args.numbers.now k e treated index (instruction_view i) there c.loop-index.past c.past_behind-past.result c.number_in-number.result _ c.number_in-number.ensures c.target-target.ensures
          (c.past_behind-past.ensures k treated.of) old new (λ m number. c.put_is_late.ensures.here small m number) c.put_is_late.ensures.others (c.loop-index.invariant.late blocks reached n k e is treated start);
      others = λ j none. elim (cases_eq j index) [
        | inl same ↦ ap (λ fates. fate_of fates j) (c.put_is_late.ensures.none (c.number_in-number.ensures ∙ ap (λ m. in_column c.args.column.now.index (number_at c.args.numbers.now m)) (sym same) ∙ none)) ∙ c.loop-index.invariant.others j none
        | inr apart ↦ c.put_is_late.ensures.others j apart ∙ c.loop-index.invariant.others j none
      ];
    }

pub returns-clause-late : goal.returns-clause-late
returns-clause-late c = λ blocks reached n k e is treated start index lt number.
    (c.loop-index.invariant.late blocks reached n k e is treated start).told index (omega (arith, lt, c.loop-index-test.false, length-map c.args.block.now.instructions.items instruction_view)) number
