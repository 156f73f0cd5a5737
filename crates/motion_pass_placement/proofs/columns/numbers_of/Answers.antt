use Rattle.std.proofs.Common.{◌≡◌, ℕ, inl, inr, Some, List, Option, length, map, refl, sym, ap, ◌∙◌, subst, arith}
use Rattle.std.specs.Prelude.{false, option_map, slice_get, slice_index_or}
use Rattle.motion_pass_placement.specs.Columns.{row_of}
use Rattle.std.proofs.lemmas.Bool.{cases_eq, cases_lt}
use Rattle.std.proofs.lemmas.List.{length-map}
use Rattle.std.proofs.lemmas.Option.{same_Some, slice_get-map, slice_get_read, slice_get_within}
use Rattle.graph_core.specs.Graphs.{Block, block_view}
use Rattle.motion_pass_points.specs.Columns.{AreNumbersAlong}
use Rattle.motion_pass_points.specs.Numbers.{views_of}
use Rattle.motion_pass_problems.proofs.Pushed.{count_on}
use Rattle.motion_pass_placement.proofs.Rows.{row_below, row_there, row_past}
use Rattle.motion_pass_placement.proofs.columns.numbers_of.Goals as goal

pub loop-number-preserved : goal.loop-number-preserved
loop-number-preserved c =
    let xs = c.args.blocks.now in
    let number = c.loop-number.number in
    let rows = c.loop-number.all.items in
    let longer = c.push.new.self.items in
    let row = c.in_ok-row.row in
    let all = views_of c.args.computations.now in
    let count = c.loop-number.invariant.count in
    let grown = c.in_ok-push.ensures.items in
    let more = count_on rows longer row number grown count in
    let there : slice_get (map block_view xs) number ≡ Some (block_view c.index-blocks-number.result)
    = slice_get-map block_view xs number ∙ ap (option_map block_view) (slice_get_read xs (length xs) number c.index-blocks-number.result refl c.loop-number-test.true c.index-blocks-number.is) in
    record {
      count = more;
      along = λ n b lt at comes. elim (cases_eq n number) [
        | inl same ↦
            let one : block_view c.index-blocks-number.result ≡ b = same_Some _ b (sym there ∙ ap (slice_get (map block_view xs)) (sym same) ∙ at) in
            let is : AreNumbersAlong all (block_view c.index-blocks-number.result).instructions row.items = c.in_ok-row.ensures.told c.requires (c.is_flagged-flag.ensures ∙ ap (λ m. slice_index_or c.args.reached.now m false) (sym same) ∙ comes) in
            subst (λ (ns : List (Option ℕ)). AreNumbersAlong all b.instructions ns) (sym (ap (λ m. row_of longer m) same ∙ row_there rows longer row number grown count)) (subst (λ (d : Block). AreNumbersAlong all d.instructions row.items) one is)
        | inr apart ↦ subst (λ (ns : List (Option ℕ)). AreNumbersAlong all b.instructions ns) (sym (row_below rows longer row number grown count n (omega (arith, lt, apart)))) (c.loop-number.invariant.along n b (omega (arith, lt, apart)) at comes)
      ];
      none = λ n idle. elim (cases_eq n number) [
        | inl same ↦ ap (λ m. row_of longer m) same ∙ row_there rows longer row number grown count ∙ c.in_ok-row.ensures.none (c.is_flagged-flag.ensures ∙ ap (λ m. slice_index_or c.args.reached.now m false) (sym same) ∙ idle)
        | inr apart ↦ elim (cases_lt n number) [
          | inl less ↦ row_below rows longer row number grown count n less ∙ c.loop-number.invariant.none n idle
          | inr past ↦ row_past longer n (omega (arith, past, apart, more))
        ]
      ];
    }

pub returns : goal.returns
returns c = record {
  told = record {
    along = λ n b at comes. c.loop-number.invariant.along n b (omega (arith, c.loop-number-test.false, slice_get_within (map block_view c.args.blocks.now) n b at, length-map c.args.blocks.now block_view)) at comes;
    none = c.loop-number.invariant.none;
  };
}
