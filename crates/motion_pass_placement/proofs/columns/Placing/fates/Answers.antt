use Rattle.std.proofs.Common.{inl, inr, List, length, sym, ap, ◌∙◌, subst, arith}
use Rattle.std.specs.Prelude.{slice_get}
use Rattle.std.proofs.lemmas.Bool.{cases_eq}
use Rattle.std.proofs.lemmas.List.{length-map}
use Rattle.std.proofs.lemmas.Option.{slice_get_within}
use Rattle.graph_core.specs.Graphs.{block_view}
use Rattle.motion_pass_problems.proofs.Pushed.{count_on}
use Rattle.motion_pass_placement.specs.declared.fates.Fate.{Fate}
use Rattle.motion_pass_placement.specs.Columns.{AreRowFates, blocks_in, fates_of}
use Rattle.motion_pass_placement.proofs.Rows.{row_below, row_there}
use Rattle.motion_pass_placement.proofs.columns.Placing.fates.Goals as goal

pub loop-number-preserved : goal.loop-number-preserved
loop-number-preserved c =
    let s = c.args.self.now in
    let number = c.loop-number.number in
    let rows = c.loop-number.fates.items in
    let longer = c.push.new.self.items in
    let row = c.in_ok-row.row in
    let count = c.loop-number.invariant.count in
    let grown = c.in_ok-push.ensures.items in
    record {
      count = count_on rows longer row number grown count;
      each = λ n lt. elim (cases_eq n number) [
        | inl same ↦ subst (λ m. AreRowFates s m (fates_of longer m)) (sym same) (subst (λ (fs : List Fate). AreRowFates s number fs) (sym (row_there rows longer row number grown count)) c.in_ok-row.ensures.told)
        | inr apart ↦ subst (λ (fs : List Fate). AreRowFates s n fs) (sym (row_below rows longer row number grown count n (omega (arith, lt, apart)))) (c.loop-number.invariant.each n (omega (arith, lt, apart)))
      ];
      size = λ n lt b got. elim (cases_eq n number) [
        | inl same ↦ ap (λ m. length (fates_of longer m)) same ∙ ap length (row_there rows longer row number grown count) ∙ c.in_ok-row.ensures.size b (sym (ap (slice_get (blocks_in s)) same) ∙ got)
        | inr apart ↦ ap length (row_below rows longer row number grown count n (omega (arith, lt, apart))) ∙ c.loop-number.invariant.size n (omega (arith, lt, apart)) b got
      ];
    }

pub returns : goal.returns
returns c =
    let blocks = blocks_in c.args.self.now in
    let size = length-map c.args.self.now.graph.now.blocks.items block_view in
    record {
      told = λ n b got. (let inside = slice_get_within blocks n b got in c.loop-number.invariant.each n (omega (arith, inside, size, c.loop-number-test.false, c.len-number-end.ensures)) b got);
      sizes = record {
        count = omega (arith, size, c.loop-number-test.false, c.len-number-end.ensures, c.loop-number.invariant.count);
        each = λ n b got. (let inside = slice_get_within blocks n b got in c.loop-number.invariant.size n (omega (arith, inside, size, c.loop-number-test.false, c.len-number-end.ensures)) b got);
      };
    }
