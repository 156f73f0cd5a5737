use Rattle.std.proofs.Common.{◌≡◌, ◌∙◌, ◌<◌, ◌+◌, Some, sym, ap, [], drop, get_or, length, take, arith}
use Rattle.std.specs.Prelude.{slice_index}
use Rattle.image_form_sections.specs.Layouts.{rows_in}
use Rattle.image_form_sections.specs.TestsOfNames.{byte_tests, first_unfit, table_tests}
use Rattle.image_form_sections.proofs.Unfit.{row_unfit, row_fits, length-table_more}
use Rattle.image_form_sections.proofs.name_rules.names_end.Goals as goal

pub returns-in-Some-clause-unfit : goal.returns-in-Some-clause-unfit
returns-in-Some-clause-unfit c =
    let kind = c.args.kind in
    let bytes = c.args.bytes.now in
    let rows = rows_in c.args.table.now in
    let row = c.loop-row.row in
    let end = c.loop-row.invariant.end in
    let there : row < length rows = omega (arith, c.loop-row-test.true, c.len-row-end.ensures.len) in
    let own : first_unfit (byte_tests kind (slice_index (get_or rows row []) 0)) (drop (length (table_tests kind (take row rows))) bytes) ≡ c.first_unfit.result =
    ap (λ n. first_unfit (byte_tests kind n) (drop (length (table_tests kind (take row rows))) bytes)) (sym c.number-length.ensures)
    ∙ ap (λ m. first_unfit (byte_tests kind c.number-length.result) (drop m bytes)) (sym end)
    ∙ ap (first_unfit (byte_tests kind c.number-length.result)) (sym c.split_at.ensures.back)
    ∙ sym c.first_unfit.ensures.unfit in
    row_unfit kind rows row bytes there c.loop-row.invariant.fit c.in-Some.index (own ∙ c.in-Some.is) ∙ ap (λ m. Some (m + c.in-Some.index)) (sym end)

pub loop-row-preserved : goal.loop-row-preserved
loop-row-preserved c =
    let kind = c.args.kind in
    let bytes = c.args.bytes.now in
    let rows = rows_in c.args.table.now in
    let row = c.loop-row.row in
    let end = c.loop-row.invariant.end in
    let there : row < length rows = omega (arith, c.loop-row-test.true, c.len-row-end.ensures.len) in
    let own : first_unfit (byte_tests kind (slice_index (get_or rows row []) 0)) (drop (length (table_tests kind (take row rows))) bytes) ≡ c.first_unfit.result =
    ap (λ n. first_unfit (byte_tests kind n) (drop (length (table_tests kind (take row rows))) bytes)) (sym c.number-length.ensures)
    ∙ ap (λ m. first_unfit (byte_tests kind c.number-length.result) (drop m bytes)) (sym end)
    ∙ ap (first_unfit (byte_tests kind c.number-length.result)) (sym c.split_at.ensures.back)
    ∙ sym c.first_unfit.ensures.unfit in
    let long = c.in_default.ensures.long in
    record {
      fit = row_fits kind rows row bytes there c.loop-row.invariant.fit (own ∙ c.in_default.is);
      end = omega (arith, end, c.number-length.ensures, length-table_more kind rows row there);
      inside = omega (arith, c.loop-row.invariant.inside, long, c.split_at.ensures.back_len);
    }
