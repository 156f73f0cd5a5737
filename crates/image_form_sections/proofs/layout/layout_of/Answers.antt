use Rattle.std.proofs.Common.{◌≤◌, ◌<◌, ◌^◌, sym, arith, length, length-drop}
use Rattle.std.proofs.lemmas.List.{length-take-le}
use Rattle.image_form_sections.specs.declared.section.Section.TheVariants.{Initial, Functions, Rows}
use Rattle.image_form_sections.specs.declared.table.Table.{Table}
use Rattle.image_form_sections.specs.Layouts.{rows_in}
use Rattle.image_form_sections.specs.Versions.{level_of}
use Rattle.image_form_sections.specs.Order.{record_size, section_start}
use Rattle.image_form_sections.specs.Sections.{count_told, version_told}
use Rattle.image_form_sections.proofs.Inside.{told_few, told_long, told_inside}
use Rattle.image_form_sections.proofs.RowLaws.{length-rows_at}
use Rattle.image_form_sections.proofs.SectionLaws.{header_small, header_some, record_small, times_low}
use Rattle.image_form_sections.proofs.layout.layout_of.Goals as goal

few_rows : (t : Table) → length (rows_in t) < 2 ^ 32
few_rows t = omega (arith, length-rows_at t.width t.count t.bytes.now, t.few)

pub invariant_of-count : goal.invariant_of-count
invariant_of-count c = record { long = told_long c.args.bytes.now c.requires }

pub number_at-version-requires : goal.number_at-version-requires
number_at-version-requires c = let bytes = c.args.bytes.now in omega (arith, told_long bytes c.requires, header_some (version_told bytes).level)

pub slice_bounds-result-end : goal.slice_bounds-result-end
slice_bounds-result-end c =
    let bytes = c.args.bytes.now in
    let left = length-drop (section_start (version_told bytes).level (count_told bytes) Initial) bytes in
    let inside : c.count-initial.result ≤ length c.bytes_from.result.now = rw (c.count-initial.ensures, c.bytes_from.ensures) (omega (arith, left, told_inside bytes Initial c.requires)) in
    sym (length-take-le c.count-initial.result c.bytes_from.result.now inside)

pub returns-clause-small : goal.returns-clause-small
returns-clause-small c =
    let bytes = c.args.bytes.now in
    let left = length-drop (section_start (version_told bytes).level (count_told bytes) Initial) bytes in
    let inside : c.count-initial.result ≤ length c.bytes_from.result.now = rw (c.count-initial.ensures, c.bytes_from.ensures) (omega (arith, left, told_inside bytes Initial c.requires)) in
    let level = level_of c.number_at-version.result in
    let functions = c.rows_of-2.result in
    let rows = c.rows_of-9.result in
    omega (
      arith,
      header_small level,
      few_rows c.rows_of.result,
      few_rows functions,
      times_low (record_size level Functions) 32 (length (rows_in functions)) (record_small level Functions),
      few_rows c.rows_of-3.result,
      few_rows c.rows_of-4.result,
      few_rows c.rows_of-5.result,
      few_rows c.rows_of-6.result,
      few_rows c.rows_of-7.result,
      few_rows c.rows_of-8.result,
      few_rows rows,
      times_low (record_size level Rows) 32 (length (rows_in rows)) (record_small level Rows),
      few_rows c.rows_of-10.result,
      few_rows c.rows_of-11.result,
      few_rows c.rows_of-12.result,
      length-take-le c.count-initial.result c.bytes_from.result.now inside,
      c.count-initial.ensures,
      told_few bytes Initial (λ i. omega (arith, c.type_inv.bytes i)),
    )
