use Rattle.std.proofs.Common.{◌≤◌, rules, arith, length}
use Rattle.image_form_sections.proofs.Inside.{told_long, told_inside}
use Rattle.image_form_sections.proofs.layout.bytes_from.Goals as goal

pub invariant_of-start : goal.invariant_of-start
invariant_of-start c = record { long = told_long c.args.bytes.now c.requires }

pub start-requires : goal.start-requires
start-requires c = record { small = omega (arith, told_inside c.args.bytes.now c.args.section c.requires) }

pub slice_bounds-result-count : goal.slice_bounds-result-count
slice_bounds-result-count c = omega (arith, c.start.ensures, told_inside c.args.bytes.now c.args.section c.requires)

pub slice_bounds-result-start : goal.slice_bounds-result-start
slice_bounds-result-start c =
    let inside : c.start.result ≤ length c.args.bytes.now = omega (arith, c.start.ensures, told_inside c.args.bytes.now c.args.section c.requires) in
    search (rules, inside)
