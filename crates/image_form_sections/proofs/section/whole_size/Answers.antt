use Rattle.std.proofs.Common.{◌≡◌, ◌∙◌, ◌+◌, ◌*◌, ◌<◌, ◌≤◌, ◌^◌, get_or, arith, rules}
use Rattle.image_form_sections.specs.declared.section.Section.TheVariants.{Code}
use Rattle.image_form_sections.specs.Order.{order, record_size}
use Rattle.image_form_sections.proofs.SectionLaws.{behind_next, times_low}
use Rattle.image_form_sections.proofs.section.whole_size.Goals as goal

pub loop-section-preserved : goal.loop-section-preserved
loop-section-preserved g c =
    let level = g.C.Counts.of_level c.args.counts.now in
    let count = g.C.Counts.count c.args.counts.now in
    let i = c.loop-section.section-index in
    let low : i < 14 = omega (arith, c.loop-section-test.true) in
    let size : c.record_size.result ≡ record_size level (get_or order i Code) = rw c.level-level.ensures at c.record_size.ensures.size in
    let few : c.count.result < 2 ^ 64 = search rules in
    let own : c.record_size.result * c.count.result ≤ 64 * c.count.result = times_low c.record_size.result 64 c.count.result (omega (arith, c.record_size.ensures.small)) in
    ((λ j. c.loop-section.invariant.0 j + size j * c.count.ensures j) ∙ behind_next level count i Code low, omega (arith, c.loop-section.invariant.1, own, few))
