use Rattle.std.proofs.Common.{sym, ◌∙◌, arith}
use Rattle.image_form_sections.proofs.Unfit.{from_fitting, from_unfit, from_missing}
use Rattle.image_form_sections.proofs.name_rules.first_unfit.Goals as goal
use Rattle.image_form_sections.proofs.name_rules.first_unfit.Goals.{then-index-bytes-via-then-index-bytes, then-index-bytes-via-else-index-bytes+then-not-fits}

pub returns-then-index-bytes-clause-unfit : goal.returns-then-index-bytes-clause-unfit
returns-then-index-bytes-clause-unfit c =
    let from = c.loop-index.invariant.same in
    elim c.then-index-bytes.branch [
      | then-index-bytes-via-then-index-bytes w ↦ sym (from ∙ from_missing c.args.kind c.args.count c.loop-index.index c.args.bytes.now 0 c.loop-index-test.true w.if-index-bytes.true)
      | then-index-bytes-via-else-index-bytes+then-not-fits w ↦ sym (from ∙ from_unfit c.args.kind c.args.count c.loop-index.index c.args.bytes.now 0 c.loop-index-test.true w.if-index-bytes.false (sym w.fits.ensures ∙ w.if-not-fits.true))
    ]

pub loop-index-preserved : goal.loop-index-preserved
loop-index-preserved c = record {
  same = c.loop-index.invariant.same ∙ from_fitting c.args.kind c.args.count c.loop-index.index c.args.bytes.now 0 c.loop-index-test.true c.if-index-bytes.false (sym c.fits.ensures ∙ c.if-not-fits.false);
  inside = omega (arith, c.if-index-bytes.false);
}
