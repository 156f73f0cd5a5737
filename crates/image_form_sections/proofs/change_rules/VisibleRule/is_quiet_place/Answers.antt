use Rattle.std.proofs.Common.{ℕ, ◌∙◌, nat_cmp, subst, arith}
use Rattle.std.specs.List.Sorted.{IsBinarySearchResult}
use Rattle.image_form_sections.specs.Layouts.{sections_in}
use Rattle.image_form_sections.proofs.PairKeys.{quiet_found}
use Rattle.image_form_sections.proofs.change_rules.VisibleRule.is_quiet_place.Goals as goal

pub returns : goal.returns
returns c =
    let rule = c.args.self.now in
    let r = c.binary_search.result in
    c.is_ok.ensures.value
    ∙ quiet_found rule.quiet.now (sections_in rule.layout.now) c.args.place c.args.variable r (omega (arith, c.ranges.variable.fits)) c.requires
    (subst (λ (key : ℕ). IsBinarySearchResult (λ y. nat_cmp y key) rule.quiet.now r) c.pair_key.ensures c.binary_search.ensures.position)
