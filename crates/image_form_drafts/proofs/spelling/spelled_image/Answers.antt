use Rattle.std.proofs.Common.{◌≡◌, ◌≤◌, ◌^◌, subst, sym, ◌∙◌}
use Rattle.std.specs.Prelude.{IfSome, MatchOption}
use Rattle.image_form.specs.Form.{form}
use Rattle.image_form.specs.Rules.{IsImage}
use Rattle.image_form.specs.Spelling.{size, spelling}
use Rattle.image_form_drafts.proofs.ReadBack.{says_the_same}
use Rattle.image_form_drafts.proofs.spelling.spelled_image.Goals as goal

pub returns-clause-same : goal.returns-clause-same
returns-clause-same c =
    let image = subst (λ o. IfSome o (λ m. IsImage (form m))) c.in-Some-2.is c.in_ok-image.ensures.image in
    let read = subst (λ o. IfSome o (λ m. c.deref.result.now ≡ spelling (form m))) c.in-Some-2.is c.in_ok-image.ensures.bytes in
    let written = subst (λ o. MatchOption o (2 ^ 32 ≤ size (form c.args.tables.now)) (λ v. v.items ≡ spelling (form c.args.tables.now))) c.in-Some.is c.in_ok-bytes.ensures in
    says_the_same (form c.args.tables.now) (form c.in-Some-2.image) c.requires c.tables_fit.ensures image (sym written ∙ sym c.deref.ensures.value ∙ read)
