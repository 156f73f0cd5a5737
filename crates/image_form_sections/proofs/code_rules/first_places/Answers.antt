use Rattle.std.proofs.Common.{◌≡◌, ◌∙◌, sym, ap, ◌<◌, eqb, cond, Some, [], get_or, length, nat_cmp, arith}
use Rattle.std.specs.Prelude.{slice_index, is_some}
use Rattle.std.specs.BTreeMap as tree
use Rattle.std.proofs.lemmas.Bool.{eqb-true}
use Rattle.image_form_sections.specs.Layouts.{rows_in}
use Rattle.image_form_sections.proofs.FirstAt.{seen_again, seen_new, same_number, number_self}
use Rattle.image_form_sections.proofs.code_rules.first_places.Goals as goal
use Rattle.image_form_sections.proofs.code_rules.first_places.Goals.{then-not-contains_key+in_ok-insert, else-not-contains_key}

pub loop-place-preserved : goal.loop-place-preserved
loop-place-preserved c =
    let rows = rows_in c.args.layout.now.places in
    let first = tree.get nat_cmp c.loop-place.places in
    let place = c.loop-place.place in
    let key = c.number.result in
    let there : place < length rows = omega (arith, c.loop-place-test.true, c.len-place-end.ensures.len) in
    let found : is_some (first (slice_index (get_or rows place []) 3)) ≡ c.contains_key.result = ap (λ n. is_some (first n)) (sym c.number.ensures) ∙ sym c.contains_key.ensures in
    elim c.if-not-contains_key.branch [
      | then-not-contains_key+in_ok-insert w ↦ λ q.
          ap (λ m. tree.get nat_cmp m q) w.places-is
          ∙ w.in_ok-insert.ensures.updates.0 q
          ∙ ap (λ b. cond b (Some place) (first q)) (same_number key q)
          ∙ ap (λ n. cond (eqb n q) (Some place) (first q)) c.number.ensures
          ∙ seen_new (λ r. slice_index r 3) eqb number_self eqb-true rows place [] first there c.loop-place.invariant (found ∙ w.if-not-contains_key.true) q
      | else-not-contains_key w ↦ λ q.
          ap (λ m. tree.get nat_cmp m q) w.places-is ∙ seen_again (λ r. slice_index r 3) eqb number_self eqb-true rows place [] first there c.loop-place.invariant (found ∙ w.if-not-contains_key.false) q
    ]
