use Rattle.std.proofs.Common.{◌≡◌, inl, inr, true, true≢false, sym, subst, ◌∙◌}
use Rattle.std.specs.Prelude.{◌↔◌}
use Rattle.graph_core.specs.Graphs.{recipe_view}
use Rattle.graph_paths.specs.PathMarksTable.{bits_of}
use Rattle.dead_pass_notes.specs.Lost.{HasStale}
use Rattle.dead_pass_notes.proofs.Lost.{stale_either, stale_left, stale_right}
use Rattle.dead_pass_notes.proofs.notes.+has_stale.Goals as goal

pub returns-in-Operand : goal.returns-in-Operand
returns-in-Operand t c =
    let told = bits_of c.args.stale.now c.args.row in
    subst (λ of. (c.is_stale.result ≡ true) ↔ HasStale told (recipe_view of)) (sym c.in-Operand.is) c.is_stale.ensures

pub returns-then-has_stale : goal.returns-then-has_stale
returns-then-has_stale t c =
    let told = bits_of c.args.stale.now c.args.row in
    let left = subst (λ r. (c.has_stale-in-Operated.result ≡ true) ↔ HasStale told (recipe_view r)) c.deref-in-Operated.ensures c.has_stale-in-Operated.ensures in
    subst (λ r. (c.has_stale-in-Operated.result ≡ true) ↔ HasStale told (recipe_view r)) (sym c.in-Operated.is)
    ((λ _. stale_left told _ (recipe_view c.in-Operated.left.value) (recipe_view c.in-Operated.right.value) (left.0 c.if-has_stale.true)), (λ _. c.if-has_stale.true))

pub returns-else-has_stale : goal.returns-else-has_stale
returns-else-has_stale t c =
    let told = bits_of c.args.stale.now c.args.row in
    let one = recipe_view c.in-Operated.left.value in
    let two = recipe_view c.in-Operated.right.value in
    let left = subst (λ r. (c.has_stale-in-Operated.result ≡ true) ↔ HasStale told (recipe_view r)) c.deref-in-Operated.ensures c.has_stale-in-Operated.ensures in
    let right = subst (λ r. (c.has_stale-else-has_stale.result ≡ true) ↔ HasStale told (recipe_view r)) c.deref-else-has_stale.ensures c.has_stale-else-has_stale.ensures in
    subst (λ r. (c.has_stale-else-has_stale.result ≡ true) ↔ HasStale told (recipe_view r)) (sym c.in-Operated.is) (
      (λ q. stale_right told _ one two (right.0 q)),
      (λ s. elim (stale_either told _ one two s) [
        | inl is ↦ absurd (true≢false (sym (left.1 is) ∙ c.if-has_stale.false))
        | inr is ↦ right.1 is
      ]),
    )
