use Rattle.std.proofs.Common.{◌≡◌, ap, false, true≢false, subst, sym, ◌∙◌}
use Rattle.std.specs.Prelude.{◌↔◌}
use Rattle.graph_core.specs.Graphs.{Recipe, recipe_view}
use Rattle.graph_core.specs.Uses.{names_in}
use Rattle.currency_notes.specs.Homes.{IsRead, IsUnread}
use Rattle.currency_notes.proofs.Lists.{among_left, among_right}
use Rattle.currency_notes.proofs.ReadNames.{each_of_both}
use Rattle.currency_notes.proofs.recipes.+reads_home.Goals as goal

pub returns-else-reads_home : goal.returns-else-reads_home
returns-else-reads_home t c =
    (let m = c.args.homes.now in
    let left = names_in (recipe_view c.in-Operated.left.value) in
    let right = names_in (recipe_view c.in-Operated.right.value) in (
      (λ e. subst (λ r. IsUnread m (recipe_view r) c.args.name) (sym c.in-Operated.is)
          (each_of_both (λ z. IsRead m z c.args.name → ⊥) left right (subst (λ r. IsUnread m (recipe_view r) c.args.name) c.deref-in-Operated.ensures (c.reads_home-in-Operated.ensures.0 c.if-reads_home.false))
          (subst (λ r. IsUnread m (recipe_view r) c.args.name) c.deref-else-reads_home.ensures (c.reads_home-else-reads_home.ensures.0 e)))),
      (λ whole. c.reads_home-else-reads_home.ensures.1 (subst (λ r. IsUnread m (recipe_view r) c.args.name) (sym c.deref-else-reads_home.ensures)
          (λ z there. subst (λ r. IsUnread m (recipe_view r) c.args.name) c.in-Operated.is whole z (among_right left right there)))),
    ))

pub returns-then-reads_home : goal.returns-then-reads_home
returns-then-reads_home t c =
    (let m = c.args.homes.now in
    let left = names_in (recipe_view c.in-Operated.left.value) in
    let right = names_in (recipe_view c.in-Operated.right.value) in (
      (λ e. absurd (true≢false (sym c.if-reads_home.true ∙ e))),
      (λ whole. absurd (true≢false (sym c.if-reads_home.true ∙ c.reads_home-in-Operated.ensures.1 (subst (λ r. IsUnread m (recipe_view r) c.args.name) (sym c.deref-in-Operated.ensures)
          (λ z there. subst (λ r. IsUnread m (recipe_view r) c.args.name) c.in-Operated.is whole z (among_left left right there)))))),
    ))

pub returns-in-Operand : goal.returns-in-Operand
returns-in-Operand t c =
    subst (λ (r : Recipe). (c.operand_reads_home.result ≡ false) ↔ IsUnread c.args.homes.now r c.args.name) (ap recipe_view (sym c.in-Operand.is)) c.operand_reads_home.ensures
