use Rattle.std.proofs.Common.{◌≡◌, ap, true, true≢false, subst, sym, ◌∙◌}
use Rattle.std.specs.Prelude.{◌↔◌}
use Rattle.graph_core.specs.Graphs.{Recipe, recipe_view}
use Rattle.graph_core.specs.Uses.{names_in}
use Rattle.currency_notes.specs.Homes.{AreReadBy, IsReadBy}
use Rattle.currency_notes.proofs.Lists.{among_left, among_right}
use Rattle.currency_notes.proofs.ReadNames.{each_of_both}
use Rattle.currency_notes.proofs.recipes.+is_reader.Goals as goal

pub returns-then-is_reader : goal.returns-then-is_reader
returns-then-is_reader t c =
    (let m = c.args.homes.now in
    let left = names_in (recipe_view c.in-Operated.left.value) in
    let right = names_in (recipe_view c.in-Operated.right.value) in (
      (λ e. subst (λ r. AreReadBy m (recipe_view r) c.args.scalar) (sym c.in-Operated.is)
          (each_of_both (λ z. IsReadBy m z c.args.scalar) left right (subst (λ r. AreReadBy m (recipe_view r) c.args.scalar) c.deref-in-Operated.ensures (c.is_reader-in-Operated.ensures.0 c.if-is_reader.true))
          (subst (λ r. AreReadBy m (recipe_view r) c.args.scalar) c.deref-then-is_reader.ensures (c.is_reader-then-is_reader.ensures.0 e)))),
      (λ whole. c.is_reader-then-is_reader.ensures.1 (subst (λ r. AreReadBy m (recipe_view r) c.args.scalar) (sym c.deref-then-is_reader.ensures)
          (λ z there. subst (λ r. AreReadBy m (recipe_view r) c.args.scalar) c.in-Operated.is whole z (among_right left right there)))),
    ))

pub returns-else-is_reader : goal.returns-else-is_reader
returns-else-is_reader t c =
    (let m = c.args.homes.now in
    let left = names_in (recipe_view c.in-Operated.left.value) in
    let right = names_in (recipe_view c.in-Operated.right.value) in (
      (λ e. absurd (true≢false (sym e ∙ c.if-is_reader.false))),
      (λ whole. absurd (true≢false (sym (c.is_reader-in-Operated.ensures.1 (subst (λ r. AreReadBy m (recipe_view r) c.args.scalar) (sym c.deref-in-Operated.ensures)
          (λ z there. subst (λ r. AreReadBy m (recipe_view r) c.args.scalar) c.in-Operated.is whole z (among_left left right there)))) ∙ c.if-is_reader.false))),
    ))

pub returns-in-Truncated : goal.returns-in-Truncated
returns-in-Truncated t c = (
  (λ e. subst (λ r. AreReadBy c.args.homes.now (recipe_view r) c.args.scalar) (sym c.in-Truncated.is) (subst (λ r. AreReadBy c.args.homes.now (recipe_view r) c.args.scalar) c.deref.ensures (c.is_reader.ensures.0 e))),
  (λ all. c.is_reader.ensures.1 (subst (λ r. AreReadBy c.args.homes.now (recipe_view r) c.args.scalar) (sym c.deref.ensures) (subst (λ r. AreReadBy c.args.homes.now (recipe_view r) c.args.scalar) c.in-Truncated.is all))),
)

pub returns-in-Operand : goal.returns-in-Operand
returns-in-Operand t c =
    subst (λ (r : Recipe). (c.is_operand_reader.result ≡ true) ↔ AreReadBy c.args.homes.now r c.args.scalar) (ap recipe_view (sym c.in-Operand.is)) c.is_operand_reader.ensures
