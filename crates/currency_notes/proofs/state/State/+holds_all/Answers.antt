use Rattle.std.proofs.Common.{◌≡◌, ap, true, true≢false, subst, sym, ◌∙◌}
use Rattle.std.specs.Prelude.{◌↔◌}
use Rattle.graph_core.specs.Graphs.{Recipe, recipe_view}
use Rattle.graph_core.specs.Uses.{names_in}
use Rattle.currency_notes.specs.Notes.{AreHeld, IsHeld}
use Rattle.currency_notes.proofs.Lists.{among_left, among_right}
use Rattle.currency_notes.proofs.ReadNames.{each_of_both}
use Rattle.currency_notes.proofs.state.State.+holds_all.Goals as goal

pub returns-then-holds_all : goal.returns-then-holds_all
returns-then-holds_all t c =
    (let m = c.args.function.now.homes in
    let s = c.args.self.now in
    let left = names_in (recipe_view c.in-Operated.left.value) in
    let right = names_in (recipe_view c.in-Operated.right.value) in (
      (λ e. subst (λ r. AreHeld m s (recipe_view r)) (sym c.in-Operated.is)
          (each_of_both (λ z. IsHeld m s z) left right (subst (λ r. AreHeld m s (recipe_view r)) c.deref-in-Operated.ensures (c.holds_all-in-Operated.ensures.0 c.if-holds_all.true))
          (subst (λ r. AreHeld m s (recipe_view r)) c.deref-then-holds_all.ensures (c.holds_all-then-holds_all.ensures.0 e)))),
      (λ whole. c.holds_all-then-holds_all.ensures.1 (subst (λ r. AreHeld m s (recipe_view r)) (sym c.deref-then-holds_all.ensures)
          (λ z there. subst (λ r. AreHeld m s (recipe_view r)) c.in-Operated.is whole z (among_right left right there)))),
    ))

pub returns-else-holds_all : goal.returns-else-holds_all
returns-else-holds_all t c =
    (let m = c.args.function.now.homes in
    let s = c.args.self.now in
    let left = names_in (recipe_view c.in-Operated.left.value) in
    let right = names_in (recipe_view c.in-Operated.right.value) in (
      (λ e. absurd (true≢false (sym e ∙ c.if-holds_all.false))),
      (λ whole. absurd (true≢false (sym (c.holds_all-in-Operated.ensures.1 (subst (λ r. AreHeld m s (recipe_view r)) (sym c.deref-in-Operated.ensures)
          (λ z there. subst (λ r. AreHeld m s (recipe_view r)) c.in-Operated.is whole z (among_left left right there)))) ∙ c.if-holds_all.false))),
    ))

pub returns-in-Operand : goal.returns-in-Operand
returns-in-Operand t c =
    subst (λ (r : Recipe). (c.holds_operand.result ≡ true) ↔ AreHeld c.args.function.now.homes c.args.self.now r) (ap recipe_view (sym c.in-Operand.is)) c.holds_operand.ensures
