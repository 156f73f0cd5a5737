use Rattle.std.proofs.Common.{Some, true≢false, sym, ap, subst, ◌∙◌}
use Rattle.std.proofs.lemmas.Option.{none-some, same_Some}
use Rattle.graph_core.specs.Graphs.{Of, Name, recipe_view}
use Rattle.graph_core.specs.Paths.{front}
use Rattle.currency_notes.specs.Notes.{recipe_of, AreHeld, IsHeld}
use Rattle.currency_notes.proofs.ReadNames.{each_of_one}
use Rattle.currency_shown.proofs.found.is_shown.Goals as goal

pub returns-in-Own : goal.returns-in-Own
returns-in-Own c = (
  (λ e. (ap (λ n. recipe_of c.args.scalar n) (sym c.last_of.ensures ∙ c.in-Own.is), each_of_one (λ y. IsHeld c.args.function.now.homes c.args.state.now y) c.args.scalar (c.holds.ensures.0 e))),
  (λ shown. c.holds.ensures.1 (shown.1 c.args.scalar front)),
)

pub returns-then-is_own : goal.returns-then-is_own
returns-then-is_own c =
    (let own = c.is_own.ensures.0 c.if-is_own.true in (
      (λ e. (
        ap (λ n. recipe_of c.args.scalar n) (sym c.last_of.ensures ∙ c.in-Recipe.is) ∙ ap Some own,
        subst (λ r. AreHeld c.args.function.now.homes c.args.state.now r) own (c.holds_all.ensures.0 e),
      )),
      (λ shown. c.holds_all.ensures.1 (subst (λ r. AreHeld c.args.function.now.homes c.args.state.now r) (sym own) shown.1)),
    ))

pub returns-else-is_own : goal.returns-else-is_own
returns-else-is_own c = (
  (λ e. absurd (true≢false (sym e ∙ c.if-is_own.false))),
  (λ shown. absurd (true≢false (sym (c.is_own.ensures.1 (same_Some (recipe_view c.in-Recipe.recipe.now) (Of (Name c.args.scalar)) (sym (ap (λ n. recipe_of c.args.scalar n) (sym c.last_of.ensures ∙ c.in-Recipe.is)) ∙ shown.0))) ∙ c.if-is_own.false))),
)

pub returns-in-Lost : goal.returns-in-Lost
returns-in-Lost c = (
  (λ e. absurd (true≢false (sym e))),
  (λ shown. absurd (none-some (Of (Name c.args.scalar)) (sym (ap (λ n. recipe_of c.args.scalar n) (sym c.last_of.ensures ∙ c.in-Lost.is)) ∙ shown.0))),
)
