use Rattle.std.proofs.Common.{true≢false, sym, ap, subst, ◌∙◌}
use Rattle.std.proofs.lemmas.Option.{none-some, same_Some}
use Rattle.graph_core.specs.Graphs.{Of, Name, recipe_view}
use Rattle.currency_notes.specs.Notes.{recipe_of, told_of, AreHeld}
use Rattle.currency_shown.proofs.found.last_note.Goals as goal

pub returns-then-is_own : goal.returns-then-is_own
returns-then-is_own c = λ r said held.
    (let one = same_Some (recipe_view c.in-Recipe.recipe.now) r (sym (ap (λ n. recipe_of c.args.scalar n) (sym c.last_of.ensures ∙ c.in-Recipe.is)) ∙ said) in
    sym one ∙ c.is_own.ensures.0 c.if-is_own.true)

pub returns-then-holds_all : goal.returns-then-holds_all
returns-then-holds_all c = (
  ap (λ n. recipe_of c.args.scalar n) (sym c.last_of.ensures ∙ c.in-Recipe.is),
  c.holds_all.ensures.0 c.if-holds_all.true,
  (λ own. true≢false (sym (c.is_own.ensures.1 own) ∙ c.if-is_own.false)),
  ap told_of (sym c.last_of.ensures ∙ c.in-Recipe.is),
)

pub returns-else-holds_all : goal.returns-else-holds_all
returns-else-holds_all c = λ r said held.
    (let one = same_Some (recipe_view c.in-Recipe.recipe.now) r (sym (ap (λ n. recipe_of c.args.scalar n) (sym c.last_of.ensures ∙ c.in-Recipe.is)) ∙ said) in
    absurd (true≢false (sym (c.holds_all.ensures.1 (subst (λ q. AreHeld c.args.function.now.homes c.args.state.now q) (sym one) held)) ∙ c.if-holds_all.false)))

pub returns-in-Lost : goal.returns-in-Lost
returns-in-Lost c = λ r said held. absurd (none-some r (sym (ap (λ n. recipe_of c.args.scalar n) (sym c.last_of.ensures ∙ c.in-Lost.is)) ∙ said))

pub returns-in-Own : goal.returns-in-Own
returns-in-Own c = λ r said held. sym (same_Some (Of (Name c.args.scalar)) r (sym (ap (λ n. recipe_of c.args.scalar n) (sym c.last_of.ensures ∙ c.in-Own.is)) ∙ said))
