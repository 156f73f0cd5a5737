use Rattle.std.proofs.Common.{ap, sym, subst, ◌∙◌}
use Rattle.graph_core.specs.Graphs.{Recipe, note_view, recipe_view}
use Rattle.graph_core.specs.Paths.{Among}
use Rattle.graph_core.specs.Uses.{names_in}
use Rattle.currency_notes.proofs.Numbering.{same_recipe}
use Rattle.currency_notes.proofs.homes.Homes.add_value.Goals as goal

pub returns-in_ok-add_names-in-Is-clause-read : goal.returns-in_ok-add_names-in-Is-clause-read
returns-in_ok-add_names-in-Is-clause-read c = λ orderly r said y among.
    (let one = same_recipe (recipe_view c.in-Is.recipe) r (ap note_view (sym c.in-Is.is) ∙ said) in
    c.in_ok-add_names-in-Is.ensures.read orderly y (subst (λ l. Among y l) (sym (c.deref.ensures.value ∙ c.in_ok-names-in-Is.ensures)) (subst (λ (q : Recipe). Among y (names_in q)) (sym one) among)))
