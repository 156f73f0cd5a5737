use Rattle.std.proofs.Common.{sym, ◌∙◌, true≢false}
use Rattle.graph_solve_problem.proofs.Trees.{equal, subset}
use Rattle.graph_solve_problem.proofs.facts.Facts.is_same.Goals as goal

pub returns-then-is_subset : goal.returns-then-is_subset
returns-then-is_subset c = (
  (λ r. sym c.self.view_is ∙ equal c.self.inside.numbers c.other.inside.numbers (c.is_subset.ensures.0 c.if-is_subset.true) (c.is_subset-then-is_subset.ensures.0 r) ∙ c.other.view_is),
  (λ e. c.is_subset-then-is_subset.ensures.1 (subset c.other.inside.numbers c.self.inside.numbers (c.other.view_is ∙ sym e ∙ sym c.self.view_is))),
)

pub returns-else-is_subset : goal.returns-else-is_subset
returns-else-is_subset c = (
  (λ r. absurd (true≢false (sym r ∙ c.if-is_subset.false))),
  (λ e. c.is_subset.ensures.1 (subset c.self.inside.numbers c.other.inside.numbers (c.self.view_is ∙ e ∙ sym c.other.view_is))),
)
