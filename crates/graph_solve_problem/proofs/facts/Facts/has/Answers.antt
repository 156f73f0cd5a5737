use Rattle.std.proofs.Common.{ap, sym, ◌∙◌}
use Rattle.std.specs.FinSet.{contains}
use Rattle.graph_solve_problem.proofs.Trees.{seen}
use Rattle.graph_solve_problem.proofs.facts.Facts.has.Goals as goal

pub returns : goal.returns
returns c = c.contains.ensures ∙ sym (seen c.self.inside.numbers c.args.number) ∙ ap (λ s. contains s c.args.number) c.self.view_is
