use Rattle.std.proofs.Common.{ap, ◌∙◌}
use Rattle.std.specs.FinSet.{insert}
use Rattle.graph_solve_problem.proofs.Trees.{added}
use Rattle.graph_solve_problem.proofs.facts.Facts.add.Goals as goal

pub returns-clause-added : goal.returns-clause-added
returns-clause-added c = added c.self.inside.numbers c.insert.new.self c.args.number c.in_ok-insert.ensures.updates.0 ∙ ap (λ s. insert s c.args.number) c.self.view_is
