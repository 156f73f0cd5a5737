use Rattle.std.proofs.Common.{ap, ◌∙◌}
use Rattle.std.specs.FinSet.{remove}
use Rattle.graph_solve_problem.proofs.Trees.{removed}
use Rattle.graph_solve_problem.proofs.facts.Facts.remove.Goals as goal

pub returns : goal.returns
returns c = removed c.self.inside.numbers c.remove-was_there.new.self c.args.number c.remove-was_there.ensures.updates.0 ∙ ap (λ s. remove s c.args.number) c.self.view_is
