use Rattle.std.proofs.Common.{ap, nat_cmp, ◌∙◌}
use Rattle.std.specs.FinSet.{difference, from_list}
use Rattle.graph_solve_problem.proofs.Trees.{left_over, clones_equal}
use Rattle.graph_solve_problem.proofs.facts.Facts.difference.Goals as goal

pub returns : goal.returns
returns c = let found = c.in_ok-numbers.ensures in
    left_over c.self.inside.numbers c.other.inside.numbers c.in_ok-numbers.numbers (found.4 clones_equal) ∙ ap (λ s. difference s (from_list {R = nat_cmp} c.other.inside.numbers.keys)) c.self.view_is ∙ ap (λ t. difference c.args.self.now t) c.other.view_is
