use Rattle.std.proofs.Common.{ap, nat_cmp, ◌∙◌}
use Rattle.std.specs.FinSet.{intersection, from_list}
use Rattle.graph_solve_problem.proofs.Trees.{shared, clones_equal}
use Rattle.graph_solve_problem.proofs.facts.Facts.intersection.Goals as goal

pub returns : goal.returns
returns c = let found = c.in_ok-numbers.ensures in
    shared c.self.inside.numbers c.other.inside.numbers c.in_ok-numbers.numbers (found.4 clones_equal) ∙ ap (λ s. intersection s (from_list {R = nat_cmp} c.other.inside.numbers.keys)) c.self.view_is ∙ ap (λ t. intersection c.args.self.now t) c.other.view_is
