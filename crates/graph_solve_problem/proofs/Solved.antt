-- What the solver's parts come to.
use Rattle.std.proofs.Common.{◌≡◌, ℕ, true, false, List, length, get_or, sym, ap, ◌∙◌, subst}
use Rattle.std.proofs.Math.ListN.{length-set}
use Rattle.std.proofs.lemmas.Option.{slice_get-get_or}
use Rattle.graph_solve_problem.specs.declared.flow_graph.Edge.{Edge}
use Rattle.graph_solve_problem.specs.Numbers.{Numbers}
use Rattle.graph_solve_problem.specs.Problem.{DataFlow}
use Rattle.graph_solve_problem.specs.Paths.{ControlFlow}
use Rattle.graph_solve_problem.specs.Solution.{AreMet, AreMetBySides, IsSolution}
use Rattle.graph_solve_problem.specs.Rounds.{AreCounted, AreMade, AreValues, Follows, rests, relaxes}
use Rattle.graph_solve_problem.proofs.Falling.{met_behind}

module _ (flow : DataFlow) where
  pub follows_size : (edges : List Edge) (values : List Numbers) (counts : List ℕ) {new_values : List Numbers} {new_counts : List ℕ} → Follows flow edges values counts new_values new_counts → length new_values ≡ length values
  follows_size edges values counts rests = λ i. length values
  follows_size edges values counts (relaxes {mid_values} {mid_counts} edge before has fall) =
      ap length fall.falls ∙ length-set mid_values edge.to (flow.meet fall.to_value (flow.transfer edge.from fall.from_value)) ∙ follows_size edges values counts before

  pub all_values : (values : List Numbers) (counts : List ℕ) → AreCounted flow values counts → AreValues flow values
  all_values values counts counted k d lt = counted.value k (get_or values k d) (slice_get-get_or values k d lt)

  module _ (control : ControlFlow) (blocks : ℕ) (values made : List Numbers) (each : length values ≡ blocks) (met : AreMet flow control values) (are_made : AreMade flow values (length values) made) where
    pub solved_forward : flow.forward ≡ true → IsSolution flow control blocks values made
    solved_forward is = record {
      starts_each = each;
      ends_each = are_made.each ∙ each;
      met = subst (λ forward. AreMetBySides flow control forward values made) (sym is) (met, met_behind flow control values made met are_made);
    }

    pub solved_backward : flow.forward ≡ false → IsSolution flow control blocks made values
    solved_backward is = record {
      starts_each = are_made.each ∙ each;
      ends_each = each;
      met = subst (λ forward. AreMetBySides flow control forward made values) (sym is) (met, met_behind flow control values made met are_made);
    }
