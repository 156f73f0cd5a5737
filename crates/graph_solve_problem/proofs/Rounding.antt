-- One turn of a round.
use Rattle.std.proofs.Common.{◌≡◌, ℕ, ◌+◌, ◌<◌, ◌≤◌, Bool, true, false, true≢false, List, length, get_or, sym, ◌∙◌, subst, arith}
use Rattle.std.specs.List.{AllWithin}
use Rattle.std.proofs.lemmas.List.{get_or_default}
use Rattle.std.proofs.lemmas.List.Elements.{AllWithin-more, Contains-get_or}
use Rattle.graph_solve_problem.specs.declared.flow_graph.Edge.{Edge}
use Rattle.graph_solve_problem.specs.Numbers.{Numbers}
use Rattle.graph_solve_problem.specs.Problem.{DataFlow}
use Rattle.graph_solve_problem.specs.Rounds.{AreCounted, HasFallen, Follows, relaxes, IsSettled, falls_left}
use Rattle.graph_solve_problem.proofs.Falling.{still_counted, as_long, fewer_left}

module _ (flow : DataFlow) (height : ℕ) (edges : List Edge) (first_values : List Numbers) (first_counts : List ℕ) where
  -- what holds when so many edges were followed
  pub record IsUnderWay (index : ℕ) (changed : Bool) (values : List Numbers) (counts : List ℕ) : Type 0 where
    pub counted : AreCounted flow values counts
    pub follows : Follows flow edges first_values first_counts values counts
    pub size : length values ≡ length first_values
    pub settled : changed ≡ false → AllWithin (IsSettled flow values) edges 0 index
    pub not_more : falls_left height counts ≤ falls_left height first_counts
    pub fell : changed ≡ true → falls_left height counts < falls_left height first_counts

  module _ (is_height : height ≡ flow.height) (index : ℕ) (none : Edge) (inside : index < length edges) (changed : Bool) (values : List Numbers) (counts : List ℕ) (new_values : List Numbers) (new_counts : List ℕ) (before : IsUnderWay index changed values counts) where
    pub fell_more : HasFallen flow (get_or edges index none) values counts new_values new_counts → IsUnderWay (index + 1) true new_values new_counts
    fell_more fall =
        let edge = get_or edges index none in
        let fewer : falls_left height new_counts < falls_left height counts = subst (λ h. falls_left h new_counts < falls_left h counts) (sym is_height) (fewer_left flow edge values counts new_values new_counts before.counted fall) in
        record {
          counted = still_counted flow edge values counts new_values new_counts before.counted fall;
          follows = relaxes edge before.follows (Contains-get_or edges index none inside) fall;
          size = as_long flow edge values counts new_values new_counts before.counted fall ∙ before.size;
          settled = λ q. absurd (true≢false q);
          not_more = omega (arith, fewer, before.not_more);
          fell = λ q. omega (arith, fewer, before.not_more);
        }

    pub rested_more : new_values ≡ values → new_counts ≡ counts → IsSettled flow values (get_or edges index none) → IsUnderWay (index + 1) changed new_values new_counts
    rested_more same_values same_counts settled =
        subst (λ vs. IsUnderWay (index + 1) changed vs new_counts) (sym same_values) (subst (λ cs. IsUnderWay (index + 1) changed values cs) (sym same_counts) (record {
          counted = before.counted;
          follows = before.follows;
          size = before.size;
          settled = λ q. AllWithin-more (IsSettled flow values) edges 0 index (before.settled q) (λ d. subst (IsSettled flow values) (get_or_default edges index none d inside) settled);
          not_more = before.not_more;
          fell = before.fell;
        }))
