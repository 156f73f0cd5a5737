-- A problem of data flow for tests: whether each path passed block 1, and not block 2 since then. That is the fact 0.
use Rattle.std.proofs.Common.{nat_cmp, ◌≡◌, ℕ, ◌<◌, Bool, true, false, refl, ap, ◌∙◌}
use Rattle.std.specs.Prelude.{◌||◌, ◌&&◌, ◌==◌, not, cond}
use Rattle.std.specs.Cmp.{nat_cmp_total}
use Rattle.std.specs.FinSet.{empty, contains, union, difference, contains-empty, contains-union, contains-difference}
use Rattle.graph_solve_problem.specs.Numbers.{Numbers, IsBelow, numbers_below, made_of}
use Rattle.graph_solve_problem.specs.Problem.{DataFlow}
use Rattle.graph_solve_problem.specs.SetLaws.{below_empty, below_made, in_below, made_of_both, not_below}
use Rattle.graph_solve_problem.specs.SetProblems.{every_path}

-- the fact, or none
abbrev pub fact_if : Bool → Numbers
fact_if is = cond is (numbers_below 1) empty

-- facts of this kind are below 1
pub below_one : (is : Bool) → IsBelow 1 (fact_if is)
below_one true = not_below 1
below_one false = below_empty 1

-- the fact is in the set where there is one
has_fact : (is : Bool) (fact : ℕ) → fact < 1 → contains (fact_if is) fact ≡ is
has_fact true fact below = in_below 1 fact below
has_fact false fact below = contains-empty nat_cmp fact

either : (made given lost : Bool) → (made || (given && not lost)) ≡ ((given && not lost) || made)
either true true true = refl
either true true false = refl
either true false lost = refl
either false true true = refl
either false true false = refl
either false false lost = refl

-- what a block makes and keeps, fact by fact
pub moves : (block : ℕ) (given : Numbers) (fact : ℕ) → fact < 1
    → contains (made_of (fact_if (block == 1)) (fact_if (block == 2)) given) fact
    ≡ ((contains given fact && not (block == 2)) || (block == 1))
moves block given fact below =
    contains-union nat_cmp_total (fact_if (block == 1)) (difference given (fact_if (block == 2))) fact
    ∙ ap (λ b. contains (fact_if (block == 1)) fact || b)
    (contains-difference nat_cmp_total given (fact_if (block == 2)) fact)
    ∙ ap (λ b. contains (fact_if (block == 1)) fact || (contains given fact && not b))
    (has_fact (block == 2) fact below)
    ∙ ap (λ b. b || (contains given fact && not (block == 2))) (has_fact (block == 1) fact below)
    ∙ either (block == 1) (contains given fact) (block == 2)

-- the problem: block 1 makes the fact, and block 2 loses it
abbrev pub passed_flow : (forward : Bool) → DataFlow
passed_flow forward =
    every_path forward 1 empty (λ block given. made_of (fact_if (block == 1)) (fact_if (block == 2)) given)
    (below_empty 1)
    (λ block given below. below_made 1 (fact_if (block == 1)) (fact_if (block == 2)) given (below_one (block == 1))
    below)
    (λ block s t. made_of_both (fact_if (block == 1)) (fact_if (block == 2)) s t)
    (λ block fact. not (block == 2)) (λ block fact. block == 1)
    (λ block given _ fact below. moves block given fact below)
