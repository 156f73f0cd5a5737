-- Problems of sets of numbers below a width: which numbers are there on some path, and which on every path.
use Rattle.std.specs.Prelude.{◌≡◌, ℕ, ◌<◌, ◌||◌, ◌&&◌, Bool, true, false}
use Rattle.std.specs.FinSet.{contains, empty, intersection, union}
use Rattle.graph_solve_problem.specs.Numbers.{Numbers, IsBelow, numbers_below}
use Rattle.graph_solve_problem.specs.Problem.{DataFlow}
use Rattle.graph_solve_problem.specs.SetLaws.{union_comm, union_assoc, union_same, union_empty, both_comm, both_assoc, both_same, both_all, in_union, in_both, bounded_union, bounded_both, below_empty, below_union, below_both, not_below}

-- On some path: what is left where paths meet is the union, and what begins anywhere begins with no number.
abbrev pub some_path : (forward : Bool) (width : ℕ) (edge : Numbers) (transfer : ℕ → Numbers → Numbers)
    → IsBelow width edge → ((block : ℕ) (x : Numbers) → IsBelow width x → IsBelow width (transfer block x)) →
    ((block : ℕ) (x y : Numbers) → transfer block (union x y) ≡ union (transfer block x) (transfer block y)) →
    (kept written : ℕ → ℕ → Bool)
    →
    ((block : ℕ) (x : Numbers) → IsBelow width x → (fact : ℕ) → fact < width
    → contains (transfer block x) fact ≡ ((contains x fact && kept block fact) || written block fact))
    → DataFlow
some_path forward width edge transfer below_edge below distributes kept written moves = record {
  IsValue = IsBelow width;
  forward = forward;
  height = width;
  edge = edge;
  top = empty;
  meet = union;
  transfer = transfer;
  width = width;
  unites = true;
  kept = kept;
  written = written;
  values = λ x. ((λ v. v), (λ v. v));
  meets = λ x y _ _ fact. in_union x y fact;
  moves = moves;
  edge_value = below_edge;
  top_value = below_empty width;
  meet_value = below_union width;
  transfer_value = below;
  commutes = λ x y _ _. union_comm x y;
  associates = λ x y z _ _ _. union_assoc x y z;
  repeats = λ x _. union_same x;
  neutral = λ x _. union_empty x;
  distributes = λ block x y _ _. distributes block x y;
  bounded = bounded_union width;
}

-- On every path: what is left where paths meet is the intersection, and what begins anywhere begins with all numbers
-- below the width.
abbrev pub every_path : (forward : Bool) (width : ℕ) (edge : Numbers) (transfer : ℕ → Numbers → Numbers)
    → IsBelow width edge → ((block : ℕ) (x : Numbers) → IsBelow width x → IsBelow width (transfer block x)) →
    ((block : ℕ) (x y : Numbers)
    → transfer block (intersection x y) ≡ intersection (transfer block x) (transfer block y))
    →
    (kept written : ℕ → ℕ → Bool)
    →
    ((block : ℕ) (x : Numbers) → IsBelow width x → (fact : ℕ) → fact < width
    → contains (transfer block x) fact ≡ ((contains x fact && kept block fact) || written block fact))
    → DataFlow
every_path forward width edge transfer below_edge below distributes kept written moves = record {
  IsValue = IsBelow width;
  forward = forward;
  height = width;
  edge = edge;
  top = numbers_below width;
  meet = intersection;
  transfer = transfer;
  width = width;
  unites = false;
  kept = kept;
  written = written;
  values = λ x. ((λ v. v), (λ v. v));
  meets = λ x y _ _ fact. in_both x y fact;
  moves = moves;
  edge_value = below_edge;
  top_value = not_below width;
  meet_value = below_both width;
  transfer_value = below;
  commutes = λ x y _ _. both_comm x y;
  associates = λ x y z _ _ _. both_assoc x y z;
  repeats = λ x _. both_same x;
  neutral = both_all width;
  distributes = λ block x y _ _. distributes block x y;
  bounded = bounded_both width;
}
