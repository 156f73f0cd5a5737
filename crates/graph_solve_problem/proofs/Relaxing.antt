-- What following one edge does to lists of values and counts.
use Rattle.std.proofs.Common.{◌≡◌, ℕ, ◌+◌, ◌<◌, List, Some, length, get_or, refl, sym, ap, ◌∙◌, arith}
use Rattle.std.proofs.Math.ListN.{set}
use Rattle.std.proofs.lemmas.Option.{slice_get-get_or, same_Some}
use Rattle.std.specs.Prelude.{slice_get}
use Rattle.graph_solve_problem.specs.declared.flow_graph.Edge.{Edge}
use Rattle.graph_solve_problem.specs.Numbers.{Numbers}
use Rattle.graph_solve_problem.specs.Problem.{DataFlow}
use Rattle.graph_solve_problem.specs.Rounds.{AreCounted, HasFallen}
use Rattle.graph_solve_problem.proofs.Falling.{falls_within}

-- what a read of a place within a list gives
pub read : {X : Type 0} (xs : List X) (i : ℕ) (x : X) → i < length xs → x ≡ get_or xs i x → slice_get xs i ≡ Some x
read xs i x lt e = slice_get-get_or xs i x lt ∙ ap Some (sym e)

module _ (flow : DataFlow) (edge : Edge) (values : List Numbers) (counts : List ℕ) (counted : AreCounted flow values counts) (from_in : edge.from < length values) (to_in : edge.to < length values) where
  pub has_fallen : (x y z value : Numbers) (count : ℕ) → x ≡ get_or values edge.from x → y ≡ get_or values edge.to y → z ≡ get_or values edge.to z → count ≡ get_or counts edge.to count → value ≡ flow.meet y (flow.transfer edge.from x) → (value ≡ z → ⊥) → HasFallen flow edge values counts (set values edge.to value) (set counts edge.to (count + 1))
  has_fallen x y z value count ex ey ez ec is differs =
      let y_at = read values edge.to y to_in ey in
      let y_is_z : y ≡ z = same_Some y z (sym y_at ∙ read values edge.to z to_in ez) in
      record {
        from_value = x;
        to_value = y;
        count = count;
        from_at = read values edge.from x from_in ex;
        to_at = y_at;
        count_at = read counts edge.to count (omega (arith, counted.lengths)) ec;
        differs = λ q. differs (is ∙ q ∙ y_is_z);
        falls = ap (set values edge.to) is;
        counts_it = refl;
      }

  pub count_fits : (x y z value : Numbers) (count : ℕ) → x ≡ get_or values edge.from x → y ≡ get_or values edge.to y → z ≡ get_or values edge.to z → count ≡ get_or counts edge.to count → value ≡ flow.meet y (flow.transfer edge.from x) → (value ≡ z → ⊥) → count < flow.height
  unfolding has_fallen
  count_fits x y z value count ex ey ez ec is differs =
      falls_within flow edge values counts (set values edge.to value) (set counts edge.to (count + 1)) counted (has_fallen x y z value count ex ey ez ec is differs)
