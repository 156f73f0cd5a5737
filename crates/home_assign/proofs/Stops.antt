-- What a stop of the unit shows of scalars, and the homes of the unit over homes at the same stop.
use Rattle.std.proofs.Common.{◌≡◌, ℕ, zero, suc, ◌+◌, ◌<◌, ◌∙◌, ap, arith, Some, length, map}
use Rattle.std.specs.Prelude.{slice_get}
use Rattle.graph_homes.specs.Homes.{HoldsOnAllPaths}
use Rattle.graph_core.specs.declared.value.Shadow.{Shadow}
use Rattle.graph_core.specs.declared.value.Shadow.TheVariants as shadow
use Rattle.graph_core.specs.Graphs.{Recipe, Of, Name}
use Rattle.graph_core.specs.Runs.{Activation, frame, numbers_from}
use Rattle.graph_homes.specs.Homed.{HomedForm, home_of}
use Rattle.home_assign.specs.Alike.{held_in, shown_value, AreShown}

numbered : (shadows : ℕ → Shadow) (from count k : ℕ) → k < count → slice_get (map shadows (numbers_from from count)) k ≡ Some (shadows (from + k))
numbered shadows from zero k lt = absurd (omega (arith, lt))
numbered shadows from (suc count) zero lt = let e : from ≡ from + 0 = omega arith in ap (λ n. Some (shadows n)) e
numbered shadows from (suc count) (suc k) lt = let e : from + 1 + k ≡ from + suc k = omega arith in numbered shadows (from + 1) count k (omega (arith, lt)) ∙ ap (λ n. Some (shadows n)) e

-- the shadow of a scalar stands in the frame of its activation
pub in_frame : (a : Activation) (x : ℕ) → x < length a.graph.scalars → slice_get (frame a).shadows x ≡ Some (a.shadows x)
in_frame a x lt = let e : 0 + x ≡ x = omega arith in numbered a.shadows 0 (length a.graph.scalars) x lt ∙ ap (λ n. Some (a.shadows n)) e

module _ (h : HomedForm) (a b : Activation) (shown : AreShown h a b) where
  -- Where a recipe holds on all paths to the place of a stop, the stop shows its value over homes.
  pub recipe_shown : (x : ℕ) (r : Recipe) → x < length a.graph.scalars → HoldsOnAllPaths (home_of h a.function) a.graph a.place x r → slice_get (frame a).shadows x ≡ Some (shadow.Known (shown_value h a.function b.names r))
  recipe_shown x r lt on_all = in_frame a x lt ∙ ap (λ s. Some s) (shown x r on_all).0

  -- Where that is the scalar's own value, the stop shows what its home holds.
  pub home_shown : (x : ℕ) → x < length a.graph.scalars → HoldsOnAllPaths (home_of h a.function) a.graph a.place x (Of (Name x)) → slice_get (frame a).shadows x ≡ Some (shadow.Known (held_in h a.function b.names x))
  home_shown x lt on_all = recipe_shown x (Of (Name x)) lt on_all
