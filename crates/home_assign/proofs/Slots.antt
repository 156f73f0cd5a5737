-- Where each name has a slot of its own, no two names share a home, and each home holds the value of its name.
use Rattle.std.proofs.Common.{◌≡◌, ◌≢◌, ℕ, ◌<◌, inl, false, ap, ◌∙◌, Some, List, [], ◌∷◌}
use Rattle.std.specs.Prelude.{slice_get}
use Rattle.std.proofs.lemmas.Bool.{ne_eqb}
use Rattle.event_runs.specs.Agreement.{Pairs}
use Rattle.graph_homes.specs.declared.home.Home.TheVariants.{Slot}
use Rattle.graph_homes.specs.Homes.{is_same_home}
use Rattle.graph_core.specs.Graphs.{Graph}
use Rattle.graph_core.specs.Runs.{Activation, Configuration}
use Rattle.graph_homes.specs.Homed.{HomedForm, home_of}
use Rattle.home_assign.specs.Rule.{HaveSlots, HaveHomesApart}
use Rattle.home_assign.specs.Alike.{IsAlone, IsSameHere, IsSameWaiting, AreSame, HoldsAll, HoldAll}

module _ (h : HomedForm) (slots : HaveSlots h) where
  differ : (f : ℕ) (g : Graph) → slice_get h.unit.graphs f ≡ Some g → (x y : ℕ) → x < g.name_count → y < g.name_count → x ≢ y → is_same_home (home_of h f x) (home_of h f y) ≡ false
  differ f g is x y p q ne = ap (λ k. is_same_home k (home_of h f y)) (slots f g is x p) ∙ ap (λ k. is_same_home (Slot x) k) (slots f g is y q) ∙ ne_eqb x y ne

  pub slots_apart : HaveHomesApart h
  slots_apart f g is x y p q pair = differ f g is x y p q pair.0

  pub slots_alone : (f : ℕ) (g : Graph) → slice_get h.unit.graphs f ≡ Some g → (x : ℕ) → x < g.name_count → IsAlone h f g x
  slots_alone f g is x p y q ne = differ f g is y x q p ne

  all_here : (a b : Activation) → IsSameHere h a b → HoldsAll h a b
  all_here a b same x lt = same.1 x lt (inl (slots_alone a.function a.graph same.0.of x lt))

  all_waiting : (xs ys : List Activation) → Pairs (IsSameWaiting h) xs ys → Pairs (HoldsAll h) xs ys
  all_waiting [] [] all = tt
  all_waiting [] (y ∷ ys) all = absurd all
  all_waiting (x ∷ xs) [] all = absurd all
  all_waiting (x ∷ xs) (y ∷ ys) all = ((λ n lt. all.0.1 n lt (inl (slots_alone x.function x.graph all.0.0.of n lt))), all_waiting xs ys all.1)

  pub slots_hold : (c d : Configuration) → AreSame h c d → HoldAll h c d
  slots_hold c d same = record { here = all_here c.here d.here same.here; waiting = all_waiting c.waiting d.waiting same.waiting }
