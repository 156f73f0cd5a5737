-- Where the places of a function are, the variables that may be visible are those in scope.
use Rattle.std.proofs.Common.{◌≡◌, ℕ, suc, ◌+◌, ◌-◌, Some, Bool, true, false, List, [], ◌∷◌, ◌++◌, length, slice_get, refl, sym, ap, ◌∙◌, subst, arith, if◌then◌else◌}
use Rattle.std.specs.Prelude.{◌==◌}
use Rattle.std.proofs.lemmas.Bool.Decides.{nat_tests}
use Rattle.c_tree.specs.Programs.{TypedFunctionTree, ProgramTree}
use Rattle.c_places.specs.Flow.{reaches_end}
use Rattle.c_places.specs.Places.{Place, stop, brought_by_body, parameters_of, close_of, places_of_all, places_of_function, places_of_program, place_number_at}
use Rattle.c_meaning_steps.specs.declared.event.Frame.{Frame}
use Rattle.graph_core.specs.Graphs.{UnitForm}
use Rattle.graph_core.specs.Memory.{Memory}
use Rattle.graph_core.specs.Runs.{Activation}
use Rattle.graph_build_laws.proofs.Ascending.{AllAscend}
use Rattle.graph_build_runs.proofs.Leads.{depth_in}
use Rattle.graph_build_runs.proofs.Later.{some_same}
use Rattle.graph_build_runs.proofs.Activities.{Activity}
use Rattle.graph_build_runs.proofs.Living.{AllLive}
use Rattle.graph_build_runs.proofs.Stops.{PlaceIs}
use Rattle.graph_build_runs.proofs.Forming.{ArePlaces, places_front, places_back}
use Rattle.graph_build_laws.proofs.Stops.{scope_there, stops_behind}
use Rattle.graph_build_laws.proofs.Settings.{running, within, place_number, entry_number, place_there}

-- places by their number in a list
all_places : (k : Activity) (xs : List Place) → ((i : ℕ) (q : Place) → slice_get xs i ≡ Some q → PlaceIs k q.scope q.spot.at) → ArePlaces k xs
all_places k [] h = tt
all_places k (x ∷ xs) h = (h 0 x refl, all_places k xs (λ i q e. h (suc i) q e))

module _ (p : ProgramTree) (u : UnitForm) (f : ℕ) (tree : TypedFunctionTree) (is : slice_get p.functions f ≡ Some tree) (ascend : AllAscend (places_of_program p)) (first : ℕ) (ws : List Activation) (objects : Memory) (frames : List Frame) (left : ℕ) where
  abbrev k : Activity
  k = running p u f tree first ws objects frames left

  -- Each place behind the entry is a stop with its scope.
  place_is : (i : ℕ) (q : Place) → slice_get (places_of_function f tree) (suc i) ≡ Some q → PlaceIs k q.scope q.spot.at
  place_is i q e = record {
    there = record {
      place = q;
      is = standing;
      stops = stops_behind f tree i q e;
      scope = scope_there (places_of_program p) ascend (length (within p f tree is ascend).before + suc i) q (place_there p f tree is ascend (suc i) q e);
    };
    stops = later (place_number_at (places_of_program p) q.spot.at) (place_number_at (places_of_program p) tree.spot.at) here (entry_number p f tree is ascend);
    covers = λ r found memory h.
        (let same : r ≡ q = some_same (sym found ∙ standing) in
        subst (λ z. AllLive memory (depth_in k.setting) z.scope) (sym same) h);
  }
    where
      here : place_number_at (places_of_program p) q.spot.at ≡ length (within p f tree is ascend).before + suc i + 1
      here = place_number p f tree is ascend (suc i) q e

      standing : slice_get (places_of_program p) (place_number_at (places_of_program p) q.spot.at - 1) ≡ Some q
      standing =
          let before : place_number_at (places_of_program p) q.spot.at - 1 ≡ length (within p f tree is ascend).before + suc i = omega (arith, here) in
          ap (slice_get (places_of_program p)) before ∙ place_there p f tree is ascend (suc i) q e

      later : (a b : ℕ) → a ≡ length (within p f tree is ascend).before + suc i + 1 → b ≡ length (within p f tree is ascend).before + 0 + 1 → a == b ≡ false
      later a b x y = let less : b + suc i ≡ a = omega (arith, x, y) in grind (arith, nat_tests, less)

  abbrev body_places : List Place
  body_places = places_of_all f (parameters_of tree) tree.body

  behind_are : ArePlaces k (body_places ++ close_of f tree)
  behind_are = all_places k (body_places ++ close_of f tree) place_is

  -- The places of the body are such,
  pub body_are : ArePlaces k body_places
  body_are = places_front k body_places (close_of f tree) behind_are

  -- and so is the closing brace, where flow reaches it.
  pub close_is : reaches_end tree.body ≡ true → PlaceIs k (parameters_of tree ++ brought_by_body tree.body) tree.close.at
  close_is e = by (reaches_end tree.body) e (places_back k body_places (close_of f tree) behind_are)
    where
      by : (b : Bool) → b ≡ true → ArePlaces k (if b then stop f (parameters_of tree ++ brought_by_body tree.body) tree.close ∷ [] else []) → PlaceIs k (parameters_of tree ++ brought_by_body tree.body) tree.close.at
      by true e h = h.0
      by false e h = cc
