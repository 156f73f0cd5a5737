-- The unit that is built of a program has the program's places.
use Rattle.std.proofs.Common.{◌≡◌, ℕ, zero, suc, ◌+◌, ◌-◌, inl, inr, Some, List, [], ◌∷◌, ◌++◌, length, map, slice_get, refl, sym, ap, ◌∙◌, subst, arith}
use Rattle.std.proofs.lemmas.Bool.{cases_lt}
use Rattle.std.proofs.lemmas.Option.{none-some, same_Some}
use Rattle.c_tree.specs.Programs.{ProgramTree, TypedFunctionTree}
use Rattle.c_places.specs.Places.{Place, place_number_at, places_of_function, places_of_functions, places_of_program}
use Rattle.c_type_laws.specs.Laws.{IsWellFormed}
use Rattle.graph_core.specs.Graphs.{Graph, UnitForm}
use Rattle.graph_core.specs.Paths.{Among, front, behind}
use Rattle.graph_core.specs.Validity.{markers_of_blocks}
use Rattle.graph_build.specs.Units.{IsUnitOf}
use Rattle.graph_build_laws.proofs.Accepted as accepted
use Rattle.graph_build_laws.proofs.Markers.{graph_markers}
use Rattle.image_truth_units.specs.Units.{HasVariablesIn}
use Rattle.image_truth_units.proofs.ImageUnitsWhole.{has_variables, of_graph}
use Rattle.image_truth_units.specs.ImageRulesUnits.{HasOwnPlaces}
use Rattle.image_truth_units.proofs.Accepted.{facts_of}
use Rattle.image_truth_units.proofs.Flow.{behind_there, front_there}
use Rattle.image_truth_units.proofs.Lists.{from_map, map_at}
use Rattle.image_truth_units.proofs.ProgramPlaces.{behind_is, front_is, numbered_at, own_function}
use Rattle.graph_core.proofs.Among.{among_at}

at_among : {A : Type 0} (all : List A) (x : A) (k : ℕ) → slice_get all k ≡ Some x → Among x all
at_among [] x k is = absurd (none-some x is)
at_among (y ∷ all) x zero is = subst (λ z. Among z (y ∷ all)) (same_Some y x is) front
at_among (y ∷ all) x (suc k) is = behind (at_among all x k is)

-- A place of functions is one of its function's.
record IsOwn (number : ℕ) (all : List TypedFunctionTree) (q : Place) : Type 0 where
  pub index : ℕ
  pub tree : TypedFunctionTree
  pub is : slice_get all index ≡ Some tree
  pub function_is : q.function ≡ number + index
  pub place : ℕ
  pub at : slice_get (places_of_function (number + index) tree) place ≡ Some q

own_of : (number : ℕ) (all : List TypedFunctionTree) (i : ℕ) (q : Place) → slice_get (places_of_functions number all) i ≡ Some q → IsOwn number all q
own_of number [] i q is = absurd (none-some q is)
own_of number (f ∷ all) i q is = elim (cases_lt i (length (places_of_function number f))) [
  | inl low ↦
      let here : number ≡ number + 0 = omega arith in
      let at = sym (front_is (places_of_function number f) (places_of_functions (number + 1) all) i low) ∙ is in
      record { index = 0; tree = f; is = refl; function_is = own_function number i f q at ∙ here; place = i; at = ap (λ n. slice_get (places_of_function n f) i) (sym here) ∙ at }
  | inr high ↦
      let k = i - length (places_of_function number f) in
      let same : length (places_of_function number f) + (i - length (places_of_function number f)) ≡ i = omega (arith, high) in
      later (own_of (number + 1) all k q (sym (behind_is (places_of_function number f) (places_of_functions (number + 1) all) k) ∙ ap (slice_get (places_of_function number f ++ places_of_functions (number + 1) all)) same ∙ is))
]
  where
    later : IsOwn (number + 1) all q → IsOwn number (f ∷ all) q
    later own =
        let here : number + 1 + own.index ≡ number + suc own.index = omega arith in
        record { index = suc own.index; tree = own.tree; is = own.is; function_is = own.function_is ∙ here; place = own.place; at = ap (λ n. slice_get (places_of_function n own.tree) own.place) (sym here) ∙ own.at }

-- and each of a function's places is one of them
among_all : (number : ℕ) (all : List TypedFunctionTree) (k j : ℕ) (tree : TypedFunctionTree) (q : Place) → slice_get all k ≡ Some tree → slice_get (places_of_function (number + k) tree) j ≡ Some q → (i : ℕ) × (slice_get (places_of_functions number all) i ≡ Some q)
among_all number [] k j tree q is at = absurd (none-some tree is)
among_all number (f ∷ all) zero j tree q is at =
    let here : number + 0 ≡ number = omega arith in
    (j, front_there (places_of_function number f) (places_of_functions (number + 1) all) j q (ap (λ n. slice_get (places_of_function n f) j) (sym here) ∙ ap (λ (x : TypedFunctionTree). slice_get (places_of_function (number + 0) x) j) (same_Some f tree is) ∙ at))
among_all number (f ∷ all) (suc k) j tree q is at =
    let here : number + suc k ≡ number + 1 + k = omega arith in
    let r = among_all (number + 1) all k j tree q is (ap (λ n. slice_get (places_of_function n tree) j) (sym here) ∙ at) in
    behind_there (places_of_function number f) (places_of_functions (number + 1) all) r.0 q r.1

module _ (p : ProgramTree) (formed : IsWellFormed p) (u : UnitForm) (built : IsUnitOf p u) where
  numbers : (k : ℕ) (q : Place) → slice_get (places_of_program p) k ≡ Some q → place_number_at (places_of_program p) q.spot.at ≡ k + 1
  numbers k q is = numbered_at (places_of_program p) k q (facts_of p formed).positions is

  -- the markers of a graph
  record HasMarkers (f : ℕ) (g : Graph) : Type 0 where
    pub tree : TypedFunctionTree
    pub is : slice_get p.functions f ≡ Some tree
    pub markers : markers_of_blocks g.blocks ≡ map (λ (q : Place). place_number_at (places_of_program p) q.spot.at) (places_of_function f tree)

  has_markers : (f : ℕ) (g : Graph) → slice_get u.graphs f ≡ Some g → HasMarkers f g
  has_markers f g is =
      let t = of_graph p 0 p.functions f g (ap (λ l. slice_get l f) (sym built.graphs) ∙ is) in
      record { tree = t.0; is = t.2; markers = ap (λ (x : Graph). markers_of_blocks x.blocks) (sym t.3) ∙ graph_markers p f t.0 t.2 t.1 (accepted.facts_of p formed).ascend }

  pub own_places : HasOwnPlaces p u
  own_places = record {
    marked = λ i q g is at.
        let has = has_markers q.function g at in
        let own = own_of 0 p.functions i q is in
        let here : 0 + own.index ≡ q.function = sym own.function_is in
        let also : own.index ≡ q.function = (let e : 0 + own.index ≡ own.index = omega arith in sym e ∙ here) in
        let tree : own.tree ≡ has.tree = same_Some own.tree has.tree (sym own.is ∙ ap (slice_get p.functions) also ∙ has.is) in
        let there_is : slice_get (places_of_function q.function has.tree) own.place ≡ Some q = ap (λ (x : TypedFunctionTree). slice_get (places_of_function q.function x) own.place) (sym tree) ∙ ap (λ n. slice_get (places_of_function n own.tree) own.place) (sym here) ∙ own.at in
        subst (λ n. Among n (markers_of_blocks g.blocks)) (numbers i q is)
        (subst (Among (place_number_at (places_of_program p) q.spot.at)) (sym has.markers)
        (at_among (map (λ (x : Place). place_number_at (places_of_program p) x.spot.at) (places_of_function q.function has.tree)) (place_number_at (places_of_program p) q.spot.at) own.place (map_at (λ (x : Place). place_number_at (places_of_program p) x.spot.at) (places_of_function q.function has.tree) own.place q there_is)));
    own = λ f place g is among.
        let has = has_markers f g is in
        let k = among_at (map (λ (x : Place). place_number_at (places_of_program p) x.spot.at) (places_of_function f has.tree)) place (subst (Among place) has.markers among) in
        let q = from_map (λ (x : Place). place_number_at (places_of_program p) x.spot.at) (places_of_function f has.tree) k.0 place k.1 in
        let here : 0 + f ≡ f = omega arith in
        let i = among_all 0 p.functions f k.0 has.tree q.0 has.is (ap (λ n. slice_get (places_of_function n has.tree) k.0) here ∙ q.1) in
        record { index = i.0; at = q.0; is = i.1; number_is = sym q.2 ∙ numbers i.0 q.0 i.1; function_is = own_function f k.0 has.tree q.0 q.1 };
  }

  -- It has the program's variables.
  pub program_variables : HasVariablesIn p u
  program_variables = has_variables p u built (facts_of p formed).follow_all
