-- The steps of the flow keep their rules.
use Rattle.std.proofs.Common.{◌≡◌, ℕ, zero, suc, ◌+◌, ◌≤◌, ◌<◌, Bool, true, false, Some, None, List, [], ◌∷◌, ◌++◌, length, slice_get, refl, sym, ap, ◌∙◌, subst, arith}
use Rattle.std.specs.Prelude.{◌↔◌, AllPairs, slice_index_or, if◌then◌else◌}
use Rattle.std.specs.List.{Contains}
use Rattle.std.proofs.lemmas.Option.{none-some, same_Some, slice_get_within}
use Rattle.places.specs.declared.flow.FlowStep.{FlowStep}
use Rattle.places.specs.declared.table.PlaceRow.{PlaceRow}
use Rattle.places.specs.Flow.{AreInOrder, IsStepBefore}
use Rattle.c_tree.specs.Programs.{ProgramTree, TypedFunctionTree}
use Rattle.c_type_laws.specs.Laws.{IsWellFormed}
use Rattle.c_places.specs.Flow.{reaches_end}
use Rattle.c_places.specs.Places.{Place, brought_by_body, close_of, place_number_at, parameters_of, places_of_all, places_of_function, places_of_functions, places_of_program, stop}
use Rattle.c_flow.specs.declared.edge.Edge.{Edge}
use Rattle.c_flow.specs.Flow.{edge, flow_of_all, flow_of_function, flow_of_functions, flow_of_program, flow_step_of, start_of_all, steps_of_program, ways_of_body}
use Rattle.graph_build_laws.proofs.Targets.{AllFit, EdgesFit, WayFits, edge_fits, edges_both, fit_back, fit_front, flows_fit, starts_fit}
use Rattle.graph_homes.specs.Homed.{HomedForm}
use Rattle.rv_emit_tables.specs.Emitted.{EmittedForm}
use Rattle.image_form.specs.Form.{Form}
use Rattle.image_form.specs.RulesOfChanges.{FlowRules, IsPairBefore}
use Rattle.image_form.specs.RulesOfFunctions.{IsPlaceNumber}
use Rattle.image_form.specs.declared.tables.FlowPair.{FlowPair}
use Rattle.image_build_tables.specs.Tables.{flow_pair}
use Rattle.image_truth_units.proofs.Accepted.{facts_of}
use Rattle.image_truth_units.proofs.Functions.{places_many}
use Rattle.image_truth_units.proofs.Given.{Given}
use Rattle.image_truth_units.proofs.Lists.{all_from, from_map, next_from}
use Rattle.image_truth_units.proofs.ProgramPlaces.{numbered_at}
pub use Rattle.base_laws.proofs.Lists.{front_at as front_there}

-- ---- Lists

pub or_there : {A : Type 0} (xs : List A) (i : ℕ) (x d : A) → slice_get xs i ≡ Some x → slice_index_or xs i d ≡ x
or_there [] i x d is = absurd (none-some x is)
or_there (y ∷ xs) zero x d is = same_Some y x is
or_there (y ∷ xs) (suc i) x d is = or_there xs i x d is

pub there_or : {A : Type 0} (xs : List A) (i : ℕ) (x d : A) → i < length xs → slice_index_or xs i d ≡ x → slice_get xs i ≡ Some x
there_or [] i x d low is = absurd (omega (arith, low))
there_or (y ∷ xs) zero x d low is = ap (λ z. Some z) is
there_or (y ∷ xs) (suc i) x d low is = there_or xs i x d (omega (arith, low)) is

pub contains : {A : Type 0} (xs : List A) (i : ℕ) (x : A) → slice_get xs i ≡ Some x → Contains xs x
contains xs i x is = (i, slice_get_within xs i x is, or_there xs i x x is)

pub contained : {A : Type 0} (xs : List A) (x : A) → Contains xs x → (i : ℕ) × (slice_get xs i ≡ Some x)
contained xs x has = (has.0, there_or xs has.0 x x has.1 has.2)

pub pairs_next : {A : Type 0} (R : A → A → Type 0) (xs : List A) → AllPairs R xs → (i : ℕ) (x y : A) → slice_get xs i ≡ Some x → slice_get xs (suc i) ≡ Some y → R x y
pairs_next R xs pairs i x y is at =
    subst (λ z. R z y) (or_there xs i x x is) (subst (λ z. R (slice_index_or xs i x) z) (or_there xs (suc i) y x at) (pairs i (suc i) x (omega arith) (slice_get_within xs (suc i) y at)))

-- ---- Positions of places

-- A position is that of a place of the program.
abbrev pub IsPosition : List Place → (at : ℕ) → Type 0
IsPosition all at = (i : ℕ) × (q : Place) × (slice_get all i ≡ Some q) × (q.spot.at ≡ at)

-- so are those of places that stand among them
pub fit_all : (all own : List Place) (number : ℕ) → ((q : Place) (i : ℕ) → slice_get own i ≡ Some q → IsPosition all q.spot.at) → AllFit number (IsPosition all) own
fit_all all [] number each = tt
fit_all all (q ∷ own) number each = (each q 0 refl, fit_all all own number (λ r i is. each r (suc i) is))

pub behind_there : {A : Type 0} (xs ys : List A) (k : ℕ) (x : A) → slice_get ys k ≡ Some x → (i : ℕ) × (slice_get (xs ++ ys) i ≡ Some x)
behind_there [] ys k x is = (k, is)
behind_there (y ∷ xs) ys k x is = let r = behind_there xs ys k x is in (suc r.0, r.1)

-- Each place of functions is among some places.
abbrev pub AreIn : (all own : List Place) → Type 0
AreIn all own = (q : Place) (i : ℕ) → slice_get own i ≡ Some q → IsPosition all q.spot.at

pub first_in : (all xs ys : List Place) → AreIn all (xs ++ ys) → AreIn all xs
first_in all xs ys each q i is = each q i (front_there xs ys i q is)

pub second_in : (all xs ys : List Place) → AreIn all (xs ++ ys) → AreIn all ys
second_in all xs ys each q i is = let r = behind_there xs ys i q is in each q r.0 r.1

close_fits : (all : List Place) (number : ℕ) (f : TypedFunctionTree) (b : Bool) → AllFit number (IsPosition all) (if b then stop number (parameters_of f ++ brought_by_body f.body) f.close ∷ [] else []) → WayFits number (IsPosition all) (if b then Some f.close.at else None)
close_fits all number f true h = h.0
close_fits all number f false h = tt

function_fits : (all : List Place) (number : ℕ) (f : TypedFunctionTree) → AreIn all (places_of_function number f) → EdgesFit number (IsPosition all) (flow_of_function f)
function_fits all number f each =
    let own = fit_all all (places_of_function number f) number each in
    let body = places_of_all number (parameters_of f) f.body in
    let ways = ways_of_body f in
    let hb = fit_front number (IsPosition all) body (close_of number f) own.1 in
    let next = close_fits all number f (reaches_end f.body) (fit_back number (IsPosition all) body (close_of number f) own.1) in
    let to = start_of_all f.body ways.next in
    edges_both number (IsPosition all) (edge f.spot.at to) (flow_of_all ways f.body) (edge_fits number (IsPosition all) f.spot.at to own.0 (starts_fit number (IsPosition all) f.body (parameters_of f) ways.next hb next))
    (flows_fit number (IsPosition all) f.body (parameters_of f) ways hb (record { next = next; by_break = tt; by_continue = tt }))

either_fits : (all : List Place) (number : ℕ) (own rest : List Edge) (i : ℕ) (e : Edge) → EdgesFit number (IsPosition all) own → ((k : ℕ) → slice_get rest k ≡ Some e → IsPosition all e.from × IsPosition all e.to) → slice_get (own ++ rest) i ≡ Some e
    → IsPosition all e.from × IsPosition all e.to
either_fits all number [] rest i e fit later is = later i is
either_fits all number (x ∷ own) rest zero e fit later is = subst (λ (y : Edge). IsPosition all y.from × IsPosition all y.to) (same_Some x e is) fit.0
either_fits all number (x ∷ own) rest (suc i) e fit later is = either_fits all number own rest i e fit.1 later is

functions_fit : (all : List Place) (number : ℕ) (fs : List TypedFunctionTree) → AreIn all (places_of_functions number fs) → (i : ℕ) (e : Edge) → slice_get (flow_of_functions fs) i ≡ Some e → IsPosition all e.from × IsPosition all e.to
functions_fit all number [] each i e is = absurd (none-some e is)
functions_fit all number (f ∷ fs) each i e is =
    either_fits all number (flow_of_function f) (flow_of_functions fs) i e (function_fits all number f (first_in all (places_of_function number f) (places_of_functions (number + 1) fs) each))
    (λ k at. functions_fit all (number + 1) fs (second_in all (places_of_function number f) (places_of_functions (number + 1) fs) each) k e at) is

-- a position of a place has a number of a place
pub numbered_low : (p : ProgramTree) (at : ℕ) → (facts : (k : ℕ) (q : Place) → slice_get (places_of_program p) k ≡ Some q → place_number_at (places_of_program p) q.spot.at ≡ k + 1) → IsPosition (places_of_program p) at → (1 ≤ place_number_at (places_of_program p) at) × (place_number_at (places_of_program p) at ≤ length (places_of_program p))
numbered_low p at facts position =
    let number = facts position.0 position.1 position.2 in
    let same = ap (place_number_at (places_of_program p)) position.3 in
    let low = slice_get_within (places_of_program p) position.0 position.1 position.2 in
    (omega (arith, number, same), omega (arith, number, same, low))

-- execution goes from places of the program to such places
pub step_placed : (p : ProgramTree) → IsWellFormed p → (s : FlowStep) → Contains (steps_of_program p) s → ((1 ≤ s.from.0) × (s.from.0 ≤ length (places_of_program p))) × ((1 ≤ s.to.0) × (s.to.0 ≤ length (places_of_program p)))
step_placed p formed s there =
    let numbers : (k : ℕ) (q : Place) → slice_get (places_of_program p) k ≡ Some q → place_number_at (places_of_program p) q.spot.at ≡ k + 1 = λ k q is. numbered_at (places_of_program p) k q (facts_of p formed).positions is in
    let at = contained (steps_of_program p) s there in
    let of = from_map (flow_step_of (places_of_program p)) (flow_of_program p) at.0 s at.1 in
    let fits = functions_fit (places_of_program p) 0 p.functions (λ q k is. (k, q, is, refl)) at.0 of.0 of.1 in
    let from = numbered_low p of.0.from numbers fits.0 in
    let to = numbered_low p of.0.to numbers fits.1 in
    let from_is : place_number_at (places_of_program p) of.0.from ≡ s.from.0 = ap (λ (x : FlowStep). x.from.0) of.2 in
    let to_is : place_number_at (places_of_program p) of.0.to ≡ s.to.0 = ap (λ (x : FlowStep). x.to.0) of.2 in
    let a = from.0 in let b = from.1 in let c = to.0 in let d = to.1 in
    ((omega (arith, a, from_is), omega (arith, b, from_is)), (omega (arith, c, to_is), omega (arith, d, to_is)))

module _ (p : ProgramTree) (h : HomedForm) (e : EmittedForm) (rows : List PlaceRow) (m : Form) (given : Given p h e rows m) (steps : (s : FlowStep) → Contains h.unit.steps s ↔ Contains (steps_of_program p) s) (ordered : AreInOrder h.unit.steps) where
  is_step : (i : ℕ) (x : FlowPair) → slice_get m.flow i ≡ Some x → (s : FlowStep) × (slice_get h.unit.steps i ≡ Some s) × (flow_pair s ≡ x)
  is_step i x is = from_map flow_pair h.unit.steps i x (ap (λ l. slice_get l i) (sym given.tables.flow) ∙ is)

  step_fits : (s : FlowStep) (i : ℕ) → slice_get h.unit.steps i ≡ Some s → IsPlaceNumber m s.from.0 × IsPlaceNumber m s.to.0
  step_fits s i is =
      let many = places_many p h e rows m given in
      let placed = step_placed p given.formed s ((steps s).0 (contains h.unit.steps i s is)) in
      let a = placed.0.0 in let b = placed.0.1 in let c = placed.1.0 in let d = placed.1.1 in
      ((a, omega (arith, b, many)), (c, omega (arith, d, many)))

  -- THE STEPS KEEP THEIR RULES.
  pub flow_rules : FlowRules m
  flow_rules = record {
    each = all_from (λ (x : FlowPair). IsPlaceNumber m x.from × IsPlaceNumber m x.to) m.flow (λ i x is. let s = is_step i x is in subst (λ (y : FlowPair). IsPlaceNumber m y.from × IsPlaceNumber m y.to) s.2 (step_fits s.0 i s.1));
    ascend = next_from (λ (x y : FlowPair). IsPairBefore x.from x.to y.from y.to) m.flow (λ i x y is at.
        let s = is_step i x is in
        let u = is_step (suc i) y at in
        subst (λ (z : FlowPair). IsPairBefore z.from z.to y.from y.to) s.2 (subst (λ (z : FlowPair). IsPairBefore s.0.from.0 s.0.to.0 z.from z.to) u.2 (pairs_next IsStepBefore h.unit.steps ordered i s.0 u.0 s.1 u.1)));
  }
