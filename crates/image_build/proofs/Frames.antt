-- What a debugger finds of the activations and of the place where the machine stands at a stop.
use Rattle.std.proofs.Common.{◌≡◌, ℕ, zero, suc, ◌+◌, ◌<◌, ◌≤◌, refl, sym, ap, ◌∙◌, arith, Bool, true, false, cond, ◌&&◌, Some, List, [], ◌∷◌, length, map, slice_get}
use Rattle.std.specs.Prelude.{◌==◌, ◌%◌, ◌||◌, slice_index}
use Rattle.std.proofs.lemmas.Bool.{eq-eqb, eqb-true}
use Rattle.std.proofs.lemmas.Option.{none-some, same_Some, get_or_from_slice_get}
use Rattle.image_form.specs.Form.{Form}
use Rattle.image_form.specs.Rules.{IsImage}
use Rattle.image_form.specs.RulesOfFunctions.{first_code_address}
use Rattle.image_form.specs.declared.tables.Function.{Function}
use Rattle.image_form.specs.declared.tables.Place.{Place}
use Rattle.rv_machine.specs.Run.{is_stop}
use Rattle.rv_machine.specs.State.{MachineState, word}
use Rattle.stop_engine_view.specs.Callers.{calling_place, place_before, return_address}
use Rattle.stop_engine_view.specs.Reading.{place_from, place_at, is_stack_address, frame_of, frames_from}
use Rattle.stop_engine_view.specs.Run.{is_entry, stops_from, stop_addresses}
use Rattle.graph_core.specs.Paths.{Among, front, behind}
use Rattle.graph_homes.specs.Homed.{HomedForm}
use Rattle.rv_emit_tables.specs.declared.emitted.PlacedStop.{PlacedStop}
use Rattle.rv_emit_tables.specs.Emitted.{EmittedForm}
use Rattle.rv_emit_runs.specs.Laid as laid
use Rattle.rv_emit_runs.specs.Laid.{IsCode}
use Rattle.image_truth_units.specs.Standing.{Standing, AreCallers}

-- ---- Activations

-- where an activation stands
abbrev pub place_of : Standing → ℕ
place_of a = a.place

-- the next ones, if an activation was called from a place
abbrev next_from : ℕ → Form → MachineState → Standing → (caller : ℕ) → List ℕ
next_from n m s a caller = cond (caller == 0) [] (frames_from n m s caller (word (a.frame + frame_of m a.place)))

by_calling : (n : ℕ) (m : Form) (s : MachineState) (a : Standing) → frames_from (suc n) m s a.place a.frame ≡ a.place ∷ next_from n m s a (calling_place m s a.frame)
by_calling n m s a = by_test (is_stack_address s a.frame && a.frame % 4 == 0) refl
  where
    by_test : (b : Bool) → (is_stack_address s a.frame && a.frame % 4 == 0) ≡ b → frames_from (suc n) m s a.place a.frame ≡ a.place ∷ next_from n m s a (calling_place m s a.frame)
    by_test true e =
        ap (λ b. a.place ∷ cond b (next_from n m s a (place_before m (return_address s a.frame))) []) e
        ∙ ap (λ b. a.place ∷ next_from n m s a (cond b (place_before m (return_address s a.frame)) 0)) (sym e)
    by_test false e =
        ap (λ b. a.place ∷ cond b (next_from n m s a (place_before m (return_address s a.frame))) []) e
        ∙ ap (λ b. a.place ∷ next_from n m s a (cond b (place_before m (return_address s a.frame)) 0)) (sym e)

-- The debugger finds all activations, if there are no more than it looks for.
pub frames_found : (n : ℕ) (m : Form) (s : MachineState) (a : Standing) (waiting : List Standing) → AreCallers m s a waiting → length waiting + 1 ≤ n → frames_from n m s a.place a.frame ≡ a.place ∷ map place_of waiting
frames_found zero m s a waiting callers few = absurd (omega (arith, few))
frames_found (suc n) m s a [] callers few = by_calling n m s a ∙ ap (λ c. a.place ∷ next_from n m s a c) callers
frames_found (suc n) m s a (b ∷ more) callers few =
    let calls : calling_place m s a.frame ≡ b.place = callers.0 in
    let some : (b.place == 0) ≡ false = by_some (b.place == 0) refl in
    let at : word (a.frame + frame_of m a.place) ≡ b.frame = ap word (sym callers.2) ∙ in_word b.frame callers.3 in
    by_calling n m s a ∙ ap (λ c. a.place ∷ next_from n m s a c) calls
    ∙ ap (λ t. a.place ∷ cond t [] (frames_from n m s b.place (word (a.frame + frame_of m a.place)))) some
    ∙ ap (λ f. a.place ∷ frames_from n m s b.place f) at
    ∙ ap (λ l. a.place ∷ l) (frames_found n m s b more callers.4 (omega (arith, few)))
  where
    by_some : (t : Bool) → (b.place == 0) ≡ t → (b.place == 0) ≡ false
    by_some true e = absurd (callers.1 (eqb-true b.place 0 e))
    by_some false e = e

    in_word : (f : ℕ) → f < 4294967296 → word f ≡ f
    in_word f lt = omega (arith, lt)

-- ---- The place

-- the first place of a table that has an address
record IsFirst (number : ℕ) (places : List Place) (address k : ℕ) : Type 0 where
  pub index : ℕ
  pub place : Place
  pub is : slice_get places index ≡ Some place
  pub at : place.address ≡ address
  pub number_is : k ≡ number + index

first_of : (number : ℕ) (places : List Place) (address k : ℕ) → place_from number places address ≡ Some k → IsFirst number places address k
first_of number [] address k is = absurd (none-some k is)
first_of number (q ∷ places) address k is = by_test (q.address == address) refl (first_of (number + 1) places address k)
  where
    by_test : (b : Bool) → (q.address == address) ≡ b → (place_from (number + 1) places address ≡ Some k → IsFirst (number + 1) places address k) → IsFirst number (q ∷ places) address k
    by_test true e later =
        let here : number ≡ k = same_Some number k (sym (ap (λ b. cond b (Some number) (place_from (number + 1) places address)) e) ∙ is) in
        record { index = 0; place = q; is = refl; at = eqb-true q.address address e; number_is = omega (arith, here) }
    by_test false e later =
        let rest = later (sym (ap (λ b. cond b (Some number) (place_from (number + 1) places address)) e) ∙ is) in
        let number_is = rest.number_is in
        record { index = suc rest.index; place = rest.place; is = rest.is; at = rest.at; number_is = omega (arith, number_is) }

-- a stop is at a place
stops_at : (functions : List Function) (number : ℕ) (places : List Place) (address : ℕ) → is_stop (stops_from functions number places) address ≡ true → (k : ℕ) × (place_from number places address ≡ Some k)
stops_at functions number [] address is = cc
stops_at functions number (q ∷ places) address is = by_test (q.address == address) refl (stops_at functions (number + 1) places address)
  where
    without : (b : Bool) → (q.address == address) ≡ false → is_stop (cond b (stops_from functions (number + 1) places) (q.address ∷ stops_from functions (number + 1) places)) address ≡ true → is_stop (stops_from functions (number + 1) places) address ≡ true
    without true e is = is
    without false e is = sym (ap (λ t. t || is_stop (stops_from functions (number + 1) places) address) e) ∙ is

    by_test : (b : Bool) → (q.address == address) ≡ b → (is_stop (stops_from functions (number + 1) places) address ≡ true → (k : ℕ) × (place_from (number + 1) places address ≡ Some k)) → (k : ℕ) × (place_from number (q ∷ places) address ≡ Some k)
    by_test true e later = (number, ap (λ b. cond b (Some number) (place_from (number + 1) places address)) e)
    by_test false e later =
        let rest = later (without (is_entry functions number) e is) in
        (rest.0, ap (λ b. cond b (Some number) (place_from (number + 1) places address)) e ∙ rest.1)

-- a stop of the code is one of its run
among_stops : (all : List PlacedStop) (t : PlacedStop) → Among t all → is_stop (map (λ (s : PlacedStop). s.address) all) t.address ≡ true
among_stops [] t among = elim among [ ]
among_stops (q ∷ all) t front = ap (λ b. b || is_stop (map (λ (s : PlacedStop). s.address) all) q.address) (eq-eqb q.address q.address refl)
among_stops (q ∷ all) t (behind among) = by_test (q.address == t.address) (among_stops all t among)
  where
    by_test : (b : Bool) → is_stop (map (λ (s : PlacedStop). s.address) all) t.address ≡ true → (b || is_stop (map (λ (s : PlacedStop). s.address) all) t.address) ≡ true
    by_test true later = refl
    by_test false later = later

-- The debugger finds the place of a stop at its address.
pub place_found : (h : HomedForm) (e : EmittedForm) (m : Form) → IsCode h e → IsImage m → m.owners ≡ e.owners → ((address : ℕ) → is_stop (stop_addresses m) address ≡ is_stop (laid.stop_addresses e) address) → (t : PlacedStop) → Among t e.stops → place_at m t.address ≡ Some t.place
unfolding first_code_address
place_found h e m code rules owners stops t among =
    let there = stops_at m.functions 1 m.places t.address (stops t.address ∙ among_stops e.stops t among) in
    let first = first_of 1 m.places t.address there.0 there.1 in
    let of = code.stops t among in
    let owned : slice_get m.owners of.0 ≡ Some (first.index + 1) = rules.owners.at_places first.index of.0 first.place first.is (first.at ∙ of.1) in
    let place : first.index + 1 ≡ t.place = sym (index_of m.owners of.0 (first.index + 1) owned) ∙ ap (λ l. slice_index l of.0) owners ∙ of.2 in
    let number = first.number_is in
    let same : there.0 ≡ t.place = omega (arith, place, number) in
    there.1 ∙ ap (λ k. Some k) same
  where
    index_of : (l : List ℕ) (i k : ℕ) → slice_get l i ≡ Some k → slice_index l i ≡ k
    index_of l i k is = get_or_from_slice_get l i k 0 is
