-- Which addresses an image has for the stops of code, and at which of its addresses it stops.
use Rattle.std.proofs.Common.{◌≡◌, ◌≢◌, ℕ, zero, suc, ◌+◌, ◌<◌, refl, sym, ap, ◌∙◌, subst, arith, ◌==◌, ◌||◌, Bool, true, false, cond, Some, get_or, List, [], ◌∷◌, length, map, slice_get}
use Rattle.std.specs.Prelude.{slice_set}
use Rattle.std.specs.List.{AllByRecursion}
use Rattle.std.proofs.lemmas.Bool.{eq-eqb, eqb-true}
use Rattle.std.proofs.lemmas.List.{length-set, get_or-set_same, get_or-set_other}
use Rattle.std.proofs.lemmas.Option.{none-some, same_Some}
use Rattle.places.specs.declared.table.PlaceRow.{PlaceRow}
use Rattle.graph_core.specs.Paths.{Among, front, behind}
use Rattle.graph_core.specs.Validity.{AreAllDifferent}
use Rattle.rv_emit_tables.specs.declared.emitted.PlacedStop.{PlacedStop}
use Rattle.rv_emit_runs.specs.EmitPlacedMarkers.{place_of}
use Rattle.image_form.specs.declared.tables.Function.{Function}
use Rattle.image_form.specs.declared.tables.Place.{Place}
use Rattle.image_build_tables.specs.Variables.{entry}
use Rattle.image_build_tables.specs.Places.{put_stops, addresses_from}
use Rattle.rv_machine.specs.Run.{is_stop}
use Rattle.stop_engine_view.specs.Run.{is_entry, stops_from}

-- ---- The table of addresses

-- what a table has for a place that none of these stops is of
put_kept : (stops : List PlacedStop) (table : List ℕ) (k : ℕ) → AllByRecursion (λ q. k ≢ q) (map place_of stops) → get_or (put_stops stops table) k 0 ≡ get_or table k 0
put_kept [] table k other = refl
put_kept (s ∷ more) table k other = put_kept more (slice_set table s.place s.address) k other.1 ∙ get_or-set_other table s.place k s.address 0 other.0

-- The table has the address of each stop for its place, where no two stops are of one place.
pub put_there : (stops : List PlacedStop) (table : List ℕ) (t : PlacedStop) → AreAllDifferent (map place_of stops) → Among t stops → t.place < length table → get_or (put_stops stops table) t.place 0 ≡ t.address
put_there [] table t once there within = elim there [ ]
put_there (_ ∷ more) table t once front within = put_kept more (slice_set table t.place t.address) t.place once.0 ∙ get_or-set_same table t.place t.address 0 within
put_there (s ∷ more) table t once (behind later) within = put_there more (slice_set table s.place s.address) t once.1 later (subst (λ n. t.place < n) (sym (length-set table s.place s.address)) within)

-- The address of a place that is no entry is what the table has for its number.
pub address_at : (number : ℕ) (firsts stops : List ℕ) (rows : List PlaceRow) (i : ℕ) (r : PlaceRow) → slice_get rows i ≡ Some r → r.is_entry ≡ false → slice_get (addresses_from number firsts stops rows) i ≡ Some (get_or stops (number + i) 0)
address_at number firsts stops [] i r is plain = absurd (none-some r is)
address_at number firsts stops (x ∷ rows) zero r is plain =
    let same : x ≡ r = same_Some x r is in
    let number_is : number ≡ number + 0 = omega arith in
    ap (λ b. Some (cond b (get_or firsts x.function 0) (get_or stops number 0))) (ap (λ (z : PlaceRow). z.is_entry) same ∙ plain) ∙ ap (λ k. Some (get_or stops k 0)) number_is
address_at number firsts stops (x ∷ rows) (suc i) r is plain =
    let number_is : number + 1 + i ≡ number + suc i = omega arith in
    address_at (number + 1) firsts stops rows i r is plain ∙ ap (λ k. Some (get_or stops k 0)) number_is

-- There are no more addresses than places.
pub row_at : (number : ℕ) (firsts stops : List ℕ) (rows : List PlaceRow) (i a : ℕ) → slice_get (addresses_from number firsts stops rows) i ≡ Some a → (r : PlaceRow) × (slice_get rows i ≡ Some r)
row_at number firsts stops [] i a is = absurd (none-some a is)
row_at number firsts stops (x ∷ rows) zero a is = (x, refl)
row_at number firsts stops (x ∷ rows) (suc i) a is = row_at (number + 1) firsts stops rows i a is

-- ---- The addresses at which an image stops

-- An image stops at the address of each place that is no entry.
pub stop_there : (functions : List Function) (number : ℕ) (places : List Place) (i : ℕ) (q : Place) → slice_get places i ≡ Some q → is_entry functions (number + i) ≡ false → is_stop (stops_from functions number places) q.address ≡ true
stop_there functions number [] i q is plain = absurd (none-some q is)
stop_there functions number (x ∷ places) zero q is plain =
    let later = stops_from functions (number + 1) places in
    let number_is : number + 0 ≡ number = omega arith in
    let here : is_entry functions number ≡ false = sym (ap (is_entry functions) number_is) ∙ plain in
    ap (λ b. is_stop (cond b later (x.address ∷ later)) q.address) here ∙ ap (λ b. b || is_stop later q.address) (eq-eqb x.address q.address (ap (λ (z : Place). z.address) (same_Some x q is)))
stop_there functions number (x ∷ places) (suc i) q is plain =
    let number_is : number + suc i ≡ number + 1 + i = omega arith in
    with_front (is_entry functions number) (stop_there functions (number + 1) places i q is (sym (ap (is_entry functions) number_is) ∙ plain))
  where
    either : (b : Bool) → is_stop (stops_from functions (number + 1) places) q.address ≡ true → (b || is_stop (stops_from functions (number + 1) places) q.address) ≡ true
    either true there = refl
    either false there = there

    with_front : (b : Bool) → is_stop (stops_from functions (number + 1) places) q.address ≡ true → is_stop (cond b (stops_from functions (number + 1) places) (x.address ∷ stops_from functions (number + 1) places)) q.address ≡ true
    with_front true there = there
    with_front false there = either (x.address == q.address) there

-- A place of an image that is no entry, with this address.
pub record IsStopAt (functions : List Function) (number : ℕ) (places : List Place) (address : ℕ) : Type 0 where
  pub index : ℕ
  pub place : Place
  pub is : slice_get places index ≡ Some place
  pub at : place.address ≡ address
  pub no_entry : is_entry functions (number + index) ≡ false

-- An image stops at no other address.
pub stop_from : (functions : List Function) (number : ℕ) (places : List Place) (address : ℕ) → is_stop (stops_from functions number places) address ≡ true → IsStopAt functions number places address
stop_from functions number [] address is = cc
stop_from functions number (q ∷ places) address is = by_entry (λ there. stop_from functions (number + 1) places address there) (is_entry functions number) refl is
  where
    later : IsStopAt functions (number + 1) places address → IsStopAt functions number (q ∷ places) address
    later found =
        let number_is : number + 1 + found.index ≡ number + suc found.index = omega arith in
        record { index = suc found.index; place = found.place; is = found.is; at = found.at; no_entry = sym (ap (is_entry functions) number_is) ∙ found.no_entry }

    by_test : (is_stop (stops_from functions (number + 1) places) address ≡ true → IsStopAt functions (number + 1) places address) → (b : Bool) → (q.address == address) ≡ b → is_entry functions number ≡ false → (b || is_stop (stops_from functions (number + 1) places) address) ≡ true → IsStopAt functions number (q ∷ places) address
    by_test rest true e plain there =
        let number_is : number ≡ number + 0 = omega arith in
        record { index = 0; place = q; is = refl; at = eqb-true q.address address e; no_entry = sym (ap (is_entry functions) number_is) ∙ plain }
    by_test rest false e plain there = later (rest there)

    by_entry : (is_stop (stops_from functions (number + 1) places) address ≡ true → IsStopAt functions (number + 1) places address) → (b : Bool) → is_entry functions number ≡ b → is_stop (cond b (stops_from functions (number + 1) places) (q.address ∷ stops_from functions (number + 1) places)) address ≡ true → IsStopAt functions number (q ∷ places) address
    by_entry rest true e there = later (rest there)
    by_entry rest false e there = by_test rest (q.address == address) refl e there

-- Whether a place is an entry is told by the numbers of the entries.
pub entry_among : (functions : List Function) (k : ℕ) → is_entry functions k ≡ is_stop (map entry functions) k
entry_among [] k = refl
entry_among (f ∷ functions) k = ap (λ b. (f.entry == k) || b) (entry_among functions k)

-- ---- The stops of code

-- A number is among those that are its images.
pub image_among : {A : Type 0} (f : A → ℕ) (all : List A) (a : A) (k : ℕ) → Among a all → f a ≡ k → is_stop (map f all) k ≡ true
image_among f [] a k there same = elim there [ ]
image_among f (_ ∷ all) a k front same = ap (λ b. b || is_stop (map f all) k) (eq-eqb (f a) k same)
image_among f (x ∷ all) a k (behind there) same = by_test (f x == k) (image_among f all a k there same)
  where
    by_test : (b : Bool) → is_stop (map f all) k ≡ true → (b || is_stop (map f all) k) ≡ true
    by_test true later = refl
    by_test false later = later

-- A number that is among images is the image of one of these.
pub image_from : {A : Type 0} (f : A → ℕ) (all : List A) (k : ℕ) → is_stop (map f all) k ≡ true → (a : A) × Among a all × (f a ≡ k)
image_from f [] k is = cc
image_from {A = A} f (x ∷ all) k is = by_test (λ there. image_from f all k there) (f x == k) refl is
  where
    by_test : (is_stop (map f all) k ≡ true → (a : A) × Among a all × (f a ≡ k)) → (b : Bool) → (f x == k) ≡ b → (b || is_stop (map f all) k) ≡ true → (a : A) × Among a (x ∷ all) × (f a ≡ k)
    by_test rest true e there = (x, front, eqb-true (f x) k e)
    by_test rest false e there = let found = rest there in (found.0, behind found.1, found.2)
