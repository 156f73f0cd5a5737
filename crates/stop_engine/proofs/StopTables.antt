-- Tables of stop places tell what they should.
use Rattle.std.proofs.Common.{◌≡◌, ◌≢◌, ℕ, zero, suc, ◌+◌, ◌-◌, ◌*◌, ◌/◌, ◌%◌, ◌<◌, ◌≤◌, ◌==◌, Bool, true, false, not, ◌||◌, if◌then◌else◌, Option, Some, None, List, [], ◌∷◌, ◌++◌, length, replicate, take, drop, slice_index, slice_set, unwrap_or, nat_le, subst, sym, ap, refl, ◌∙◌, arith}
use Rattle.std.proofs.lemmas.Bool.Decides.{nat_tests}
use Rattle.std.proofs.Math.Seq.{take-append_seam}
use Rattle.std.proofs.lemmas.List.{drop_all, get_or-set_same, get_or-set_other}
use Rattle.std.proofs.lemmas.Option.{slice_get-get_or}
use Rattle.std.specs.List.{AllByRecursion, list_any, slice_get}
use Rattle.std.specs.Option.{option_map_or}
use Rattle.image_form.specs.Form.{Form, numbered}
use Rattle.image_form.specs.declared.tables.Function.{Function}
use Rattle.image_form.specs.declared.tables.Place.{Place}
use Rattle.image_form.specs.Lists.{AreDistinct}
use Rattle.image_form.specs.Rules.{IsImage}
use Rattle.image_form.specs.RulesOfFunctions.{IsFunction, IsPlaceNumber, first_code_address}
use Rattle.memory_map.specs.Maps as maps
use Rattle.image_form.specs.RulesOfPlaces.{word_address}
use Rattle.image_form.proofs.TableLaws.{each_at}
use Rattle.rv_machine.specs.Run.{is_stop}
use Rattle.stop_engine_tables.proofs.Records.{records_from}
use Rattle.stop_engine_view.specs.Reading.{place_at, place_from}
use Rattle.stop_engine_view.specs.Run.{is_entry, stop_addresses, stops_from}
use Rattle.stop_engine.specs.StopTable.{TellsStops, entry_at, is_entry_address}
use Rattle.stop_engine_view.proofs.PlacesByAddress.{Found, IsWordOf, distinct-tail, place-is_word, place_from-found, place_from-tail, word-within}

-- whether the place that a look-up gave is a stop
abbrev stops_there : List Function → Option ℕ → Bool
stops_there functions found = option_map_or (λ k. not (is_entry functions k)) found false

-- an address is a stop where the place there is no entry
pub is_stop-stops_from : (functions : List Function) (n : ℕ) (ps : List Place) (a : ℕ) → AreDistinct (λ (p : Place). p.address) ps
    → is_stop (stops_from functions n ps) a ≡ stops_there functions (place_from n ps a)
is_stop-stops_from functions n [] a distinct = refl
is_stop-stops_from functions n (p ∷ ps) a distinct =
    by_tests (is_entry functions n) refl (p.address == a) refl (is_stop-stops_from functions (n + 1) ps a (distinct-tail p ps distinct))
  where
    by_tests : (b : Bool) → is_entry functions n ≡ b → (c : Bool) → (p.address == a) ≡ c
        → is_stop (stops_from functions (n + 1) ps) a ≡ stops_there functions (place_from (n + 1) ps a)
        → is_stop (stops_from functions n (p ∷ ps)) a ≡ stops_there functions (place_from n (p ∷ ps) a)
    by_tests true entry true here rest =
        let at_a : p.address ≡ a = grind (arith, nat_tests) in
        let others = place_from-tail (n + 1) p ps a distinct at_a in
        rw (entry, here) (rest ∙ (rw (others, entry) refl))
    by_tests false entry true here rest = simp (entry, here)
    by_tests true entry false here rest = rw (entry, here) rest
    by_tests false entry false here rest = rw (entry, here) rest

-- a function's entry begins at an address exactly where it is the place there
entry-address : (m : Form) (a i k : ℕ) (p : Place) → IsImage m → slice_get m.places i ≡ Some p → p.address ≡ a → IsPlaceNumber m k
    → option_map_or (λ (q : Place). q.address == a) (numbered m.places k) false ≡ (k == suc i)
entry-address m a i zero p image at_i here number = absurd (omega (arith, number.0))
entry-address m a i (suc j) p image at_i here number = by_place (slice_get m.places j) refl
  where
    by_place : (o : Option Place) → slice_get m.places j ≡ o → option_map_or (λ (q : Place). q.address == a) o false ≡ (suc j == suc i)
    by_place None e = let there = slice_get-get_or m.places j p (omega (arith, number.1)) in absurd (cc)
    by_place (Some q) e = by_test (q.address == a) refl
      where
        by_test : (b : Bool) → (q.address == a) ≡ b → (q.address == a) ≡ (suc j == suc i)
        by_test true t =
            let same : j ≡ i = image.places.addresses_differ j i q p e at_i (grind (arith, nat_tests)) in
            grind (arith, nat_tests)
        by_test false t = by_index (j == i) refl
          where
            by_index : (b : Bool) → (j == i) ≡ b → (q.address == a) ≡ (suc j == suc i)
            by_index true u =
                let same_index : j ≡ i = grind (arith, nat_tests) in
                let same_place : Some q ≡ Some p = sym e ∙ (ap (slice_get m.places) same_index ∙ at_i) in
                let address : q.address ≡ p.address = cc in
                absurd (grind (arith, nat_tests))
            by_index false u = grind (arith, nat_tests)

-- so the entries' addresses tell the entries
entries-address : (m : Form) (a i : ℕ) (p : Place) (functions : List Function) → IsImage m → slice_get m.places i ≡ Some p → p.address ≡ a
    → AllByRecursion (IsFunction m) functions
    → list_any (λ (f : Function). option_map_or (λ (q : Place). q.address == a) (numbered m.places f.entry) false) functions ≡ is_entry functions (suc i)
entries-address m a i p [] image at_i here each = refl
entries-address m a i p (f ∷ functions) image at_i here each =
    let f_is : IsFunction m f = each.0 in
    rw (entry-address m a i f.entry p image at_i here f_is.entry_is_place, entries-address m a i p functions image at_i here each.1) refl

-- what a table has at the address of a word
entry_at-word : (table : List ℕ) (a : ℕ) → a % 4 ≡ 0 → maps.code_start ≤ a → entry_at table a ≡ slice_index table ((a - maps.code_start) / 4)
entry_at-word table a aligned starts = grind (arith, nat_tests)

-- it has none at another address
entry_at-elsewhere : (table : List ℕ) (a : ℕ) → ¬ ((a % 4 ≡ 0) × (maps.code_start ≤ a)) → entry_at table a ≡ 0
entry_at-elsewhere table a elsewhere = by_tests (a % 4 == 0) refl (nat_le maps.code_start a) refl
  where
    by_tests : (b : Bool) → (a % 4 == 0) ≡ b → (c : Bool) → nat_le maps.code_start a ≡ c → entry_at table a ≡ 0
    by_tests true t true u = absurd (elsewhere (grind (arith, nat_tests), grind (arith, nat_tests)))
    by_tests true t false u = rw (t, u) refl
    by_tests false t c u = rw t refl

-- a table has the number of each place that is no entry
pub record EntersPlaces (m : Form) (table : List ℕ) : Type 0 where
  pub entries : (w : ℕ) → slice_index table w ≡ (if is_entry_address m (word_address w) then 0 else unwrap_or (place_at m (word_address w)) 0)

entered-at : (m : Form) (table : List ℕ) (a : ℕ) → EntersPlaces m table → a % 4 ≡ 0 → maps.code_start ≤ a
    → entry_at table a ≡ (if is_entry_address m a then 0 else unwrap_or (place_at m a) 0)
unfolding first_code_address
entered-at m table a enters aligned starts =
    let address : word_address ((a - maps.code_start) / 4) ≡ a = omega arith in
    entry_at-word table a aligned starts ∙ (rw address at (enters.entries ((a - maps.code_start) / 4)))

-- what a table tells at an address
record TellsAt (m : Form) (table : List ℕ) (a : ℕ) : Type 0 where
  none : entry_at table a ≡ 0 → is_stop (stop_addresses m) a ≡ false
  some : entry_at table a ≢ 0 → (is_stop (stop_addresses m) a ≡ true) × (place_at m a ≡ Some (entry_at table a))

tells-nothing : (m : Form) (table : List ℕ) (a : ℕ) → IsImage m → EntersPlaces m table → place_at m a ≡ None → TellsAt m table a
tells-nothing m table a image enters e = by_tests (a % 4 == 0) refl (nat_le maps.code_start a) refl
  where
    no_stop : is_stop (stop_addresses m) a ≡ false
    no_stop = is_stop-stops_from m.functions 1 m.places a image.places.addresses_differ ∙ ap (stops_there m.functions) e

    no_entry : (b : Bool) → is_entry_address m a ≡ b → a % 4 ≡ 0 → maps.code_start ≤ a → entry_at table a ≡ 0
    no_entry true t aligned starts = entered-at m table a enters aligned starts ∙ (rw t refl)
    no_entry false t aligned starts = entered-at m table a enters aligned starts ∙ (rw (t, e) refl)

    by_tests : (b : Bool) → (a % 4 == 0) ≡ b → (c : Bool) → nat_le maps.code_start a ≡ c → TellsAt m table a
    by_tests true t true u =
        record { none = λ _. no_stop; some = λ some. absurd (some (no_entry (is_entry_address m a) refl (grind (arith, nat_tests)) (grind (arith, nat_tests)))) }
    by_tests true t false u = record { none = λ _. no_stop; some = λ some. absurd (some (entry_at-elsewhere table a (λ both. absurd (grind (arith, nat_tests, both))))) }
    by_tests false t c u = record { none = λ _. no_stop; some = λ some. absurd (some (entry_at-elsewhere table a (λ both. absurd (grind (arith, nat_tests, both))))) }

tells-place : (m : Form) (table : List ℕ) (a k : ℕ) → IsImage m → EntersPlaces m table → place_at m a ≡ Some k → TellsAt m table a
tells-place m table a k image enters e = by_test (is_entry m.functions k) refl
  where
    found : Found m.places 1 a k
    found = place_from-found 1 m.places a k e

    is_word : IsWordOf m found.place.address
    is_word = place-is_word m found.index found.place image found.stands

    word : IsWordOf m a
    word = subst (IsWordOf m) found.address is_word

    stop : (b : Bool) → is_entry m.functions k ≡ b → is_stop (stop_addresses m) a ≡ not b
    stop b t = is_stop-stops_from m.functions 1 m.places a image.places.addresses_differ ∙ (rw (e, t) refl)

    entry : (b : Bool) → is_entry m.functions k ≡ b → is_entry_address m a ≡ b
    entry b t =
        let number : k ≡ suc found.index = (let n : k ≡ 1 + found.index = found.number in omega arith) in
        entries-address m a found.index found.place m.functions image found.stands found.address image.functions.each ∙ (ap (is_entry m.functions) (sym number) ∙ t)

    value : (b : Bool) → is_entry m.functions k ≡ b → entry_at table a ≡ (if b then 0 else k)
    value b t = entered-at m table a enters word.aligned word.starts ∙ (rw (entry b t, e) refl)

    by_test : (b : Bool) → is_entry m.functions k ≡ b → TellsAt m table a
    by_test true t = record { none = λ _. stop true t; some = λ some. absurd (some (value true t)) }
    by_test false t = record { none = λ zero_there. absurd (let n : k ≡ 1 + found.index = found.number in let v : entry_at table a ≡ k = value false t in omega arith); some = λ _. (stop false t, e ∙ ap Some (sym (value false t))) }

tells-at : (m : Form) (table : List ℕ) (a : ℕ) → IsImage m → EntersPlaces m table → TellsAt m table a
tells-at m table a image enters = by_place (place_at m a) refl
  where
    by_place : (o : Option ℕ) → place_at m a ≡ o → TellsAt m table a
    by_place None e = tells-nothing m table a image enters e
    by_place (Some k) e = tells-place m table a k image enters e

-- such a table tells the stops
pub tells_stops : (m : Form) (table : List ℕ) → IsImage m → EntersPlaces m table → TellsStops m table
tells_stops m table image enters = record {
  none = λ a. (tells-at m table a image enters).none;
  some = λ a. (tells-at m table a image enters).some;
}

-- the entry of a function is a place of the image
pub entry-place : (m : Form) (i : ℕ) (f : Function) → IsImage m → slice_get m.functions i ≡ Some f → IsPlaceNumber m f.entry
entry-place m i f image function = (each_at (IsFunction m) m.functions i f image.functions.each function).entry_is_place

-- whether some entry of these functions is at an address
abbrev pub is_entry_of : Form → List Function → ℕ → Bool
is_entry_of m functions a = list_any (λ (f : Function). option_map_or (λ (p : Place). p.address == a) (numbered m.places f.entry) false) functions

-- a place by its number
numbered-place : (ps : List Place) (k : ℕ) (p : Place) → 1 ≤ k → slice_get ps (k - 1) ≡ Some p → numbered ps k ≡ Some p
numbered-place ps zero p some place = absurd (omega (arith, some))
numbered-place ps (suc j) p some place = let index : suc j - 1 ≡ j = omega arith in rw index at place

-- a table from which the entry of one function is struck, before the others
struck-step : (m : Form) (table : List ℕ) (w : ℕ) (f : Function) (rest : List Function) (p : Place) → numbered m.places f.entry ≡ Some p
    → p.address % 4 ≡ 0 → maps.code_start ≤ p.address → (p.address - maps.code_start) / 4 < length table
    → (if is_entry_of m rest (word_address w) then 0 else slice_index (slice_set table ((p.address - maps.code_start) / 4) 0) w)
    ≡ (if is_entry_of m (f ∷ rest) (word_address w) then 0 else slice_index table w)
unfolding first_code_address
struck-step m table w f rest p entry aligned starts within = rw entry (by_tests (p.address == maps.code_start + 4 * w) refl (is_entry_of m rest (maps.code_start + 4 * w)) refl)
  where
    by_tests : (b : Bool) → (p.address == maps.code_start + 4 * w) ≡ b → (c : Bool) → is_entry_of m rest (maps.code_start + 4 * w) ≡ c
        → (if is_entry_of m rest (maps.code_start + 4 * w) then 0 else slice_index (slice_set table ((p.address - maps.code_start) / 4) 0) w)
        ≡ (if (p.address == maps.code_start + 4 * w) || is_entry_of m rest (maps.code_start + 4 * w) then 0 else slice_index table w)
    by_tests true t true u = rw (t, u) refl
    by_tests true t false u =
        let here : p.address ≡ maps.code_start + 4 * w = grind (arith, nat_tests) in
        let index : (p.address - maps.code_start) / 4 ≡ w = omega arith in
        rw (t, u, index) (get_or-set_same table w 0 0 (rw (← index) within))
    by_tests false t c u =
        let elsewhere : w ≢ (p.address - maps.code_start) / 4 = grind (arith, nat_tests) in
        rw (t, get_or-set_other table ((p.address - maps.code_start) / 4) w 0 0 elsewhere) refl

-- a table from which one more entry is struck
pub struck-more : (m : Form) (table : List ℕ) (i w : ℕ) (f : Function) (p : Place) → IsImage m → slice_get m.functions i ≡ Some f → slice_get m.places (f.entry - 1) ≡ Some p → length table ≡ length m.code
    → (if is_entry_of m (drop (i + 1) m.functions) (word_address w) then 0 else slice_index (slice_set table ((p.address - maps.code_start) / 4) 0) w)
    ≡ (if is_entry_of m (drop i m.functions) (word_address w) then 0 else slice_index table w)
struck-more m table i w f p image function place entries =
    let number = entry-place m i f image function in
    let word = place-is_word m (f.entry - 1) p image place in
    rw (records_from m.functions i f function) (struck-step m table w f (drop (i + 1) m.functions) p (numbered-place m.places f.entry p number.0 place) word.aligned word.starts (rw entries (word-within m p.address word)))

-- where no function is left no entry is
pub struck-all : (m : Form) (i a old : ℕ) → length m.functions ≤ i → (if is_entry_of m (drop i m.functions) a then 0 else old) ≡ old
struck-all m i a old past = rw (drop_all i m.functions past) refl

-- a table of zeros has none
zeros-index : (n w : ℕ) → slice_index (replicate n 0) w ≡ 0
zeros-index zero w = refl
zeros-index (suc n) zero = refl
zeros-index (suc n) (suc w) = zeros-index n w

-- where all places are entered in a table of zeros, and the entries are struck, it tells the stops
pub tells_stops-struck : (m : Form) (n : ℕ) (zeros entered struck : List ℕ) → IsImage m → zeros ≡ replicate n 0
    → ((w : ℕ) → slice_index entered w ≡ unwrap_or (place_at m (word_address w)) (slice_index zeros w))
    → ((w : ℕ) → slice_index struck w ≡ (if is_entry_address m (word_address w) then 0 else slice_index entered w))
    → TellsStops m struck
tells_stops-struck m n zeros entered struck image none enters strikes =
    tells_stops m struck image (record { entries = λ w. strikes w ∙ (rw (enters w, none, zeros-index n w) refl) })

-- a table that is written whole is what was written
pub written-whole : (n : ℕ) (xs ys : List ℕ) → n ≡ length xs → take n (xs ++ ys) ≡ xs
written-whole n xs ys e = rw e (take-append_seam xs ys)
