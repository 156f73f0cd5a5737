-- The places of an image by their addresses.
use Rattle.std.proofs.Common.{◌≡◌, ◌≢◌, ℕ, zero, suc, ◌+◌, ◌-◌, ◌*◌, ◌/◌, ◌%◌, ◌^◌, ◌<◌, ◌≤◌, ◌==◌, Bool, true, false, if◌then◌else◌, Option, Some, None, List, [], ◌∷◌, length, drop, slice_index, slice_index_or, slice_set, drop-cons, add-one, unwrap_or, IsSomeAnd, subst, sym, refl, ◌∙◌, arith}
use Rattle.std.proofs.lemmas.Bool.Decides.{nat_tests}
use Rattle.std.proofs.lemmas.List.{drop_all, get_or-set_same, get_or-set_other}
use Rattle.std.proofs.lemmas.Option.{slice_get-get_or}
use Rattle.std.specs.List.{slice_get}
use Rattle.image_form.specs.Form.{Form}
use Rattle.image_form.specs.declared.tables.Function.{Function}
use Rattle.image_form.specs.declared.tables.Place.{Place}
use Rattle.image_form.specs.Lists.{AreDistinct}
use Rattle.image_form.specs.Rules.{IsImage}
use Rattle.image_form.specs.RulesOfFunctions.{IsFunction, first_code_address}
use Rattle.image_form.specs.RulesOfPlaces.{IsPlace, word_address}
use Rattle.image_form.specs.Spelling.{size}
use Rattle.image_form.proofs.TableLaws.{each_at}
use Rattle.rv_machine.specs.State as machine
use Rattle.stop_engine_view.specs.Reading.{place_from}

-- the address of a word of the code
pub record IsWordOf (m : Form) (a : ℕ) : Type 0 where
  pub aligned : a % 4 ≡ 0
  pub starts : machine.code_start ≤ a
  pub ends : a < machine.code_start + 4 * length m.code

in_function-word : (m : Form) (k a : ℕ) (o : Option Function) → IsImage m → a % 4 ≡ 0 → slice_get m.functions k ≡ o → IsSomeAnd o (λ g. (g.first ≤ a) × (a < g.end)) → IsWordOf m a
unfolding first_code_address
in_function-word m k a None image aligned e h = absurd h
in_function-word m k a (Some g) image aligned e h =
    let f : IsFunction m g = each_at (IsFunction m) m.functions k g image.functions.each e in
    record { aligned = aligned; starts = omega arith; ends = omega arith }

-- each place begins at a code word
pub place-is_word : (m : Form) (i : ℕ) (p : Place) → IsImage m → slice_get m.places i ≡ Some p → IsWordOf m p.address
place-is_word m i p image e =
    let place : IsPlace m p = each_at (IsPlace m) m.places i p image.places.each e in
    in_function-word m p.function p.address _ image place.address_aligned refl place.in_function

-- a place of a list that has this number and this address
pub record Found (ps : List Place) (n a k : ℕ) : Type 0 where
  pub index : ℕ
  pub place : Place
  pub stands : slice_get ps index ≡ Some place
  pub address : place.address ≡ a
  pub number : k ≡ n + index

-- the number that a look-up gives is that of a place
pub place_from-found : (n : ℕ) (ps : List Place) (a k : ℕ) → place_from n ps a ≡ Some k → Found ps n a k
place_from-found n [] a k e = absurd (cc)
place_from-found n (p ∷ ps) a k e = by_test (p.address == a) refl (place_from-found (n + 1) ps a k) where
  by_test : (b : Bool) → (p.address == a) ≡ b → (place_from (n + 1) ps a ≡ Some k → Found ps (n + 1) a k) → Found (p ∷ ps) n a k
  by_test true t rest = record { index = 0; place = p; stands = refl; address = grind (arith, nat_tests); number = grind (arith, nat_tests) }
  by_test false t rest =
      let found = rest (grind (arith, nat_tests)) in
      record { index = suc found.index; place = found.place; stands = found.stands; address = found.address; number = let number : k ≡ n + 1 + found.index = found.number in omega arith }

-- the places behind the first have addresses of their own too
pub distinct-tail : (p : Place) (ps : List Place) → AreDistinct (λ (q : Place). q.address) (p ∷ ps) → AreDistinct (λ (q : Place). q.address) ps
distinct-tail p ps distinct i j x y at_i at_j e = let same : suc i ≡ suc j = distinct (suc i) (suc j) x y at_i at_j e in omega arith

pub distinct-drop : (i : ℕ) (ps : List Place) → AreDistinct (λ (q : Place). q.address) ps → AreDistinct (λ (q : Place). q.address) (drop i ps)
distinct-drop zero ps distinct = distinct
distinct-drop (suc i) [] distinct = distinct
distinct-drop (suc i) (p ∷ ps) distinct = distinct-drop i ps (distinct-tail p ps distinct)

-- the address of the first place is that of no other
pub place_from-tail : (n : ℕ) (p : Place) (ps : List Place) (a : ℕ) → AreDistinct (λ (q : Place). q.address) (p ∷ ps) → p.address ≡ a → place_from n ps a ≡ None
place_from-tail n p ps a distinct at_a = by_result (place_from n ps a) refl where
  by_result : (o : Option ℕ) → place_from n ps a ≡ o → o ≡ None
  by_result None e = refl
  by_result (Some k) e =
      let found = place_from-found n ps a k e in
      let same : 0 ≡ suc found.index = distinct 0 (suc found.index) p found.place refl found.stands (at_a ∙ sym found.address) in
      absurd (omega arith)

-- a place that is entered in a table, before the others
pub entered-step : (n w : ℕ) (p : Place) (ps : List Place) (table : List ℕ) → AreDistinct (λ (q : Place). q.address) (p ∷ ps)
    → p.address % 4 ≡ 0 → machine.code_start ≤ p.address → (p.address - machine.code_start) / 4 < length table
    → unwrap_or (place_from (n + 1) ps (word_address w)) (slice_index (slice_set table ((p.address - machine.code_start) / 4) n) w)
    ≡ unwrap_or (place_from n (p ∷ ps) (word_address w)) (slice_index table w)
unfolding first_code_address
entered-step n w p ps table distinct aligned starts within = by_test (p.address == machine.code_start + 4 * w) refl where
  by_test : (b : Bool) → (p.address == machine.code_start + 4 * w) ≡ b
      → unwrap_or (place_from (n + 1) ps (machine.code_start + 4 * w)) (slice_index (slice_set table ((p.address - machine.code_start) / 4) n) w)
      ≡ unwrap_or (if p.address == machine.code_start + 4 * w then Some n else place_from (n + 1) ps (machine.code_start + 4 * w)) (slice_index table w)
  by_test true t =
      let here : p.address ≡ machine.code_start + 4 * w = grind (arith, nat_tests) in
      let others = place_from-tail (n + 1) p ps (machine.code_start + 4 * w) distinct here in
      let index : (p.address - machine.code_start) / 4 ≡ w = omega arith in
      rw (t, others, index) (get_or-set_same table w n 0 (rw (← index) within))
  by_test false t =
      let elsewhere : w ≢ (p.address - machine.code_start) / 4 = grind (arith, nat_tests) in
      rw (t, get_or-set_other table ((p.address - machine.code_start) / 4) w n 0 elsewhere) refl

-- the number of a place fits 32 bits
pub places-fit : (m : Form) → IsImage m → length m.places + 1 < 2 ^ 32
unfolding size
places-fit m image = let whole : size m < 2 ^ 32 = image.sizes.whole in omega arith

-- each place of an image begins at a code word, by its index
pub place-at_word : (m : Form) (i : ℕ) (d : Place) → IsImage m → i < length m.places → IsWordOf m (slice_index_or m.places i d).address
place-at_word m i d image within = place-is_word m i (slice_index_or m.places i d) image (slice_get-get_or m.places i d within)

-- the index of the word at an address lies in the code
pub word-within : (m : Form) (a : ℕ) → IsWordOf m a → (a - machine.code_start) / 4 < length m.code
word-within m a word = let starts : machine.code_start ≤ a = word.starts in let ends : a < machine.code_start + 4 * length m.code = word.ends in omega arith

-- a table with one more place of the image
pub entered-more : (m : Form) (table : List ℕ) (i w : ℕ) (d : Place) → IsImage m → i < length m.places → length table ≡ length m.code
    → unwrap_or (place_from (i + 1 + 1) (drop (i + 1) m.places) (word_address w)) (slice_index (slice_set table (((slice_index_or m.places i d).address - machine.code_start) / 4) (i + 1)) w)
    ≡ unwrap_or (place_from (i + 1) (drop i m.places) (word_address w)) (slice_index table w)
entered-more m table i w d image within entries =
    let p = slice_index_or m.places i d in
    let word = place-at_word m i d image within in
    let front : drop i m.places ≡ p ∷ drop (i + 1) m.places = rw add-one (drop-cons m.places i d within) in
    let distinct : AreDistinct (λ (q : Place). q.address) (p ∷ drop (i + 1) m.places) = subst (AreDistinct (λ (q : Place). q.address)) front (distinct-drop i m.places image.places.addresses_differ) in
    rw front (entered-step (i + 1) w p (drop (i + 1) m.places) table distinct word.aligned word.starts (rw entries (word-within m p.address word)))

-- a table with all places
pub entered-all : (m : Form) (i : ℕ) (a old : ℕ) → length m.places ≤ i → unwrap_or (place_from (i + 1) (drop i m.places) a) old ≡ old
entered-all m i a old past = rw (drop_all i m.places past) refl
