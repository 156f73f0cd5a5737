-- Places and owners keep their rules where their rows keep their tests.
use Rattle.std.proofs.Common.{◌≡◌, ◌≢◌, ℕ, zero, suc, ◌+◌, ◌-◌, ◌<◌, ◌≤◌, true, false, List, length, get_or, Option, Some, None, refl, sym, ap, ◌∙◌, arith, inl, inr}
use Rattle.std.specs.Prelude.{map, slice_get, slice_index, ◌==◌}
use Rattle.std.specs.List.{position_from}
use Rattle.std.specs.Option.{option_map, option_map_or}
use Rattle.std.proofs.lemmas.Bool.{and_parts, eqb-true, eq-eqb, and_from, or_cases}
use Rattle.std.proofs.lemmas.Bool.Decides.{nat_tests}
use Rattle.std.proofs.lemmas.List.{length-map}
use Rattle.std.proofs.lemmas.Option.{slice_get_within, slice_get-get_or, slice_get-map, same_Some}
use Rattle.image_form.specs.declared.tables.Function.{Function}
use Rattle.image_form.specs.declared.tables.Place.{Place}
use Rattle.image_form.specs.Decoding.{sections_of, word_numbers}
use Rattle.image_form.specs.Form.{Form}
use Rattle.image_form.specs.Lists.{AreDistinct}
use Rattle.image_form.specs.Numbers.{function_numbers, place_numbers}
use Rattle.image_form.specs.RulesOfFunctions.{IsFunction, FunctionRules}
use Rattle.image_form.specs.RulesOfPlaces.{IsInFunction, IsPlace, PlaceRules, IsOwner, OwnerRules, word_address}
use Rattle.image_form_sections.specs.Sections.{cell}
use Rattle.image_form_sections.specs.TestsOfCode.{place_tests, owner_tests, is_first_place, is_place_address, is_owner, is_marked}
use Rattle.image_form_sections.specs.TestsOfTables.{within, is_place, is_above, is_not_below, is_in_function}
use Rattle.image_form.proofs.Kept.{AllTrue, row_is, next_from, next_at, before_at, at_each, map_at}
use Rattle.image_form.proofs.Positions.{position_only, position_is}
use Rattle.image_form.proofs.RecordsBack.{some_and, number_there}
use Rattle.image_form.proofs.TableLaws.{each_at, each_from}

-- An option's test that is kept.
pub passed_some : (o : Option ℕ) (i : ℕ) → option_map_or (λ j. j == i) o false ≡ true → o ≡ Some i
passed_some None i e = absurd cc
passed_some (Some j) i e = ap Some (eqb-true j i e)

module _ (f : Form) where
  abbrev pub PlacesKept : Type 0
  PlacesKept = (i : ℕ) → i < length f.places → AllTrue (place_tests (sections_of f) i)

  -- The address lies in a function that is there.
  in_function_is : (k address : ℕ) (g : Function) → slice_get f.functions k ≡ Some g → is_in_function (sections_of f) k address ≡ true → IsInFunction f k address
  unfolding is_in_function
  in_function_is k address g at kept =
      let t = rw (row_is (function_numbers f.version.level) f.functions k g at) at kept in
      rw at (grind (arith, nat_tests, t), grind (arith, nat_tests, t))

  in_function_kept : (k address : ℕ) → IsInFunction f k address → is_in_function (sections_of f) k address ≡ true
  unfolding is_in_function
  in_function_kept k address inside =
      let g = some_and (slice_get f.functions k) _ inside in
      rw (row_is (function_numbers f.version.level) f.functions k g.0 g.1) (grind (arith, nat_tests, g.2))

  first_place_at : (i address : ℕ) → is_first_place (sections_of f) i address ≡ true → position_from (λ q. slice_index q 3 == address) 0 (map place_numbers f.places) ≡ Some i
  unfolding is_first_place
  first_place_at i address kept = passed_some (position_from (λ q. slice_index q 3 == address) 0 (map place_numbers f.places)) i kept

  one_sound : (i : ℕ) (p : Place) → slice_get f.places i ≡ Some p → AllTrue (place_tests (sections_of f) i) → IsPlace f p × (is_first_place (sections_of f) i p.address ≡ true)
  unfolding is_place_address is_not_below is_above
  one_sound i p at kept =
      let k = rw (row_is place_numbers f.places i p at, length-map f.functions (function_numbers f.version.level)) at kept in
      let here : p.function < length f.functions = grind (arith, nat_tests, k.1.1.0) in
      let outer = and_parts _ _ k.1.1.1.0 in
      let inner = and_parts _ _ outer.0 in
      let d : Function = record { name_length = 0; first = 0; end = 0; frame = 0; entry = 0; saved = 0 } in (
        record {
          line_from_one = grind (arith, nat_tests, k.1.0);
          address_aligned = eqb-true _ _ inner.0;
          in_function = in_function_is p.function p.address (get_or f.functions p.function d) (slice_get-get_or f.functions p.function d here) inner.1;
        },
        outer.1,
      )

  next_sound : (j : ℕ) (p q : Place) → slice_get f.places j ≡ Some p → slice_get f.places (suc j) ≡ Some q → AllTrue (place_tests (sections_of f) (suc j)) → (p.position < q.position) × (p.line ≤ q.line) × (p.function ≤ q.function)
  unfolding is_not_below is_above
  next_sound j p q at_p at_q kept =
      let k = rw (row_is place_numbers f.places j p at_p, row_is place_numbers f.places (suc j) q at_q) at kept in
      (grind (arith, nat_tests, k.0), grind (arith, nat_tests, k.1.0), grind (arith, nat_tests, k.1.1.0))

  pub places_sound : PlacesKept → PlaceRules f
  places_sound kept =
      let own = λ (i : ℕ) (p : Place) (at : slice_get f.places i ≡ Some p). one_sound i p at (kept i (slice_get_within f.places i p at)) in
      let next = λ (j : ℕ) (p q : Place) (at_p : slice_get f.places j ≡ Some p) (at_q : slice_get f.places (suc j) ≡ Some q). next_sound j p q at_p at_q (kept (suc j) (slice_get_within f.places (suc j) q at_q)) in
      record {
        each = each_from (IsPlace f) f.places (λ i p at. (own i p at).0);
        positions_ascend = next_from _ f.places (λ j p q at_p at_q. (next j p q at_p at_q).0);
        lines_do_not_fall = next_from _ f.places (λ j p q at_p at_q. (next j p q at_p at_q).1);
        functions_do_not_fall = next_from _ f.places (λ j p q at_p at_q. (next j p q at_p at_q).2);
        addresses_differ = λ i j p q at_p at_q same.
            let first_i = first_place_at i p.address (own i p at_p).1 in
            let first_j = first_place_at j q.address (own j q at_q).1 in
            same_Some i j (sym first_i ∙ ap (λ (a : ℕ). position_from (λ q. slice_index q 3 == a) 0 (map place_numbers f.places)) same ∙ first_j);
      }

  -- The only place with an address is the first.
  first_of_distinct : AreDistinct (λ (p : Place). p.address) f.places → (i : ℕ) (p : Place) → slice_get f.places i ≡ Some p → (address : ℕ) → p.address ≡ address → position_from (λ q. slice_index q 3 == address) 0 (map place_numbers f.places) ≡ Some i
  first_of_distinct distinct i p at address same =
      let here : slice_get (map place_numbers f.places) i ≡ Some (place_numbers p) = slice_get-map place_numbers f.places i ∙ ap (option_map place_numbers) at in
      position_only (λ q. slice_index q 3 == address) 0 (map place_numbers f.places) i (place_numbers p) here (eq-eqb p.address address same) (λ j row at_row pass.
      let q = map_at place_numbers f.places j row at_row in
      let its : q.0.address ≡ address = ap (λ (r : List ℕ). slice_index r 3) q.2 ∙ eqb-true (slice_index row 3) address pass in
      distinct j i q.0 p q.1 at (its ∙ sym same))
      ∙ ap Some (let none : 0 + i ≡ i = omega arith in none)

  first_kept : AreDistinct (λ (p : Place). p.address) f.places → (i : ℕ) (p : Place) → slice_get f.places i ≡ Some p → is_first_place (sections_of f) i p.address ≡ true
  unfolding is_first_place
  first_kept distinct i p at = rw (first_of_distinct distinct i p at p.address refl) (eq-eqb i i refl)

  address_kept : (i : ℕ) (p : Place) → slice_get f.places i ≡ Some p → IsPlace f p → PlaceRules f → is_place_address (sections_of f) i ≡ true
  unfolding is_place_address
  address_kept i p at is rules =
      rw (row_is place_numbers f.places i p at) (and_from _ _ (and_from _ _ (eq-eqb _ _ is.address_aligned) (in_function_kept p.function p.address is.in_function)) (first_kept rules.addresses_differ i p at))

  one_complete : (i : ℕ) (p : Place) → slice_get f.places i ≡ Some p → IsPlace f p → PlaceRules f → AllTrue (place_tests (sections_of f) i)
  unfolding is_not_below is_above
  one_complete zero p at is rules =
      let here = number_there f.functions p.function _ is.in_function in
      let address = address_kept 0 p at is rules in
      rw (row_is place_numbers f.places 0 p at, length-map f.functions (function_numbers f.version.level)) (refl, (grind (arith, nat_tests, is.line_from_one), (grind (arith, nat_tests, here), (address, tt))))
  one_complete (suc j) p at is rules =
      let before = before_at f.places j p at in
      let above = next_at _ f.places rules.positions_ascend j before.0 p before.1 at in
      let line = next_at _ f.places rules.lines_do_not_fall j before.0 p before.1 at in
      let function = next_at _ f.places rules.functions_do_not_fall j before.0 p before.1 at in
      let here = number_there f.functions p.function _ is.in_function in
      let address = address_kept (suc j) p at is rules in
      rw (row_is place_numbers f.places j before.0 before.1, row_is place_numbers f.places (suc j) p at, length-map f.functions (function_numbers f.version.level)) (
        grind (arith, nat_tests, above),
        (grind (arith, nat_tests, is.line_from_one, line), (grind (arith, nat_tests, here, function), (address, tt))),
      )

  pub places_complete : PlaceRules f → PlacesKept
  places_complete rules = at_each f.places _ (λ i p at. one_complete i p at (each_at (IsPlace f) f.places i p rules.each at) rules)

  -- ---- owners

  abbrev pub OwnersKept : Type 0
  OwnersKept = (w : ℕ) → w < length f.owners → AllTrue (owner_tests (sections_of f) w)

  no_place : Place
  no_place = record { position = 0; line = 0; function = 0; address = 0 }

  no_code : Function
  no_code = record { name_length = 0; first = 0; end = 0; frame = 0; entry = 0; saved = 0 }

  own_sound : (w n : ℕ) → slice_get f.owners w ≡ Some n → PlaceRules f → is_owner (sections_of f) w ≡ true → n ≢ 0 → IsOwner f w n
  unfolding is_owner is_place
  own_sound w zero at rules kept some = absurd (some refl)
  own_sound w (suc m) at rules kept some =
      let one_less : suc m - 1 ≡ m = omega arith in
      let either = or_cases _ _ (rw (row_is word_numbers f.owners w (suc m) at, length-map f.places place_numbers) at kept) in
      elim either [
        | inl none ↦ absurd (let zero_is = eqb-true (suc m) 0 none in omega (arith, zero_is))
        | inr own ↦
            let parts = and_parts (within 1 (length f.places) (suc m)) (is_in_function (sections_of f) (cell (map place_numbers f.places) (suc m - 1) 2) (word_address w)) own in
            let there : m < length f.places = grind (arith, nat_tests, parts.0) in
            let p = get_or f.places m no_place in
            let at_p = slice_get-get_or f.places m no_place there in
            let its = each_at (IsPlace f) f.places m p rules.each at_p in
            let there_too = number_there f.functions p.function _ its.in_function in
            let at_g = slice_get-get_or f.functions p.function no_code there_too in
            let inside = rw (one_less, row_is place_numbers f.places m p at_p) at parts.1 in
            rw at_p (in_function_is p.function (word_address w) (get_or f.functions p.function no_code) at_g inside)
      ]

  marked_sound : (i w n : ℕ) (p : Place) → slice_get f.places i ≡ Some p → p.address ≡ word_address w → slice_get f.owners w ≡ Some n → PlaceRules f → is_marked (sections_of f) w ≡ true → n ≡ i + 1
  unfolding is_marked
  marked_sound i w n p at_p same at_n rules kept =
      eqb-true n (i + 1) (rw (first_of_distinct rules.addresses_differ i p at_p (word_address w) same, row_is word_numbers f.owners w n at_n) at kept)

  pub owners_sound : FunctionRules f → PlaceRules f → length f.owners ≡ length f.code → OwnersKept → OwnerRules f
  owners_sound functions places one_each kept = record {
    one_each = one_each;
    owned = λ w n at some. own_sound w n at places (and_parts _ _ (kept w (slice_get_within f.owners w n at)).0).0 some;
    at_places = λ i w p at_p same.
        let its = each_at (IsPlace f) f.places i p places.each at_p in
        let g = some_and (slice_get f.functions p.function) _ its.in_function in
        let code = (each_at (IsFunction f) f.functions p.function g.0 functions.each g.1).end_in_code in
        let there : w < length f.owners = omega (arith, g.2.1, code, same, one_each) in
        let at_n = slice_get-get_or f.owners w 0 there in
        at_n ∙ ap Some (marked_sound i w (get_or f.owners w 0) p at_p same at_n places (and_parts _ _ (kept w there).0).1);
  }

  own_complete : (w n : ℕ) → slice_get f.owners w ≡ Some n → OwnerRules f → is_owner (sections_of f) w ≡ true
  unfolding is_owner is_place
  own_complete w zero at rules = rw (row_is word_numbers f.owners w 0 at) refl
  own_complete w (suc m) at rules =
      let one_less : suc m - 1 ≡ m = omega arith in
      let p = some_and (slice_get f.places m) _ (rules.owned w (suc m) at (λ e. omega (arith, e))) in
      let there = slice_get_within f.places m p.0 p.1 in
      let inside = in_function_kept p.0.function (word_address w) p.2 in
      rw (row_is word_numbers f.owners w (suc m) at, length-map f.places place_numbers, one_less, row_is place_numbers f.places m p.0 p.1, inside) (grind (arith, nat_tests, there))

  marked_complete : (w n : ℕ) → slice_get f.owners w ≡ Some n → OwnerRules f → is_marked (sections_of f) w ≡ true
  unfolding is_marked
  marked_complete w n at rules =
      rw (row_is word_numbers f.owners w n at) (go (position_from (λ q. slice_index q 3 == word_address w) 0 (map place_numbers f.places)) refl)
    where
      go : (o : Option ℕ) → position_from (λ q. slice_index q 3 == word_address w) 0 (map place_numbers f.places) ≡ o → option_map_or (λ j. n == j + 1) o true ≡ true
      go None e = refl
      go (Some k) e =
          let found = position_is (λ q. slice_index q 3 == word_address w) 0 (map place_numbers f.places) k e in
          let q = map_at place_numbers f.places found.0 found.1 found.3 in
          let same : q.0.address ≡ word_address w = ap (λ (r : List ℕ). slice_index r 3) q.2 ∙ eqb-true (slice_index found.1 3) (word_address w) found.4 in
          let owned = same_Some n (found.0 + 1) (sym at ∙ rules.at_places found.0 w q.0 q.1 same) in
          eq-eqb n (k + 1) (omega (arith, owned, found.2))

  pub owners_complete : OwnerRules f → OwnersKept
  owners_complete rules = at_each f.owners _ (λ w n at. (and_from _ _ (own_complete w n at rules) (marked_complete w n at rules), tt))
