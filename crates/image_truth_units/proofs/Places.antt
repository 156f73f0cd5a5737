-- The places of tables keep their rules, and so do the owners of words.
use Rattle.std.proofs.Common.{◌≡◌, ◌≢◌, ℕ, zero, suc, ◌+◌, ◌≤◌, ◌<◌, Some, List, [], ◌∷◌, length, map, slice_get, slice_index, sym, ap, ◌∙◌, subst, arith}
use Rattle.std.specs.Prelude.{IsSomeAnd}
use Rattle.std.proofs.lemmas.Option.{none-some, same_Some, slice_get_within}
use Rattle.places.specs.declared.table.PlaceRow.{PlaceRow}
use Rattle.c_tree.specs.Programs.{ProgramTree}
use Rattle.c_places.specs.Places.{Place, places_of_program}
use Rattle.c_flow.specs.Rows.{Row, flow_row, row_view}
use Rattle.graph_homes.specs.Homed.{HomedForm}
use Rattle.rv_emit_tables.specs.Emitted.{EmittedForm, FunctionCode, address_of_word}
use Rattle.image_form.specs.Form.{Form, numbered}
use Rattle.image_form.specs.RulesOfFunctions.{first_code_address}
use Rattle.image_form.specs.RulesOfPlaces.{IsInFunction, IsOwner, IsPlace, OwnerRules, PlaceRules, word_address}
use Rattle.image_form.specs.declared.tables.Function.{Function}
use Rattle.image_form.specs.declared.tables.Place.{Place as ImagePlace}
use Rattle.image_build_tables.specs.Spans.{Span, code_span, span}
use Rattle.image_build_tables.specs.Tables.{Spot, spot, spot_of_row}
use Rattle.image_truth_units.specs.ImageRulesUnits.{HasOwnPlaces}
use Rattle.image_truth_units.proofs.Accepted.{ascend_at, facts_of, falls_at, least_at}
use Rattle.image_truth_units.proofs.Functions.{places_many}
use Rattle.image_truth_units.proofs.Given.{Given}
use Rattle.image_truth_units.proofs.Lists.{across, all_from, map_at, next_from, there}
use Rattle.image_truth_units.proofs.ProgramPlaces.{in_order}
use Rattle.image_truth_units.proofs.Words.{HasWord, has_word, word_placed}

-- what an index of numbers that are not 0 gives stands there
index_there : (xs : List ℕ) (i n : ℕ) → slice_index xs i ≡ n → n ≢ 0 → slice_get xs i ≡ Some n
index_there [] i n is some = absurd (some (sym is))
index_there (x ∷ xs) zero n is some = ap (λ y. Some y) is
index_there (x ∷ xs) (suc i) n is some = index_there xs i n is some

there_index : (xs : List ℕ) (i n : ℕ) → slice_get xs i ≡ Some n → slice_index xs i ≡ n
there_index [] i n is = absurd (none-some n is)
there_index (x ∷ xs) zero n is = same_Some x n is
there_index (x ∷ xs) (suc i) n is = there_index xs i n is

module _ (p : ProgramTree) (h : HomedForm) (e : EmittedForm) (rows : List PlaceRow) (m : Form) (given : Given p h e rows m) (unit : HasOwnPlaces p h.unit) where
  -- What a place of the tables is made of.
  pub record IsSeen (i : ℕ) (x : ImagePlace) : Type 0 where
    pub at : Place
    pub is : slice_get (places_of_program p) i ≡ Some at
    pub position_is : x.position ≡ at.spot.at
    pub line_is : x.line ≡ at.spot.line
    pub function_is : x.function ≡ at.function

  pub seen_at : (i : ℕ) (x : ImagePlace) → slice_get m.places i ≡ Some x → IsSeen i x
  seen_at i x is =
      let many = places_many p h e rows m given in
      let low = slice_get_within m.places i x is in
      let q = there (places_of_program p) i (omega (arith, low, many)) in
      let r = across spot spot_of_row m.places rows i x given.tables.places is in
      let same : row_view r.0 ≡ flow_row p q.0 = same_Some (row_view r.0) (flow_row p q.0) (sym (map_at row_view rows i r.0 r.1) ∙ ap (λ l. slice_get l i) given.tables.rows_are ∙ map_at (flow_row p) (places_of_program p) i q.0 q.1) in
      record {
        at = q.0;
        is = q.1;
        position_is = sym (ap (λ (s : Spot). s.position) r.2) ∙ ap (λ (v : Row). v.position) same;
        line_is = sym (ap (λ (s : Spot). s.line) r.2) ∙ ap (λ (v : Row). v.line) same;
        function_is = sym (ap (λ (s : Spot). s.function) r.2) ∙ ap (λ (v : Row). v.function) same;
      }

  word_of : (i : ℕ) (x : ImagePlace) → slice_get m.places i ≡ Some x → HasWord e i x
  word_of i x is = let seen = seen_at i x is in has_word p h e rows m given unit i seen.at x seen.is is

  -- A word of the code of a function lies in what the tables say of it.
  in_function : (k word : ℕ) (c : FunctionCode) → slice_get e.functions k ≡ Some c → c.first ≤ address_of_word word → address_of_word word < c.end → IsInFunction m k (address_of_word word)
  in_function k word c is low high =
      let f = across code_span span e.functions m.functions k c (sym given.tables.spans) is in
      let first = ap (λ (s : Span). s.first) f.2 in
      let end = ap (λ (s : Span). s.end) f.2 in
      subst (λ o. IsSomeAnd o (λ (g : Function). (g.first ≤ address_of_word word) × (address_of_word word < g.end))) (sym f.1) (omega (arith, first, low), omega (arith, end, high))

  is_place : (i : ℕ) (x : ImagePlace) → slice_get m.places i ≡ Some x → IsPlace m x
  is_place i x is =
      let seen = seen_at i x is in
      let own = word_of i x is in
      let address_is = own.address_is in
      let owner = own.owner in
      let placed = word_placed p h e rows m given unit own.word (λ none. absurd (omega (arith, owner, none))) in
      let number = placed.number in
      let same : placed.index ≡ i = omega (arith, owner, number) in
      let at : placed.at ≡ seen.at = same_Some placed.at seen.at (sym placed.is ∙ ap (slice_get (places_of_program p)) same ∙ seen.is) in
      let function : placed.at.function ≡ x.function = ap (λ (q : Place). q.function) at ∙ sym seen.function_is in
      let line_is = seen.line_is in
      let least = least_at 1 (map (λ (q : Place). q.spot.line) (places_of_program p)) (facts_of p given.formed).lines i seen.at.spot.line (map_at (λ (q : Place). q.spot.line) (places_of_program p) i seen.at seen.is) in
      record {
        line_from_one = omega (arith, line_is, least);
        address_aligned = omega (arith, address_is);
        in_function = subst (λ a. IsInFunction m x.function a) (sym address_is) (subst (λ k. IsInFunction m k (address_of_word own.word)) function (in_function placed.at.function own.word placed.code placed.code_is placed.low placed.high));
      }

  -- THE PLACES KEEP THEIR RULES.
  pub place_rules : PlaceRules m
  place_rules = record {
    each = all_from (IsPlace m) m.places is_place;
    positions_ascend = next_from (λ (x y : ImagePlace). x.position < y.position) m.places (λ i x y is at.
        let one = seen_at i x is in let two = seen_at (suc i) y at in
        let position : List ℕ = map (λ (q : Place). q.spot.at) (places_of_program p) in
        let less = ascend_at position (facts_of p given.formed).positions i one.at.spot.at two.at.spot.at (map_at (λ (q : Place). q.spot.at) (places_of_program p) i one.at one.is) (map_at (λ (q : Place). q.spot.at) (places_of_program p) (suc i) two.at two.is) in
        let a = one.position_is in let b = two.position_is in
        omega (arith, less, a, b));
    lines_do_not_fall = next_from (λ (x y : ImagePlace). x.line ≤ y.line) m.places (λ i x y is at.
        let one = seen_at i x is in let two = seen_at (suc i) y at in
        let less = falls_at 1 (map (λ (q : Place). q.spot.line) (places_of_program p)) (facts_of p given.formed).lines i one.at.spot.line two.at.spot.line (map_at (λ (q : Place). q.spot.line) (places_of_program p) i one.at one.is) (map_at (λ (q : Place). q.spot.line) (places_of_program p) (suc i) two.at two.is) in
        let a = one.line_is in let b = two.line_is in
        omega (arith, less, a, b));
    functions_do_not_fall = next_from (λ (x y : ImagePlace). x.function ≤ y.function) m.places (λ i x y is at.
        let one = seen_at i x is in let two = seen_at (suc i) y at in
        let less = in_order 0 p.functions i (suc i) one.at two.at (omega arith) one.is two.is in
        let a = one.function_is in let b = two.function_is in
        omega (arith, less, a, b));
    addresses_differ = λ i j x y is at same.
        let one = word_of i x is in let two = word_of j y at in
        let a = one.address_is in let b = two.address_is in
        let word : one.word ≡ two.word = omega (arith, same, a, b) in
        let c = one.owner in let d = two.owner in
        let e = ap (slice_index e.owners) word in
        omega (arith, c, d, e);
  }

  -- A word that belongs to a place is one of its function.
  owner_is : (w n : ℕ) → slice_get m.owners w ≡ Some n → n ≢ 0 → IsOwner m w n
  unfolding first_code_address
  owner_is w n is some =
      let owns : slice_index e.owners w ≡ n = there_index e.owners w n (ap (λ l. slice_get l w) (sym given.tables.owners) ∙ is) in
      let placed = word_placed p h e rows m given unit w (λ none. some (sym owns ∙ none)) in
      let low = slice_get_within (places_of_program p) placed.index placed.at placed.is in
      let many = places_many p h e rows m given in
      let x = there m.places placed.index (omega (arith, low, many)) in
      let seen = seen_at placed.index x.0 x.1 in
      let same : seen.at ≡ placed.at = same_Some seen.at placed.at (sym seen.is ∙ placed.is) in
      let function : placed.at.function ≡ x.0.function = sym (ap (λ (q : Place). q.function) same) ∙ sym seen.function_is in
      let number = placed.number in
      let at : n ≡ suc placed.index = omega (arith, owns, number) in
      subst (λ o. IsSomeAnd o (λ (q : ImagePlace). IsInFunction m q.function (word_address w))) (sym (ap (numbered m.places) at ∙ x.1))
      (subst (λ k. IsInFunction m k (address_of_word w)) function (in_function placed.at.function w placed.code placed.code_is placed.low placed.high))

  -- THE OWNERS OF WORDS KEEP THEIR RULES.
  pub owner_rules : OwnerRules m
  unfolding first_code_address
  owner_rules = record {
    one_each = ap (λ (l : List ℕ). length l) given.tables.owners ∙ given.emits.owners ∙ sym (ap (λ (l : List ℕ). length l) given.tables.code);
    owned = owner_is;
    at_places = λ i w x is stands.
        let own = word_of i x is in
        let address_is = own.address_is in
        let same : own.word ≡ w = omega (arith, stands, address_is) in
        ap (λ l. slice_get l w) given.tables.owners ∙ index_there e.owners w (i + 1) (ap (slice_index e.owners) (sym same) ∙ own.owner) (λ none. absurd (omega (arith, none)));
  }
