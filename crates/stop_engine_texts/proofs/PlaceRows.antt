-- The rows of a place, by their numbers.
use Rattle.std.proofs.Common.{◌≡◌, ℕ, suc, ◌+◌, ◌-◌, ◌<◌, ◌≤◌, ◌==◌, Bool, true, false, leb, ltb, Some, None, List, [], ◌∷◌, length, get_or, take, drop, refl, sym, ap, ◌∙◌, subst, arith}
use Rattle.std.specs.Prelude.{bytes_eq, slice_get}
use Rattle.std.specs.List.{AllWithin, slice_range}
use Rattle.std.specs.List.Sorted.{IsNonDecreasingBy}
use Rattle.std.proofs.Math.Bool.{and-false}
use Rattle.std.proofs.lemmas.Bool.Decides.{nat_tests}
use Rattle.std.proofs.lemmas.List.{get_or-drop, length-drop}
use Rattle.std.proofs.lemmas.Option.{slice_get_within}
use Rattle.image_form.specs.Form.{Form}
use Rattle.image_form.specs.Names.{variable_name}
use Rattle.image_form.specs.declared.verdicts.VisibleRow.{VisibleRow}
use Rattle.stop_engine_tables.proofs.Records.{record_at, records_from}
use Rattle.stop_engine_texts.specs.Shown.{first_row_of}
use Rattle.stop_engine_view.specs.Rows.{rows_at}
use Rattle.stop_engine_view.proofs.RowsByPlace.{side_by_side}

abbrev pub AreBefore : (place : ℕ) → List VisibleRow → (from to : ℕ) → Type 0
AreBefore place rows from to = AllWithin (λ (r : VisibleRow). r.place < place) rows from to

abbrev pub AreFrom : (place : ℕ) → List VisibleRow → (from to : ℕ) → Type 0
AreFrom place rows from to = AllWithin (λ (r : VisibleRow). place ≤ r.place) rows from to

-- ---- The search for the first row of a place

-- up to a row of an earlier place all are of earlier places
pub before_more : (place middle : ℕ) (r : VisibleRow) (rows : List VisibleRow) → IsNonDecreasingBy (λ (r : VisibleRow). r.place) rows → slice_get rows middle ≡ Some r → r.place < place
    → AreBefore place rows 0 (middle + 1)
before_more place middle r rows ascend at less k d from lt =
    let le = ascend k middle d (omega (arith, lt)) (slice_get_within rows middle r at) in
    let here : r.place ≡ (get_or rows middle d).place = ap (λ (r : VisibleRow). r.place) (record_at rows middle r d at) in
    omega (arith, le, here, less)

-- from a row of the place or a later one on all are
pub behind_more : (place middle : ℕ) (r : VisibleRow) (rows : List VisibleRow) → IsNonDecreasingBy (λ (r : VisibleRow). r.place) rows → slice_get rows middle ≡ Some r → place ≤ r.place
    → AreFrom place rows middle (length rows)
behind_more place middle r rows ascend at least k d from lt =
    let le = ascend middle k d from lt in
    let here : r.place ≡ (get_or rows middle d).place = ap (λ (r : VisibleRow). r.place) (record_at rows middle r d at) in
    omega (arith, le, here, least)

-- ---- From the first row of a place to the first one of a later place

-- the one does not lie behind the other
pub in_order : (place start end : ℕ) (rows : List VisibleRow) → start ≤ length rows → AreBefore place rows 0 start → AreFrom (place + 1) rows end (length rows) → start ≤ end
in_order place start end [] within before behind = omega (arith, within)
in_order place start end (r ∷ rows) within before behind = by_test (leb start end) refl
  where
    by_test : (b : Bool) → leb start end ≡ b → start ≤ end
    by_test true t = grind (arith, nat_tests, t)
    by_test false t =
        let lt : end < start = grind (arith, nat_tests, t) in
        let less = before end r (omega arith) lt in
        let more = behind end r (omega arith) (omega (arith, lt, within)) in
        absurd (omega (arith, less, more))

-- those between are of the place
pub of_place : (place start end : ℕ) (rows : List VisibleRow) → end ≤ length rows → AreFrom place rows start (length rows) → AreBefore (place + 1) rows 0 end
    → AllWithin (λ (r : VisibleRow). r.place ≡ place) rows start end
of_place place start end rows within behind before k d from lt =
    let least = behind k d from (omega (arith, lt, within)) in
    let most = before k d (omega arith) lt in
    omega (arith, least, most)

-- and no others are
pub rows_between : (place start end : ℕ) (rows : List VisibleRow) → AreBefore place rows 0 start → AreFrom place rows start (length rows) → AreBefore (place + 1) rows 0 end → AreFrom (place + 1) rows end (length rows)
    → slice_range rows start end ≡ rows_at place rows
rows_between place start end rows before behind before_end behind_end =
    side_by_side place rows start (end - start) (first_before, first_behind) (last_before, last_behind)
  where
    first_before : AllWithin (λ (r : VisibleRow). ltb r.place place ≡ true) rows 0 start
    first_before k d from lt = let less = before k d from lt in grind (arith, nat_tests, less)

    first_behind : AllWithin (λ (r : VisibleRow). ltb r.place place ≡ false) rows start (length rows)
    first_behind k d from lt = let least = behind k d from lt in grind (arith, nat_tests, least)

    last_before : AllWithin (λ (r : VisibleRow). leb r.place place ≡ true) (drop start rows) 0 (end - start)
    last_before k d from lt =
        let less = before_end (start + k) d (omega arith) (omega (arith, lt)) in
        ap (λ (r : VisibleRow). leb r.place place) (get_or-drop start rows k d) ∙ grind (arith, nat_tests, less)

    last_behind : AllWithin (λ (r : VisibleRow). leb r.place place ≡ false) (drop start rows) (end - start) (length (drop start rows))
    last_behind k d from lt =
        let more = behind_end (start + k) d (omega (arith, from)) (omega (arith, lt, length-drop start rows)) in
        ap (λ (r : VisibleRow). leb r.place place) (get_or-drop start rows k d) ∙ grind (arith, nat_tests, more)

-- what holds of each row of these numbers holds of the row of one
pub holds_at : (P : VisibleRow → Type 0) (rows : List VisibleRow) (start end n : ℕ) (r : VisibleRow) → AllWithin P rows start end → start ≤ n → n < end → slice_get rows n ≡ Some r → P r
holds_at P rows start end n r all from lt at = subst P (sym (record_at rows n r r at)) (all n r from lt)

-- ---- The first row of a name among them

-- none is left
pub row_none : (m : Form) (place n end : ℕ) (name : List ℕ) → end ≤ n → first_row_of m place name (slice_range m.rows n end) ≡ None
row_none m place n end name past =
    let count : end - n ≡ 0 = omega (arith, past) in
    ap (λ k. first_row_of m place name (take k (drop n m.rows))) count

-- the next one of a range of rows
pub next_row : (n end : ℕ) (r : VisibleRow) (rows : List VisibleRow) → n < end → slice_get rows n ≡ Some r → slice_range rows n end ≡ r ∷ slice_range rows (n + 1) end
next_row n end r rows lt at =
    let count : end - n ≡ suc (end - (n + 1)) = omega (arith, lt) in
    ap (λ l. take (end - n) l) (records_from rows n r at) ∙ ap (λ k. take k (r ∷ drop (n + 1) rows)) count

pub past_rows : (n end : ℕ) (rows : List VisibleRow) → end ≤ n → slice_range rows n end ≡ []
past_rows n end rows past =
    let count : end - n ≡ 0 = omega (arith, past) in
    ap (λ k. take k (drop n rows)) count

is_of_place : (place : ℕ) (r : VisibleRow) → r.place ≡ place → (r.place == place) ≡ true
is_of_place place r of = grind (arith, nat_tests, of)

pub row_here : (m : Form) (place n end : ℕ) (name : List ℕ) (r : VisibleRow) → n < end → slice_get m.rows n ≡ Some r → r.place ≡ place → bytes_eq (variable_name m r.variable) name ≡ true
    → first_row_of m place name (slice_range m.rows n end) ≡ Some r
row_here m place n end name r lt at of is = rw (next_row n end r m.rows lt at, is_of_place place r of, is) refl

pub row_behind : (m : Form) (place n end : ℕ) (name : List ℕ) (r : VisibleRow) → n < end → slice_get m.rows n ≡ Some r → bytes_eq (variable_name m r.variable) name ≡ false
    → first_row_of m place name (slice_range m.rows n end) ≡ first_row_of m place name (slice_range m.rows (n + 1) end)
row_behind m place n end name r lt at other = rw (next_row n end r m.rows lt at, other, and-false (r.place == place)) refl
