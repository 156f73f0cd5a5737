-- Visible rows keep their rules where their numbers keep their tests.
use Rattle.std.proofs.Common.{◌≡◌, ◌≢◌, ℕ, zero, suc, ◌-◌, ◌<◌, Bool, true, false, ◌&&◌, List, [], ◌∷◌, length, get_or, Option, Some, None, true≢false, refl, sym, ap, arith}
use Rattle.std.specs.Prelude.{map, slice_get, unwrap_or, ◌==◌, ◌||◌, nat_le, nat_lt, if◌then◌else◌}
use Rattle.std.specs.List.{AllByRecursion}
use Rattle.std.proofs.lemmas.Bool.{eq-eqb, ne_eqb, eqb-true, and_parts, and_from}
use Rattle.std.proofs.lemmas.Bool.Decides.{nat_tests}
use Rattle.std.proofs.lemmas.List.{length-map}
use Rattle.std.proofs.lemmas.Option.{slice_get_within, slice_get-get_or}
use Rattle.image_form.specs.declared.tables.Change.{Change}
use Rattle.debug_records.specs.declared.change.Kind.{Kind}
use Rattle.debug_records.specs.declared.change.Kind.TheVariants.{Removed, Moved, Reused, Replaced, Sunk}
use Rattle.image_form.specs.declared.tables.Place.{Place}
use Rattle.image_form.specs.declared.variables.ElementType.TheVariants.{U8}
use Rattle.image_form.specs.declared.variables.Storage.TheVariants.{Static}
use Rattle.image_form.specs.declared.variables.Variable.{Variable}
use Rattle.image_form.specs.declared.verdicts.Verdict.{Verdict}
use Rattle.image_form.specs.declared.verdicts.Verdict.TheVariants.{Home, Recovered, Noncurrent, Nonresident}
use Rattle.image_form.specs.declared.verdicts.VisibleRow.{VisibleRow}
use Rattle.image_form.specs.Decoding.{sections_of, word_numbers}
use Rattle.image_form.specs.Form.{Form, numbered}
use Rattle.image_form.specs.Numbers.{place_numbers, no_function, variable_numbers, kind_number, change_numbers, verdict_then, last_if, row_numbers, node_numbers}
use Rattle.image_form.specs.RulesOfChanges.{AssignedRules, IsPairBefore}
use Rattle.image_form.specs.RulesOfFunctions.{IsCodeAddress, IsPlaceNumber, first_code_address}
use Rattle.image_form.specs.RulesOfPlaces.{IsPlace, PlaceRules}
use Rattle.image_form.specs.RulesOfRows.{IsVisible, IsWriter, IsVerdict, IsQuietStart, RowRules}
use Rattle.image_form_sections.specs.Versions.{has_quiet}
use Rattle.image_form_sections.specs.Sections.{cell}
use Rattle.image_form_sections.specs.TestsOfChanges.{is_visible, is_change, is_node_or_start, is_taking, is_writer, is_quiet_place, is_quiet_start, row_tests}
use Rattle.image_form_sections.specs.TestsOfTables.{within, is_place, is_not_below, is_pair_above, is_code_address}
use Rattle.image_form.proofs.Kept.{AllTrue, row_is, next_from, next_at, before_at, at_each}
use Rattle.image_form.proofs.RecordsBack.{assigned_there, some_and, number_there}
use Rattle.image_form.proofs.QuietPlaces.{quiet_place_complete, quiet_place_sound}
use Rattle.image_form.proofs.TableLaws.{each_at, each_from}

-- No writer has the address that stands for none.
abbrev pub TellsWriter : Verdict → Type 0
TellsWriter Home = Unit {0}
TellsWriter (Recovered change node) = Unit {0}
TellsWriter (Noncurrent change start writer) = writer ≢ Some 0
TellsWriter (Nonresident change start writer) = writer ≢ Some 0

abbrev pub TellsWriters : Form → Type 0
TellsWriters f = AllByRecursion (λ r. TellsWriter r.verdict) f.rows

-- No quiet path begins at the number that stands for none, nor in a version that does not tell.
abbrev pub TellsQuiet : Form → Type 0
TellsQuiet f = AllByRecursion (λ r. r.quiet ≢ Some 0) f.rows × (has_quiet f.version.level ≡ false → AllByRecursion (λ r. r.quiet ≡ None) f.rows)

no_place : Place
no_place = record { position = 0; line = 0; function = 0; address = 0 }

no_change : Change
no_change = record { pass_length = 0; kind = Removed; place = 0; variable = 0 }

no_variable : Variable
no_variable = record { name_length = 0; function = None; position = 0; element = U8; storage = Static 0; count = 0 }

module _ (f : Form) where
  abbrev pub RowsKept : Type 0
  RowsKept = (i : ℕ) → i < length f.rows → AllTrue (row_tests (sections_of f) i)

  -- The variable of a place.
  visible_sound : (place variable : ℕ) → length f.functions < no_function → PlaceRules f → IsPlaceNumber f place → variable < length f.variables
      → cell (map variable_numbers f.variables) variable 1 ≡ cell (map place_numbers f.places) (place - 1) 2 → IsVisible f place variable
  visible_sound zero variable few rules is there same = absurd (omega (arith, is.0))
  visible_sound (suc m) variable few rules is there same =
      let one_less : suc m - 1 ≡ m = omega arith in
      let at_p = slice_get-get_or f.places m no_place (omega (arith, is.1)) in
      let p = get_or f.places m no_place in
      let at_v = slice_get-get_or f.variables variable no_variable there in
      let v = get_or f.variables variable no_variable in
      let here = number_there f.functions p.function _ (each_at (IsPlace f) f.places m p rules.each at_p).in_function in
      let told : unwrap_or v.function no_function ≡ p.function = rw (one_less, row_is variable_numbers f.variables variable v at_v, row_is place_numbers f.places m p at_p) at same in
      rw (at_p, at_v) (go v.function p.function told (omega (arith, here, few)))
    where
      go : (function : Option ℕ) (k : ℕ) → unwrap_or function no_function ≡ k → k < no_function → function ≡ Some k
      go None k told few = absurd (omega (arith, told, few))
      go (Some n) k told few = ap Some told

  visible_complete : (place variable : ℕ) → IsVisible f place variable
      → IsPlaceNumber f place × (variable < length f.variables) × (cell (map variable_numbers f.variables) variable 1 ≡ cell (map place_numbers f.places) (place - 1) 2)
  visible_complete zero variable is = absurd is
  visible_complete (suc m) variable is =
      let one_less : suc m - 1 ≡ m = omega arith in
      let p = some_and (slice_get f.places m) _ is in
      let v = some_and (slice_get f.variables variable) _ p.2 in
      let there = slice_get_within f.places m p.0 p.1 in (
        (omega arith, omega (arith, there)),
        slice_get_within f.variables variable v.0 v.1,
        rw (one_less, row_is variable_numbers f.variables variable v.0 v.1, row_is place_numbers f.places m p.0 p.1, v.2) refl,
      )

  -- The change of a number, with its variable.
  change_sound : (change variable : ℕ) → (within 1 (length f.changes) change && cell (map change_numbers f.changes) (change - 1) 3 == variable) ≡ true
      → (c : Change) × (numbered f.changes change ≡ Some c) × (c.variable ≡ variable) × (cell (map change_numbers f.changes) (change - 1) 1 ≡ kind_number c.kind)
  change_sound zero variable kept = absurd cc
  change_sound (suc m) variable kept =
      let one_less : suc m - 1 ≡ m = omega arith in
      let parts = and_parts (within 1 (length f.changes) (suc m)) (cell (map change_numbers f.changes) (suc m - 1) 3 == variable) kept in
      let there : m < length f.changes = grind (arith, nat_tests, parts.0) in
      let c = get_or f.changes m no_change in
      let at = slice_get-get_or f.changes m no_change there in
      let its : (c.variable == variable) ≡ true = rw (one_less, row_is change_numbers f.changes m c at) at parts.1 in
      (c, at, eqb-true c.variable variable its, rw (one_less, row_is change_numbers f.changes m c at) refl)

  change_complete : (change variable : ℕ) (c : Change) → numbered f.changes change ≡ Some c → c.variable ≡ variable
      → ((within 1 (length f.changes) change && cell (map change_numbers f.changes) (change - 1) 3 == variable) ≡ true) × (cell (map change_numbers f.changes) (change - 1) 1 ≡ kind_number c.kind)
  change_complete zero variable c at same = absurd cc
  change_complete (suc m) variable c at same =
      let one_less : suc m - 1 ≡ m = omega arith in
      let there = slice_get_within f.changes m c at in
      rw (one_less, row_is change_numbers f.changes m c at) (and_from (within 1 (length f.changes) (suc m)) (c.variable == variable) (grind (arith, nat_tests, there)) (eq-eqb c.variable variable same), refl)

  code_sound : (a : ℕ) → is_code_address (sections_of f) a ≡ true → IsCodeAddress f a
  unfolding is_code_address
  code_sound a kept = let k = rw (length-map f.code word_numbers) at kept in grind (arith, nat_tests, k)

  code_complete : (a : ℕ) → IsCodeAddress f a → is_code_address (sections_of f) a ≡ true
  unfolding is_code_address
  code_complete a is = rw (length-map f.code word_numbers) (grind (arith, nat_tests, is))

  place_sound : (n : ℕ) → is_place (sections_of f) n ≡ true → IsPlaceNumber f n
  unfolding is_place
  place_sound n kept = let k = rw (length-map f.places place_numbers) at kept in grind (arith, nat_tests, k)

  place_complete : (n : ℕ) → IsPlaceNumber f n → is_place (sections_of f) n ≡ true
  unfolding is_place
  place_complete n is = rw (length-map f.places place_numbers) (grind (arith, nat_tests, is))

  -- The writer of a change.
  writer_sound : (kind : Kind) (writer : Option ℕ) → writer ≢ Some 0 → (if is_taking (kind_number kind) then unwrap_or writer 0 == 0 else is_code_address (sections_of f) (unwrap_or writer 0)) ≡ true → IsWriter f kind writer
  unfolding first_code_address
  writer_sound Removed None told kept = refl
  writer_sound Removed (Some a) told kept = absurd (told (ap Some (eqb-true a 0 kept)))
  writer_sound Moved None told kept = absurd (let a = code_sound 0 kept in omega (arith, a.1))
  writer_sound Moved (Some a) told kept = (refl, code_sound a kept)
  writer_sound Reused None told kept = absurd (let a = code_sound 0 kept in omega (arith, a.1))
  writer_sound Reused (Some a) told kept = (refl, code_sound a kept)
  writer_sound Replaced None told kept = absurd (let a = code_sound 0 kept in omega (arith, a.1))
  writer_sound Replaced (Some a) told kept = (refl, code_sound a kept)
  writer_sound Sunk None told kept = refl
  writer_sound Sunk (Some a) told kept = absurd (told (ap Some (eqb-true a 0 kept)))

  writer_complete : (kind : Kind) (writer : Option ℕ) → IsWriter f kind writer → (if is_taking (kind_number kind) then unwrap_or writer 0 == 0 else is_code_address (sections_of f) (unwrap_or writer 0)) ≡ true
  writer_complete Removed None is = refl
  writer_complete Removed (Some a) is = absurd (true≢false is.0)
  writer_complete Moved None is = absurd (true≢false (sym is))
  writer_complete Moved (Some a) is = code_complete a is.1
  writer_complete Reused None is = absurd (true≢false (sym is))
  writer_complete Reused (Some a) is = code_complete a is.1
  writer_complete Replaced None is = absurd (true≢false (sym is))
  writer_complete Replaced (Some a) is = code_complete a is.1
  writer_complete Sunk None is = refl
  writer_complete Sunk (Some a) is = absurd (true≢false is.0)

  -- What a verdict may name.
  verdict_sound : (i place variable : ℕ) (v : Verdict) (more : List ℕ) → get_or (map (row_numbers f.version.level) f.rows) i [] ≡ place ∷ variable ∷ verdict_then v more → TellsWriter v
      → is_change (sections_of f) i ≡ true → is_node_or_start (sections_of f) i ≡ true → is_writer (sections_of f) i ≡ true → IsVerdict f variable v
  unfolding is_change is_node_or_start is_writer
  verdict_sound i place variable Home more row told change node writer = tt
  verdict_sound i place variable (Recovered n k) more row told change node writer =
      let c = change_sound n variable (rw (row, length-map f.changes change_numbers) at change) in
      let there = rw (row, length-map f.nodes node_numbers) at node in
      (rw c.1 c.2, grind (arith, nat_tests, there))
  verdict_sound i place variable (Noncurrent n start w) more row told change node writer =
      let c = change_sound n variable (rw (row, length-map f.changes change_numbers) at change) in
      let its = writer_sound c.0.kind w told (rw (row, c.3) at writer) in
      (rw c.1 (c.2, its), place_sound start (rw row at node))
  verdict_sound i place variable (Nonresident n start w) more row told change node writer =
      let c = change_sound n variable (rw (row, length-map f.changes change_numbers) at change) in
      let its = writer_sound c.0.kind w told (rw (row, c.3) at writer) in
      (rw c.1 (c.2, its), place_sound start (rw row at node))

  verdict_complete : (i place variable : ℕ) (v : Verdict) (more : List ℕ) → get_or (map (row_numbers f.version.level) f.rows) i [] ≡ place ∷ variable ∷ verdict_then v more → IsVerdict f variable v
      → (is_change (sections_of f) i ≡ true) × (is_node_or_start (sections_of f) i ≡ true) × (is_writer (sections_of f) i ≡ true)
  unfolding is_change is_node_or_start is_writer
  verdict_complete i place variable Home more row is = rw row (refl, refl, refl)
  verdict_complete i place variable (Recovered n k) more row is =
      let c = some_and (numbered f.changes n) _ is.0 in
      let its = change_complete n variable c.0 c.1 c.2 in
      let there = is.1 in
      rw (row, length-map f.changes change_numbers, length-map f.nodes node_numbers, its.0) (refl, grind (arith, nat_tests, there), refl)
  verdict_complete i place variable (Noncurrent n start w) more row is =
      let c = some_and (numbered f.changes n) _ is.0 in
      let its = change_complete n variable c.0 c.1 c.2.0 in
      let writer = writer_complete c.0.kind w c.2.1 in
      rw (row, length-map f.changes change_numbers, its.0, its.1, writer) (refl, place_complete start is.1, refl)
  verdict_complete i place variable (Nonresident n start w) more row is =
      let c = some_and (numbered f.changes n) _ is.0 in
      let its = change_complete n variable c.0 c.1 c.2.0 in
      let writer = writer_complete c.0.kind w c.2.1 in
      rw (row, length-map f.changes change_numbers, its.0, its.1, writer) (refl, place_complete start is.1, refl)

  verdict_known : (v : Verdict) (more : List ℕ) → nat_le (get_or (verdict_then v more) 0 0) 3 ≡ true
  verdict_known Home more = refl
  verdict_known (Recovered change node) more = refl
  verdict_known (Noncurrent change start writer) more = refl
  verdict_known (Nonresident change start writer) more = refl

  -- The place at which a quiet path begins, as the last number of a row.
  quiet_sound : (has : Bool) (variable : ℕ) (v : Verdict) (quiet : Option ℕ) → quiet ≢ Some 0 → (has ≡ false → quiet ≡ None)
      → (get_or (verdict_then v (last_if has (unwrap_or quiet 0))) 4 0 == 0 || (nat_le 2 (get_or (verdict_then v (last_if has (unwrap_or quiet 0))) 0 0) && is_quiet_place (sections_of f) (get_or (verdict_then v (last_if has (unwrap_or quiet 0))) 4 0) variable)) ≡ true
      → IsQuietStart f variable v quiet
  quiet_sound has variable v None told none kept = tt
  quiet_sound false variable v (Some c) told none kept = absurd (let never = none refl in cc)
  quiet_sound true variable v (Some c) told none kept = go v (ne_eqb c 0 (λ e. told (ap Some e))) kept
    where
      go : (v : Verdict) → (c == 0) ≡ false
          → (get_or (verdict_then v (c ∷ [])) 4 0 == 0 || (nat_le 2 (get_or (verdict_then v (c ∷ [])) 0 0) && is_quiet_place (sections_of f) (get_or (verdict_then v (c ∷ [])) 4 0) variable)) ≡ true
          → IsQuietStart f variable v (Some c)
      go Home other kept = absurd (let never = rw other at kept in cc)
      go (Recovered change node) other kept = absurd (let never = rw other at kept in cc)
      go (Noncurrent change start writer) other kept = quiet_place_sound f c variable (rw other at kept)
      go (Nonresident change start writer) other kept = quiet_place_sound f c variable (rw other at kept)

  quiet_complete : (has : Bool) (variable : ℕ) (v : Verdict) (quiet : Option ℕ) → AssignedRules f → IsQuietStart f variable v quiet
      → (get_or (verdict_then v (last_if has (unwrap_or quiet 0))) 4 0 == 0 || (nat_le 2 (get_or (verdict_then v (last_if has (unwrap_or quiet 0))) 0 0) && is_quiet_place (sections_of f) (get_or (verdict_then v (last_if has (unwrap_or quiet 0))) 4 0) variable)) ≡ true
  quiet_complete false variable Home quiet rules is = refl
  quiet_complete false variable (Recovered change node) quiet rules is = refl
  quiet_complete false variable (Noncurrent change start writer) quiet rules is = refl
  quiet_complete false variable (Nonresident change start writer) quiet rules is = refl
  quiet_complete true variable Home None rules is = refl
  quiet_complete true variable (Recovered change node) None rules is = refl
  quiet_complete true variable (Noncurrent change start writer) None rules is = refl
  quiet_complete true variable (Nonresident change start writer) None rules is = refl
  quiet_complete true variable Home (Some c) rules is = absurd is
  quiet_complete true variable (Recovered change node) (Some c) rules is = absurd is
  quiet_complete true variable (Noncurrent change start writer) (Some c) rules is = let there = assigned_there f c variable rules is.0 in let other : (c == 0) ≡ false = ne_eqb c 0 (λ e. omega (arith, e, there)) in rw other (quiet_place_complete f c variable is)
  quiet_complete true variable (Nonresident change start writer) (Some c) rules is = let there = assigned_there f c variable rules is.0 in let other : (c == 0) ≡ false = ne_eqb c 0 (λ e. omega (arith, e, there)) in rw other (quiet_place_complete f c variable is)

  one_sound : (i : ℕ) (r : VisibleRow) → slice_get f.rows i ≡ Some r → length f.functions < no_function → PlaceRules f → TellsWriter r.verdict → r.quiet ≢ Some 0 → (has_quiet f.version.level ≡ false → r.quiet ≡ None) → AllTrue (row_tests (sections_of f) i)
      → IsVisible f r.place r.variable × IsVerdict f r.variable r.verdict × IsQuietStart f r.variable r.verdict r.quiet
  unfolding is_visible is_quiet_start
  one_sound i r at few rules told quiet none kept =
      let row = row_is (row_numbers f.version.level) f.rows i r at in
      let place = place_sound r.place (rw row at (and_parts (is_place (sections_of f) (cell (map (row_numbers f.version.level) f.rows) i 0)) (is_not_below (map (row_numbers f.version.level) f.rows) 0 i) kept.0).0) in
      let visible = and_parts (nat_lt r.variable (length f.variables) && cell (map variable_numbers f.variables) r.variable 1 == cell (map place_numbers f.places) (r.place - 1) 2) (is_pair_above (map (row_numbers f.version.level) f.rows) i) (rw (row, length-map f.variables variable_numbers) at kept.1.0) in
      let parts = and_parts (nat_lt r.variable (length f.variables)) (cell (map variable_numbers f.variables) r.variable 1 == cell (map place_numbers f.places) (r.place - 1) 2) visible.0 in
      let there : r.variable < length f.variables = grind (arith, nat_tests, parts.0) in (
        visible_sound r.place r.variable few rules place there (eqb-true _ _ parts.1),
        verdict_sound i r.place r.variable r.verdict _ row told kept.1.1.1.0 kept.1.1.1.1.0 kept.1.1.1.1.1.0,
        quiet_sound (has_quiet f.version.level) r.variable r.verdict r.quiet quiet none (rw row at kept.1.1.1.1.1.1.0),
      )

  next_sound : (j : ℕ) (r s : VisibleRow) → slice_get f.rows j ≡ Some r → slice_get f.rows (suc j) ≡ Some s → AllTrue (row_tests (sections_of f) (suc j)) → IsPairBefore r.place r.variable s.place s.variable
  unfolding is_visible is_pair_above
  next_sound j r s at_r at_s kept =
      let k = rw (row_is (row_numbers f.version.level) f.rows j r at_r, row_is (row_numbers f.version.level) f.rows (suc j) s at_s) at kept.1.0 in
      grind (arith, nat_tests, k)

  pub rows_sound : length f.functions < no_function → PlaceRules f → TellsWriters f → TellsQuiet f → RowsKept → RowRules f
  rows_sound few rules told quiet kept =
      let own = λ (i : ℕ) (r : VisibleRow) (at : slice_get f.rows i ≡ Some r). one_sound i r at few rules (each_at _ f.rows i r told at) (each_at _ f.rows i r quiet.0 at) (λ none. each_at _ f.rows i r (quiet.1 none) at) (kept i (slice_get_within f.rows i r at)) in
      record {
        visible = each_from _ f.rows (λ i r at. (own i r at).0);
        verdicts = each_from _ f.rows (λ i r at. (own i r at).1);
        quiet = each_from _ f.rows (λ i r at. (own i r at).2);
        none_quiet = quiet.1;
        ascend = next_from _ f.rows (λ j r s at_r at_s. next_sound j r s at_r at_s (kept (suc j) (slice_get_within f.rows (suc j) s at_s)));
      }

  above_complete : (i : ℕ) (r : VisibleRow) → slice_get f.rows i ≡ Some r → RowRules f → (is_not_below (map (row_numbers f.version.level) f.rows) 0 i ≡ true) × (is_pair_above (map (row_numbers f.version.level) f.rows) i ≡ true)
  unfolding is_not_below is_pair_above
  above_complete zero r at rules = (grind (arith, nat_tests), refl)
  above_complete (suc j) r at rules =
      let before = before_at f.rows j r at in
      let above = next_at _ f.rows rules.ascend j before.0 r before.1 at in
      rw (row_is (row_numbers f.version.level) f.rows j before.0 before.1, row_is (row_numbers f.version.level) f.rows (suc j) r at) (grind (arith, nat_tests, above), grind (arith, nat_tests, above))

  one_complete : (i : ℕ) (r : VisibleRow) → slice_get f.rows i ≡ Some r → AssignedRules f → RowRules f → AllTrue (row_tests (sections_of f) i)
  unfolding is_visible is_quiet_start
  one_complete i r at assigned rules =
      let row = row_is (row_numbers f.version.level) f.rows i r at in
      let visible = visible_complete r.place r.variable (each_at _ f.rows i r rules.visible at) in
      let verdict = verdict_complete i r.place r.variable r.verdict _ row (each_at _ f.rows i r rules.verdicts at) in
      let above = above_complete i r at rules in
      let place = place_complete r.place visible.0 in
      let there = visible.1 in
      let known : nat_le (cell (map (row_numbers f.version.level) f.rows) i 2) 3 ≡ true = rw row (verdict_known r.verdict _) in
      let first : (is_place (sections_of f) (cell (map (row_numbers f.version.level) f.rows) i 0) && is_not_below (map (row_numbers f.version.level) f.rows) 0 i) ≡ true = and_from _ _ (rw row place) above.0 in
      let second : (nat_lt (cell (map (row_numbers f.version.level) f.rows) i 1) (length (map variable_numbers f.variables)) && cell (map variable_numbers f.variables) (cell (map (row_numbers f.version.level) f.rows) i 1) 1 == cell (map place_numbers f.places) (cell (map (row_numbers f.version.level) f.rows) i 0 - 1) 2) ≡ true =
      rw (row, length-map f.variables variable_numbers) (and_from (nat_lt r.variable (length f.variables)) (cell (map variable_numbers f.variables) r.variable 1 == cell (map place_numbers f.places) (r.place - 1) 2) (grind (arith, nat_tests, there)) (eq-eqb _ _ visible.2)) in
      let quiet = quiet_complete (has_quiet f.version.level) r.variable r.verdict r.quiet assigned (each_at _ f.rows i r rules.quiet at) in
      (first, (and_from _ _ second above.1, (known, (verdict.0, (verdict.1, (verdict.2, (rw row quiet, tt)))))))

  pub rows_complete : AssignedRules f → RowRules f → RowsKept
  rows_complete assigned rules = at_each f.rows _ (λ i r at. one_complete i r at assigned rules)
