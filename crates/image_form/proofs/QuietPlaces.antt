-- The numbers of assigned pairs and changes tell where quiet paths may begin.
use Rattle.std.proofs.Common.{◌≡◌, ℕ, zero, suc, Bool, true, false, not, ◌&&◌, List, [], ◌∷◌, true≢false, refl, sym, ap, ◌∙◌, arith, inl, inr}
use Rattle.std.specs.Prelude.{map, slice_index, Contains, ◌==◌}
use Rattle.std.specs.List.{AllByRecursion, list_any}
use Rattle.std.proofs.lemmas.Bool.{and_from, and_parts, cases_Bool, eq-eqb, eqb-true, or_cases, or_left, or_parts, or_right}
use Rattle.debug_records.specs.declared.change.Kind.{Kind}
use Rattle.debug_records.specs.declared.change.Kind.TheVariants.{Removed, Moved, Reused, Replaced, Sunk}
use Rattle.debug_records.specs.Change.{is_taken}
use Rattle.image_form.specs.declared.tables.AssignedPair.{AssignedPair}
use Rattle.image_form.specs.declared.tables.Change.{Change}
use Rattle.image_form.specs.Decoding.{sections_of}
use Rattle.image_form.specs.Form.{Form}
use Rattle.image_form.specs.Numbers.{assigned_numbers, change_numbers, kind_number}
use Rattle.image_form.specs.RulesOfRows.{MayBeQuiet}
use Rattle.image_form_sections.specs.TestsOfChanges.{is_quiet_place, is_taken_from, is_taking}

not_true : (b : Bool) → not b ≡ true → b ≡ false
not_true true e = absurd (true≢false (sym e))
not_true false e = refl

-- By a change of a kind an assignment went exactly where the number of the kind says so.
taking_kind : (k : Kind) → is_taking (kind_number k) ≡ is_taken k
taking_kind Removed = refl
taking_kind Moved = refl
taking_kind Reused = refl
taking_kind Replaced = refl
taking_kind Sunk = refl

module _ (place variable : ℕ) where
  the_pair : AssignedPair
  the_pair = record { place = place; variable = variable }

  -- The numbers are the pair's.
  is_the_pair : List ℕ → Bool
  is_the_pair pair = slice_index pair 0 == place && slice_index pair 1 == variable

  -- The numbers are those of a change that took the pair's assignment.
  takes_the_pair : List ℕ → Bool
  takes_the_pair change = is_taking (slice_index change 1) && slice_index change 2 == place && slice_index change 3 == variable

  pair_contained : (pairs : List AssignedPair) → list_any is_the_pair (map assigned_numbers pairs) ≡ true → Contains pairs the_pair
  unfolding is_the_pair the_pair
  pair_contained [] e = absurd (true≢false (sym e))
  pair_contained (p ∷ pairs) e = elim (or_cases (p.place == place && p.variable == variable) (list_any is_the_pair (map assigned_numbers pairs)) e) [
    | inl here ↦
        let parts = and_parts (p.place == place) (p.variable == variable) here in
        let same : p ≡ record { place = place; variable = variable } = λ i. record { place = eqb-true p.place place parts.0 i; variable = eqb-true p.variable variable parts.1 i } in
        (0, omega arith, same)
    | inr later ↦ let at = pair_contained pairs later in (suc at.0, omega (arith, at.1), at.2)
  ]

  pair_told : (pairs : List AssignedPair) → Contains pairs the_pair → list_any is_the_pair (map assigned_numbers pairs) ≡ true
  unfolding is_the_pair the_pair
  pair_told [] (k, lt, e) = absurd (omega (arith, lt))
  pair_told (p ∷ pairs) (zero, lt, e) =
      or_left (p.place == place && p.variable == variable) (list_any is_the_pair (map assigned_numbers pairs))
      (and_from (p.place == place) (p.variable == variable) (eq-eqb p.place place (ap (λ (q : AssignedPair). q.place) e)) (eq-eqb p.variable variable (ap (λ (q : AssignedPair). q.variable) e)))
  pair_told (p ∷ pairs) (suc k, lt, e) =
      or_right (p.place == place && p.variable == variable) (list_any is_the_pair (map assigned_numbers pairs)) (pair_told pairs (k, omega (arith, lt), e))

  -- A change did not take the pair's assignment.
  abbrev Spares : Change → Type 0
  Spares c = c.place ≡ place → c.variable ≡ variable → is_taken c.kind ≡ false

  takes : (c : Change) → is_taken c.kind ≡ true → c.place ≡ place → c.variable ≡ variable → takes_the_pair (change_numbers c) ≡ true
  unfolding takes_the_pair
  takes c is same_place same_variable =
      and_from (is_taking (kind_number c.kind) && c.place == place) (c.variable == variable)
      (and_from (is_taking (kind_number c.kind)) (c.place == place) (taking_kind c.kind ∙ is) (eq-eqb c.place place same_place)) (eq-eqb c.variable variable same_variable)

  spared : (c : Change) → takes_the_pair (change_numbers c) ≡ false → Spares c
  spared c none same_place same_variable = elim (cases_Bool (is_taken c.kind)) [
    | inl is ↦ absurd (true≢false (sym (takes c is same_place same_variable) ∙ none))
    | inr not ↦ not
  ]

  takes_none : (c : Change) → Spares c → takes_the_pair (change_numbers c) ≡ false
  unfolding takes_the_pair
  takes_none c spares = elim (cases_Bool (takes_the_pair (change_numbers c))) [
    | inl is ↦
        let parts = and_parts (is_taking (kind_number c.kind) && c.place == place) (c.variable == variable) is in
        let front = and_parts (is_taking (kind_number c.kind)) (c.place == place) parts.0 in
        absurd (true≢false (sym front.0 ∙ taking_kind c.kind ∙ spares (eqb-true c.place place front.1) (eqb-true c.variable variable parts.1)))
    | inr not ↦ not
  ]

  all_spare : (changes : List Change) → list_any takes_the_pair (map change_numbers changes) ≡ false → AllByRecursion Spares changes
  all_spare [] e = tt
  all_spare (c ∷ changes) e =
      let parts = or_parts (takes_the_pair (change_numbers c)) (list_any takes_the_pair (map change_numbers changes)) e in
      (spared c parts.0, all_spare changes parts.1)

  none_takes : (changes : List Change) → AllByRecursion Spares changes → list_any takes_the_pair (map change_numbers changes) ≡ false
  none_takes [] all = refl
  none_takes (c ∷ changes) all = rw (takes_none c all.0, none_takes changes all.1) refl

-- The test of a place at which a quiet path begins tells the rule,
pub quiet_place_sound : (f : Form) (place variable : ℕ) → is_quiet_place (sections_of f) place variable ≡ true → MayBeQuiet f place variable
unfolding is_quiet_place the_pair is_the_pair takes_the_pair
quiet_place_sound f place variable kept =
    let parts = and_parts (list_any (is_the_pair place variable) (map assigned_numbers f.assigned)) (not (is_taken_from (sections_of f) place variable)) kept in
    (pair_contained place variable f.assigned parts.0, all_spare place variable f.changes (not_true (is_taken_from (sections_of f) place variable) parts.1))

-- and the other way.
pub quiet_place_complete : (f : Form) (place variable : ℕ) → MayBeQuiet f place variable → is_quiet_place (sections_of f) place variable ≡ true
unfolding is_quiet_place the_pair is_the_pair takes_the_pair
quiet_place_complete f place variable may =
    and_from (list_any (is_the_pair place variable) (map assigned_numbers f.assigned)) (not (is_taken_from (sections_of f) place variable))
    (pair_told place variable f.assigned may.0) (ap not (none_takes place variable f.changes may.1))
