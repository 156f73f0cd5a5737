-- Changes and pairs keep their rules where their rows keep their tests.
use Rattle.std.proofs.Common.{◌≡◌, ◌≢◌, ℕ, zero, suc, ◌<◌, Bool, true, false, true≢false, length, Some, refl, sym, ap, ◌∙◌, arith}
use Rattle.std.specs.Prelude.{slice_get}
use Rattle.std.specs.List.{AllByRecursion}
use Rattle.std.proofs.lemmas.Bool.Decides.{nat_tests}
use Rattle.std.proofs.lemmas.List.{length-map}
use Rattle.std.proofs.lemmas.Option.{slice_get_within}
use Rattle.image_form.specs.declared.tables.AssignedPair.{AssignedPair}
use Rattle.image_form.specs.declared.tables.Change.{Change}
use Rattle.image_form.specs.declared.tables.FlowPair.{FlowPair}
use Rattle.debug_records.specs.declared.change.Kind.{Kind}
use Rattle.debug_records.specs.declared.change.Kind.TheVariants.{Removed, Moved, Reused, Replaced, Sunk}
use Rattle.image_form.specs.Decoding.{sections_of}
use Rattle.image_form.specs.Form.{Form}
use Rattle.image_form.specs.Numbers.{place_numbers, variable_numbers, kind_number, change_numbers, flow_numbers, assigned_numbers}
use Rattle.image_form.specs.RulesOfChanges.{IsChange, IsPairBefore, FlowRules, AssignedRules}
use Rattle.image_form.specs.RulesOfFunctions.{IsPlaceNumber}
use Rattle.image_form_sections.specs.TestsOfChanges.{change_tests, is_kind, flow_tests, assigned_tests}
use Rattle.image_form_sections.specs.TestsOfTables.{is_place, is_not_below, is_pair_above}
use Rattle.image_form.proofs.Kept.{AllTrue, row_is, next_from, next_at, before_at, at_each}
use Rattle.image_form_sections.specs.Versions.{has_quiet}
use Rattle.image_form_sections.specs.declared.version.Version.{Version}
use Rattle.image_form.proofs.VersionLaws.{version_back}
use Rattle.image_form.proofs.TableLaws.{each_at, each_from}

some_true : (b : Bool) → (b ≡ false → ⊥) → b ≡ true
some_true true none = refl
some_true false none = absurd (none refl)

module _ (f : Form) where
  kind_complete : (k : Kind) → (has_quiet f.version.level ≡ false → k ≢ Sunk) → is_kind (sections_of f) (kind_number k) ≡ true
  unfolding is_kind
  kind_complete Removed none = refl
  kind_complete Moved none = refl
  kind_complete Reused none = refl
  kind_complete Replaced none = refl
  kind_complete Sunk none = ap (λ (v : Version). has_quiet v.level) (version_back f.version) ∙ some_true (has_quiet f.version.level) (λ plain. none plain refl)

  kind_sound : (k : Kind) → is_kind (sections_of f) (kind_number k) ≡ true → has_quiet f.version.level ≡ false → k ≢ Sunk
  unfolding is_kind
  kind_sound Removed kept plain = λ e. absurd cc
  kind_sound Moved kept plain = λ e. absurd cc
  kind_sound Reused kept plain = λ e. absurd cc
  kind_sound Replaced kept plain = λ e. absurd cc
  kind_sound Sunk kept plain = absurd (true≢false (sym kept ∙ ap (λ (v : Version). has_quiet v.level) (version_back f.version) ∙ plain))

  abbrev pub ChangesKept : Type 0
  ChangesKept = (i : ℕ) → i < length f.changes → AllTrue (change_tests (sections_of f) i)

  change_sound : (i : ℕ) (c : Change) → slice_get f.changes i ≡ Some c → AllTrue (change_tests (sections_of f) i) → IsChange f c
  unfolding is_place
  change_sound i c at kept =
      let k = rw (row_is change_numbers f.changes i c at, length-map f.places place_numbers, length-map f.variables variable_numbers) at kept in
      record {
        named = grind (arith, nat_tests, k.0);
        short_name = grind (arith, nat_tests, k.0);
        at_place = grind (arith, nat_tests, k.1.1.0);
        of_variable = grind (arith, nat_tests, k.1.1.1.0);
        none_sunk = kind_sound c.kind k.1.0;
      }

  pub changes_sound : ChangesKept → AllByRecursion (IsChange f) f.changes
  changes_sound kept = each_from (IsChange f) f.changes (λ i c at. change_sound i c at (kept i (slice_get_within f.changes i c at)))

  change_complete : (i : ℕ) (c : Change) → slice_get f.changes i ≡ Some c → IsChange f c → AllTrue (change_tests (sections_of f) i)
  unfolding is_place
  change_complete i c at is =
      rw (row_is change_numbers f.changes i c at, length-map f.places place_numbers, length-map f.variables variable_numbers) (
        grind (arith, nat_tests, is.named, is.short_name),
        (kind_complete c.kind is.none_sunk, (grind (arith, nat_tests, is.at_place), (grind (arith, nat_tests, is.of_variable), (refl, tt)))),
      )

  pub changes_complete : AllByRecursion (IsChange f) f.changes → ChangesKept
  changes_complete rules = at_each f.changes _ (λ i c at. change_complete i c at (each_at (IsChange f) f.changes i c rules at))

  -- ---- flow pairs

  abbrev pub FlowKept : Type 0
  FlowKept = (i : ℕ) → i < length f.flow → AllTrue (flow_tests (sections_of f) i)

  flow_one : (i : ℕ) (p : FlowPair) → slice_get f.flow i ≡ Some p → AllTrue (flow_tests (sections_of f) i) → IsPlaceNumber f p.from × IsPlaceNumber f p.to
  unfolding is_place
  flow_one i p at kept =
      let k = rw (row_is flow_numbers f.flow i p at, length-map f.places place_numbers) at kept in
      (grind (arith, nat_tests, k.0), grind (arith, nat_tests, k.1.0))

  flow_next : (j : ℕ) (p q : FlowPair) → slice_get f.flow j ≡ Some p → slice_get f.flow (suc j) ≡ Some q → AllTrue (flow_tests (sections_of f) (suc j)) → IsPairBefore p.from p.to q.from q.to
  unfolding is_pair_above
  flow_next j p q at_p at_q kept =
      let k = rw (row_is flow_numbers f.flow j p at_p, row_is flow_numbers f.flow (suc j) q at_q) at kept in
      grind (arith, nat_tests, k.1.0)

  pub flow_sound : FlowKept → FlowRules f
  flow_sound kept = record {
    each = each_from _ f.flow (λ i p at. flow_one i p at (kept i (slice_get_within f.flow i p at)));
    ascend = next_from _ f.flow (λ j p q at_p at_q. flow_next j p q at_p at_q (kept (suc j) (slice_get_within f.flow (suc j) q at_q)));
  }

  flow_complete_one : (i : ℕ) (p : FlowPair) → slice_get f.flow i ≡ Some p → FlowRules f → AllTrue (flow_tests (sections_of f) i)
  unfolding is_place is_not_below is_pair_above
  flow_complete_one zero p at rules =
      let is = each_at _ f.flow 0 p rules.each at in
      rw (row_is flow_numbers f.flow 0 p at, length-map f.places place_numbers) (grind (arith, nat_tests, is.0), (grind (arith, nat_tests, is.1), tt))
  flow_complete_one (suc j) p at rules =
      let is = each_at _ f.flow (suc j) p rules.each at in
      let before = before_at f.flow j p at in
      let above = next_at _ f.flow rules.ascend j before.0 p before.1 at in
      rw (row_is flow_numbers f.flow j before.0 before.1, row_is flow_numbers f.flow (suc j) p at, length-map f.places place_numbers) (grind (arith, nat_tests, is.0, above), (grind (arith, nat_tests, is.1, above), tt))

  pub flow_complete : FlowRules f → FlowKept
  flow_complete rules = at_each f.flow _ (λ i p at. flow_complete_one i p at rules)

  -- ---- assigned pairs

  abbrev pub AssignedKept : Type 0
  AssignedKept = (i : ℕ) → i < length f.assigned → AllTrue (assigned_tests (sections_of f) i)

  assigned_one : (i : ℕ) (p : AssignedPair) → slice_get f.assigned i ≡ Some p → AllTrue (assigned_tests (sections_of f) i) → IsPlaceNumber f p.place × (p.variable < length f.variables)
  unfolding is_place
  assigned_one i p at kept =
      let k = rw (row_is assigned_numbers f.assigned i p at, length-map f.places place_numbers, length-map f.variables variable_numbers) at kept in
      (grind (arith, nat_tests, k.0), grind (arith, nat_tests, k.1.0))

  assigned_next : (j : ℕ) (p q : AssignedPair) → slice_get f.assigned j ≡ Some p → slice_get f.assigned (suc j) ≡ Some q → AllTrue (assigned_tests (sections_of f) (suc j)) → IsPairBefore p.place p.variable q.place q.variable
  unfolding is_pair_above
  assigned_next j p q at_p at_q kept =
      let k = rw (row_is assigned_numbers f.assigned j p at_p, row_is assigned_numbers f.assigned (suc j) q at_q) at kept in
      grind (arith, nat_tests, k.1.0)

  pub assigned_sound : AssignedKept → AssignedRules f
  assigned_sound kept = record {
    each = each_from _ f.assigned (λ i p at. assigned_one i p at (kept i (slice_get_within f.assigned i p at)));
    ascend = next_from _ f.assigned (λ j p q at_p at_q. assigned_next j p q at_p at_q (kept (suc j) (slice_get_within f.assigned (suc j) q at_q)));
  }

  assigned_complete_one : (i : ℕ) (p : AssignedPair) → slice_get f.assigned i ≡ Some p → AssignedRules f → AllTrue (assigned_tests (sections_of f) i)
  unfolding is_place is_not_below is_pair_above
  assigned_complete_one zero p at rules =
      let is = each_at _ f.assigned 0 p rules.each at in
      rw (row_is assigned_numbers f.assigned 0 p at, length-map f.places place_numbers, length-map f.variables variable_numbers) (grind (arith, nat_tests, is.0), (grind (arith, nat_tests, is.1), tt))
  assigned_complete_one (suc j) p at rules =
      let is = each_at _ f.assigned (suc j) p rules.each at in
      let before = before_at f.assigned j p at in
      let above = next_at _ f.assigned rules.ascend j before.0 p before.1 at in
      rw (row_is assigned_numbers f.assigned j before.0 before.1, row_is assigned_numbers f.assigned (suc j) p at, length-map f.places place_numbers, length-map f.variables variable_numbers) (
        grind (arith, nat_tests, is.0, above),
        (grind (arith, nat_tests, is.1, above), tt),
      )

  pub assigned_complete : AssignedRules f → AssignedKept
  assigned_complete rules = at_each f.assigned _ (λ i p at. assigned_complete_one i p at rules)
