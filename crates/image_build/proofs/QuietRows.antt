-- Rows that say what verdicts say, which are evident, tell of quiet paths in the words of the code, and keep the rule of an image's format on them.
use Rattle.std.proofs.Common.{◌≡◌, ℕ, zero, suc, ◌-◌, ◌≤◌, Bool, true, false, inl, inr, Option, Some, None, List, [], ◌∷◌, map, slice_get, refl, sym, ap, ◌∙◌, subst, arith}
use Rattle.std.specs.Prelude.{◌==◌, ◌&&◌, Contains, option_map}
use Rattle.std.specs.List.{AllByRecursion}
use Rattle.std.proofs.lemmas.Bool.{and_parts, eqb-true, or_cases}
use Rattle.std.proofs.lemmas.Option.{none-some}
use Rattle.base_laws.proofs.Lists.{each_from, from_map, one_behind_again}
use Rattle.debug_records.specs.declared.change.Place.{Place}
use Rattle.debug_records.specs.Change.{is_taken}
use Rattle.places.specs.declared.flow.Assignment.{Assignment}
use Rattle.places.specs.declared.flow.FlowTable.{FlowTable}
use Rattle.places.specs.declared.table.PlaceRow.{PlaceRow}
use Rattle.places.specs.Flow.{assigns}
use Rattle.graph_core.specs.Graphs.{Logged}
use Rattle.graph_core.specs.Paths.{Among, front, behind}
use Rattle.graph_core.specs.Validity.{IsValid}
use Rattle.graph_homes.specs.Homed.{HomedForm, home_of}
use Rattle.rv_emit_tables.specs.Emitted.{EmittedForm}
use Rattle.rv_emit_runs.specs.Laid.{Arrangement}
use Rattle.rv_emit.specs.Emits.{Emits}
use Rattle.currency_hiding.specs.Quiet.{IsLeastQuiet}
use Rattle.currency_hiding.specs.declared.causes.Cause as declared-cause
use Rattle.currency_hiding.specs.declared.causes.Cause.TheVariants as cause
use Rattle.currency.specs.declared.verdict.PlaceVerdict as declared-row
use Rattle.currency.specs.declared.verdict.Verdict as declared-verdict
use Rattle.currency.specs.declared.verdict.Verdict.TheVariants as told
use Rattle.currency.specs.Evident.{AreEvident, IsEvident, IsEvidentAt}
use Rattle.currency.specs.Named.{IsRemoval}
use Rattle.currency.specs.Telling.{IsCauseOf}
use Rattle.image_form.specs.Form.{Form}
use Rattle.image_form.specs.RulesOfRows.{IsNotTaken, IsQuietStart, MayBeQuiet}
use Rattle.image_form.specs.declared.recipes.Node.{Node}
use Rattle.image_form.specs.declared.tables.AssignedPair.{AssignedPair}
use Rattle.image_form.specs.declared.tables.Change.{Change}
use Rattle.image_form.specs.declared.verdicts.Verdict.{Verdict}
use Rattle.image_form.specs.declared.verdicts.Verdict.TheVariants as verdict
use Rattle.image_form.specs.declared.verdicts.VisibleRow.{VisibleRow}
use Rattle.image_build_tables.specs.Rows.{AreRowsOf, IsRowOf, IsVerdictOf, Telling, quiet_of, telling_of}
use Rattle.image_build_tables.specs.Tables.{assigned_pair, change_record}
use Rattle.image_build.specs.Evidence.{AreQuietIn, IsQuietIn}
use Rattle.image_build.proofs.QuietWords.{quiet_words}

-- ---- What is told of quiet paths is so in the words of the code

-- The place that a verdict tells is the one that is told beside the cause.
same_start : (k : declared-cause.Cause) (q : Option Place) (v : declared-verdict.Verdict) → IsCauseOf k q v → quiet_of v ≡ option_map (λ (p : Place). p.0) q
same_start (cause.Removed c start) q v e = ap quiet_of e
same_start (cause.Moved c start w) q v e = ap quiet_of e
same_start (cause.Reused c start w) q v e = ap quiet_of e

module _ (h : HomedForm) (valid : IsValid h.unit) (e : EmittedForm) (emits : Emits h e) (flow : FlowTable) where
  evident_quiet : (v p : ℕ) (w : declared-verdict.Verdict) → IsEvidentAt h.unit.log flow h v p w → (start : ℕ) → quiet_of w ≡ Some start → IsQuietIn h emits.code.arrangement e flow v p start
  evident_quiet v p w evident start is =
      let at : option_map (λ (place : Place). place.0) evident.hiding.quiet ≡ Some start = sym (same_start evident.hiding.cause evident.hiding.quiet w evident.told) ∙ is in
      let least : IsLeastQuiet h.unit.log flow (home_of h evident.f) evident.f evident.graph evident.x v p (Some start) = subst (IsLeastQuiet h.unit.log flow (home_of h evident.f) evident.f evident.graph evident.x v p) at evident.quiet in
      quiet_words h valid emits.code.arrangement e emits.nothing_else evident.f evident.graph evident.is flow evident.x v evident.scalar start p least.0

  quiet_in : (v p : ℕ) (w : declared-verdict.Verdict) → IsEvident h.unit.log flow h v p w → (start : ℕ) → quiet_of w ≡ Some start → IsQuietIn h emits.code.arrangement e flow v p start
  quiet_in v p told.Home evident start is = absurd (none-some start is)
  quiet_in v p (told.Recovered r c) evident start is = absurd (none-some start is)
  quiet_in v p (told.Noncurrent c s w q) evident start is = evident_quiet v p (told.Noncurrent c s w q) evident start is
  quiet_in v p (told.Nonresident c s w q) evident start is = evident_quiet v p (told.Nonresident c s w q) evident start is

  -- So is what each row tells.
  pub rows_quiet : (nodes : List Node) (places : List PlaceRow) (told : List declared-row.PlaceVerdict) (rows : List VisibleRow) → AreEvident h.unit.log flow h told → AreRowsOf (telling_of h places e) nodes told rows → AreQuietIn h emits.code.arrangement e flow rows
  rows_quiet nodes places [] [] evident say r start among is = elim among [ ]
  rows_quiet nodes places [] (s ∷ rows) evident say r start among is = absurd say
  rows_quiet nodes places (w ∷ more) [] evident say r start among is = absurd say
  rows_quiet nodes places (w ∷ more) (_ ∷ rows) evident say r start front is =
      let one : IsRowOf (telling_of h places e) nodes w r = say.0 in
      let here : IsQuietIn h emits.code.arrangement e flow w.var.0 w.place.0 start = quiet_in w.var.0 w.place.0 w.verdict (evident w front) start (sym one.quiet ∙ is) in
      subst (λ n. IsQuietIn h emits.code.arrangement e flow n r.place start) (sym one.variable) (subst (λ n. IsQuietIn h emits.code.arrangement e flow w.var.0 n start) (sym one.place) here)
  rows_quiet nodes places (w ∷ more) (s ∷ rows) evident say r start (behind later) is = rows_quiet nodes places more rows (λ x at. evident x (behind at)) say.1 r start later is

-- ---- Where a quiet path begins the variable is assigned, and no change took that

-- What is assigned stands among the pairs.
pair_there : (all : List Assignment) (p x : ℕ) → assigns all p x ≡ true → Contains (map assigned_pair all) (record { place = p; variable = x })
pair_there [] p x some = absurd cc
pair_there (a ∷ all) p x some = elim (or_cases (a.place.0 == p && a.var.0 == x) (assigns all p x) some) [
  | inl here ↦ (
      let both = and_parts (a.place.0 == p) (a.var.0 == x) here in
      let place : a.place.0 ≡ p = eqb-true a.place.0 p both.0 in
      let variable : a.var.0 ≡ x = eqb-true a.var.0 x both.1 in
      (0, omega arith, λ i. record { place = place i; variable = variable i }))
  | inr later ↦ one_behind_again (assigned_pair a) (map assigned_pair all) (record { place = p; variable = x }) (pair_there all p x later)
]

-- By no change of a log, and so by none of the table, an assignment went from a place.
none_taken : (log : List Logged) (place variable : ℕ) → ((number : ℕ) → IsRemoval log number variable place → ⊥) → AllByRecursion (λ (c : Change). c.place ≡ place → c.variable ≡ variable → is_taken c.kind ≡ false) (map change_record log)
none_taken log place variable stays = each_from (λ (c : Change). c.place ≡ place → c.variable ≡ variable → is_taken c.kind ≡ false) (map change_record log) one
  where
    kept : (k : ℕ) (c : Logged) → slice_get log k ≡ Some c → c.place ≡ place → c.variable ≡ variable → (b : Bool) → is_taken c.kind ≡ b → b ≡ false
    kept k c is at of false taken = refl
    kept k c is at of true taken =
        let here : suc k - 1 ≡ k = omega arith in
        absurd (stays (suc k) (record { change = c; is = record { some = omega arith; is = ap (slice_get log) here ∙ is }; taken = taken; of = of; at = at }))

    one : (k : ℕ) (c : Change) → slice_get (map change_record log) k ≡ Some c → c.place ≡ place → c.variable ≡ variable → is_taken c.kind ≡ false
    one k c is =
        let from = from_map change_record log k c is in
        subst (λ (d : Change). d.place ≡ place → d.variable ≡ variable → is_taken d.kind ≡ false) from.2 (λ at of. kept k from.0 from.1 at of (is_taken from.0.kind) refl)

module _ (h : HomedForm) (a : Arrangement) (e : EmittedForm) (m : Form) (changes : m.changes ≡ map change_record h.unit.log) (assigned : m.assigned ≡ map assigned_pair h.unit.assignments) (flow : FlowTable) (assignments : flow.assignments.items ≡ h.unit.assignments) where
  -- Where a quiet path begins, one may begin by the rule.
  may_be_quiet : (variable stop start : ℕ) → IsQuietIn h a e flow variable stop start → MayBeQuiet m start variable
  may_be_quiet variable stop start quiet =
      let pair : AssignedPair = record { place = start; variable = variable } in
      let some : assigns h.unit.assignments start variable ≡ true = ap (λ l. assigns l start variable) (sym assignments) ∙ quiet.assigned in (
        subst (λ (l : List AssignedPair). Contains l pair) (sym assigned) (pair_there h.unit.assignments start variable some),
        subst (λ (l : List Change). AllByRecursion (λ (c : Change). c.place ≡ start → c.variable ≡ variable → is_taken c.kind ≡ false) l) (sym changes) (none_taken h.unit.log start variable quiet.stays),
      )

  -- A row that hides a variable may tell where one begins.
  hidden_start : (variable : ℕ) (v : Verdict) (q : Option ℕ) → ((start : ℕ) → MayBeQuiet m start variable → IsQuietStart m variable v (Some start)) → ((start : ℕ) → q ≡ Some start → MayBeQuiet m start variable) → IsQuietStart m variable v q
  hidden_start variable v None keeps may = tt
  hidden_start variable v (Some start) keeps may = keeps start (may start refl)

  quiet_rule : (t : Telling) (nodes : List Node) (place variable : ℕ) (w : declared-verdict.Verdict) (v : Verdict) (q : Option ℕ) → IsVerdictOf t nodes place w v → q ≡ quiet_of w → ((start : ℕ) → q ≡ Some start → MayBeQuiet m start variable) → IsQuietStart m variable v q
  quiet_rule t nodes place variable told.Home v q says is may = subst (IsQuietStart m variable v) (sym is) tt
  quiet_rule t nodes place variable (told.Recovered r c) v q says is may = subst (IsQuietStart m variable v) (sym is) tt
  quiet_rule t nodes place variable (told.Noncurrent c start w r) v q says is may =
      hidden_start variable v q (λ first one. subst (λ (s : Verdict). IsQuietStart m variable s (Some first)) (sym says) one) may
  quiet_rule t nodes place variable (told.Nonresident c start w r) v q says is may =
      hidden_start variable v q (λ first one. subst (λ (s : Verdict). IsQuietStart m variable s (Some first)) (sym says) one) may

  -- Each row keeps the rule on the start of its quiet path.
  pub quiet_rules : (t : Telling) (nodes : List Node) (all : List declared-row.PlaceVerdict) (rows : List VisibleRow) → AreRowsOf t nodes all rows → AreQuietIn h a e flow rows → AllByRecursion (λ (r : VisibleRow). IsQuietStart m r.variable r.verdict r.quiet) rows
  quiet_rules t nodes [] [] say quiet = tt
  quiet_rules t nodes [] (r ∷ rows) say quiet = absurd say
  quiet_rules t nodes (w ∷ all) [] say quiet = tt
  quiet_rules t nodes (w ∷ all) (r ∷ rows) say quiet =
      let one : IsRowOf t nodes w r = say.0 in (
        quiet_rule t nodes w.place.0 r.variable w.verdict r.verdict r.quiet one.verdict one.quiet (λ start is. may_be_quiet r.variable r.place start (quiet r start front is)),
        quiet_rules t nodes all rows say.1 (λ s start among is. quiet s start (behind among) is),
      )
