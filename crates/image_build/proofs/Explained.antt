-- What is evident in the words of the code is explained by the image alone.
use Rattle.std.proofs.Common.{◌≡◌, ℕ, zero, suc, ◌-◌, ◌/◌, ◌%◌, ◌<◌, ◌≤◌, ◌^◌, ◌&&◌, ◌⊎◌, inl, inr, Bool, true, false, Option, Some, None, List, [], ◌∷◌, length, map, slice_get, refl, sym, ap, ◌∙◌, subst, arith}
use Rattle.std.specs.Prelude.{◌==◌, ◌≢◌, nat_le, slice_index, unwrap_or, if◌then◌else◌, IsSomeAnd, Contains}
use Rattle.std.specs.Option.{option_map_or}
use Rattle.std.proofs.lemmas.Bool.{le-leb, eq-eqb, and_from}
use Rattle.std.proofs.lemmas.List.{length-map}
use Rattle.std.proofs.lemmas.Option.{none-some, slice_get-get_or}
use Rattle.debug_records.specs.declared.change.Kind.{Kind}
use Rattle.debug_records.specs.declared.change.Kind.TheVariants.{Moved, Reused}
use Rattle.debug_records.specs.Change.{is_taken}
use Rattle.places.specs.declared.flow.Assignment.{Assignment}
use Rattle.places.specs.declared.flow.FlowStep.{FlowStep}
use Rattle.places.specs.declared.flow.FlowTable.{FlowTable}
use Rattle.places.specs.Flow.{assigns}
use Rattle.places.specs.Path.{IsLeastRoute, IsRoute, Quest, quest_by}
use Rattle.places.proofs.LeastByPlaces.{route_there}
use Rattle.c_tree.specs.Programs.{ProgramTree}
use Rattle.graph_core.specs.Graphs.{Logged}
use Rattle.graph_core.specs.Paths.{Among}
use Rattle.graph_core.proofs.Among.{among_at, at_among}
use Rattle.graph_homes.specs.Homed.{HomedForm, home_of}
use Rattle.base_laws.proofs.Lists.{all_at, any_at, from_map, map_at}
use Rattle.rv_emit_steps.specs.Programs.{address_of}
use Rattle.currency.specs.Named.{IsNumbered}
use Rattle.image_form.specs.Form.{Form, numbered}
use Rattle.image_form.specs.Numbers.{row_numbers, verdict_numbers}
use Rattle.image_form.specs.Rules.{IsImage}
use Rattle.image_form.specs.Spelling.{size}
use Rattle.image_form.specs.RulesOfFunctions.{IsPlaceNumber, first_code_address}
use Rattle.memory_map.specs.Maps as maps
use Rattle.image_form.specs.RulesOfRows.{IsEvidence, IsQuietStart, IsVerdict, IsWriter, MayBeQuiet}
use Rattle.image_form_sections.specs.Versions.{has_quiet}
use Rattle.image_form.specs.declared.tables.AssignedPair.{AssignedPair}
use Rattle.image_form.specs.declared.tables.Change.{Change}
use Rattle.image_form.specs.declared.verdicts.Verdict.{Verdict}
use Rattle.image_form.specs.declared.verdicts.Verdict.TheVariants as verdict
use Rattle.image_form.specs.declared.verdicts.VisibleRow.{VisibleRow}
use Rattle.image_build_tables.specs.Tables.{assigned_pair, change_record, flow_pair}
use Rattle.stop_engine_view.specs.Evidence.{assignment_of, row_path, row_quest, step_of, via_of}
use Rattle.stop_engine_view.specs.HomeWrites.{disturbs}
use Rattle.stop_engine_view.specs.Reading.{place_of_word}
use Rattle.stop_engine_view.proofs.FlowOrder.{steps_in_order}
use Rattle.image_truth_units.specs.Units.{HasVariablesIn}
use Rattle.image_build.specs.Evidence.{IsEvidentIn, IsQuietIn, OwnsWriter, WasRemoved, WasWritten}
use Rattle.image_build.specs.Explained.{ExplainsAll, IsExplained, IsExplainedBy, MayBeRight}
use Rattle.image_build.specs.Made.{IsMadeOfCode}
use Rattle.image_build.specs.Tables.{HasTablesOf}
use Rattle.image_build.proofs.Disturbing.{undisturbed}
use Rattle.image_build.proofs.QuietRoutes.{quiet_route}
use Rattle.image_build.proofs.Told.{first_same, rest_same}
use Rattle.image_build.proofs.RecordNumbers.{plain_same, quiet_same}
use Rattle.image_form.proofs.Counts.{few_records}
use Rattle.image_form_sections.specs.declared.section.Section.TheVariants.{Flow}

-- steps and assignments are what the tables of an image have of them
steps_back : (all : List FlowStep) → map step_of (map flow_pair all) ≡ all
steps_back [] = refl
steps_back (s ∷ all) = ap (λ l. s ∷ l) (steps_back all)

assignments_back : (all : List Assignment) → map assignment_of (map assigned_pair all) ≡ all
assignments_back [] = refl
assignments_back (a ∷ all) = ap (λ l. a ∷ l) (assignments_back all)

-- the word at an address is of its place
owner_at : (m : Form) (index : ℕ) → place_of_word m (address_of index) ≡ slice_index m.owners index
owner_at m index =
    let even : address_of index % 4 ≡ 0 = omega arith in
    let test : (address_of index % 4 == 0 && nat_le maps.code_start (address_of index)) ≡ true = and_from (address_of index % 4 == 0) (nat_le maps.code_start (address_of index)) (eq-eqb (address_of index % 4) 0 even) (le-leb maps.code_start (address_of index) (omega arith)) in
    let number : (address_of index - maps.code_start) / 4 ≡ index = omega arith in
    ap (λ b. if b then slice_index m.owners ((address_of index - maps.code_start) / 4) else 0) test ∙ ap (slice_index m.owners) number

-- the change of a number in a log is that of the table
change_at : (log : List Logged) (changes : List Change) (number : ℕ) (logged : Logged) → changes ≡ map change_record log → IsNumbered log number logged → numbered changes number ≡ Some (change_record logged)
change_at log changes zero logged are is = absurd (let some = is.some in omega (arith, some))
change_at log changes (suc k) logged are is =
    let same : suc k - 1 ≡ k = omega arith in
    ap (λ l. slice_get l k) are ∙ map_at change_record log k logged (ap (slice_get log) (sym same) ∙ is.is)

-- an image has few steps of flow
few_steps : (m : Form) → size m < 2 ^ 32 → length m.flow < 2 ^ 32
few_steps m whole = few_records m whole Flow

-- ---- By a unit of which the image is made

module _ (p : ProgramTree) (h : HomedForm) (m : Form) (made : IsMadeOfCode p h m) (image : IsImage m) (tables : HasTablesOf p m) (unit : HasVariablesIn p h.unit) where
  abbrev flow : FlowTable
  flow = made.parts.rows.borne_out.flow

  same_steps : map step_of m.flow ≡ flow.steps.items
  same_steps = ap (map step_of) made.parts.flow ∙ steps_back h.unit.steps ∙ sym made.parts.rows.borne_out.steps

  same_assignments : map assignment_of m.assigned ≡ flow.assignments.items
  same_assignments = ap (map assignment_of) made.parts.assigned ∙ assignments_back h.unit.assignments ∙ sym made.parts.rows.borne_out.assignments

  -- By a path by the flow of the unit there is one by that of the image, so the path that is printed is one.
  printed_by : (variable change start stop via : ℕ) (writer : Option ℕ) (path : List ℕ) → via_of m change writer ≡ via
      → IsRoute (quest_by flow variable start via stop) path
      → IsLeastRoute (row_quest m variable change start writer stop) (row_path m variable change start writer stop)
  printed_by variable change start stop via writer path at route =
      let quest : Quest = row_quest m variable change start writer stop in
      let there : IsRoute quest path =
      subst (λ v. IsRoute (record { steps = map step_of m.flow; blocked = λ p. assigns (map assignment_of m.assigned) p variable; start = start; via = v; stop = stop }) path) (sym at)
      (subst (λ all. IsRoute (record { steps = map step_of m.flow; blocked = λ p. assigns all p variable; start = start; via = via; stop = stop }) path) (sym same_assignments)
      (subst (λ ss. IsRoute (record { steps = ss; blocked = λ p. assigns flow.assignments.items p variable; start = start; via = via; stop = stop }) path) (sym same_steps) route)) in
      let many : length (map step_of m.flow) ≡ length m.flow = length-map m.flow step_of in
      let few = few_steps m image.sizes.whole in
      let found = route_there quest path (steps_in_order m.flow image.flow.ascend) (omega (arith, many, few)) there in
      subst (λ o. IsLeastRoute quest (unwrap_or o [])) (sym found.1) found.2

  assigned_by : (start variable : ℕ) → assigns flow.assignments.items start variable ≡ true → assigns (map assignment_of m.assigned) start variable ≡ true
  assigned_by start variable is = ap (λ all. assigns all start variable) same_assignments ∙ is

  removed : (v stop change start : ℕ) → WasRemoved h made.emits.code.arrangement made.emitted flow v stop change start → IsExplained m stop v (λ k. is_taken k ≡ true) change start None
  removed v stop change start was =
      let r = was.removed in
      let logged : numbered m.changes change ≡ Some (change_record r.change) = change_at h.unit.log m.changes change r.change made.parts.changes r.is in
      record {
        logged = change_record r.change;
        change_is = logged;
        kind_is = r.taken;
        concerns = r.of;
        assigned = assigned_by start v was.assigned;
        path = printed_by v change start stop start None was.path.path (ap (λ o. via_by o) logged ∙ r.at) was.path.route;
      }
    where
      via_by : Option Change → ℕ
      via_by o = option_map_or (λ (c : Change). c.place) o 0

  written : (kind : Kind) (v stop change start address : ℕ) → WasWritten h made.emits.code.arrangement made.emitted flow kind v stop change start address → IsExplained m stop v (λ k. k ≡ kind) change start (Some address)
  written kind v stop change start address was =
      let l = was.logged in
      let w = was.word in
      let owner : place_of_word m address ≡ was.via = ap (place_of_word m) w.is ∙ owner_at m w.index ∙ ap (λ os. slice_index os w.index) made.parts.owners ∙ w.owner in
      record {
        logged = change_record l.change;
        change_is = change_at h.unit.log m.changes change l.change made.parts.changes l.is;
        kind_is = l.kind;
        concerns = l.of;
        assigned = assigned_by start v was.assigned;
        path = printed_by v change start stop was.via (Some address) was.path.path owner was.path.route;
      }

  -- what is evident is explained
  by_evidence : (stop v : ℕ) (w : Verdict) → IsEvidentIn h made.emits.code.arrangement made.emitted flow v stop w → IsExplainedBy m stop v w
  by_evidence stop v verdict.Home is = tt
  by_evidence stop v (verdict.Recovered change node) is = tt
  by_evidence stop v (verdict.Noncurrent change start None) is = removed v stop change start is
  by_evidence stop v (verdict.Noncurrent change start (Some address)) is = written Moved v stop change start address is
  by_evidence stop v (verdict.Nonresident change start None) is = absurd is
  by_evidence stop v (verdict.Nonresident change start (Some address)) is = written Reused v stop change start address is

  -- a word of code stands behind the beginning of the code, so its address is not 0
  some_address : (kind : Kind) (v stop change start address : ℕ) → WasWritten h made.emits.code.arrangement made.emitted flow kind v stop change start address → address ≡ 0 → ⊥
  some_address kind v stop change start address was none = let is = was.word.is in omega (arith, is, none)

  -- what may stand for nothing that writes does not stand for a word of code
  no_writer : (v change start : ℕ) → IsEvidence m v change start (Some 0) → ⊥
  unfolding first_code_address
  no_writer v change start is = by (numbered m.changes change) is.0
    where
      by : (o : Option Change) → IsSomeAnd o (λ (c : Change). (c.variable ≡ v) × IsWriter m c.kind (Some 0)) → ⊥
      by None none = none
      by (Some c) has = let low = has.1.1.1 in omega (arith, low)

  -- Verdicts of the same numbers are explained by the same: 0 stands for no address, and no word of code has that.
  by_numbers : (stop v : ℕ) (w x : Verdict) → verdict_numbers w ≡ verdict_numbers x → IsVerdict m v x → IsEvidentIn h made.emits.code.arrangement made.emitted flow v stop w → IsExplainedBy m stop v x
  by_numbers stop v w verdict.Home e rule is = tt
  by_numbers stop v w (verdict.Recovered change node) e rule is = tt
  by_numbers stop v verdict.Home (verdict.Noncurrent c s a) e rule is = absurd (let f = first_same _ _ _ _ e in omega (arith, f))
  by_numbers stop v (verdict.Recovered change node) (verdict.Noncurrent c s a) e rule is = absurd (let f = first_same _ _ _ _ e in omega (arith, f))
  by_numbers stop v (verdict.Nonresident change start b) (verdict.Noncurrent c s a) e rule is = absurd (let f = first_same _ _ _ _ e in omega (arith, f))
  by_numbers stop v (verdict.Noncurrent change start None) (verdict.Noncurrent c s None) e rule is =
      let same : verdict.Noncurrent change start None ≡ verdict.Noncurrent c s None = cc in
      subst (IsExplainedBy m stop v) same (by_evidence stop v (verdict.Noncurrent change start None) is)
  by_numbers stop v (verdict.Noncurrent change start None) (verdict.Noncurrent c s (Some a)) e rule is =
      let none : a ≡ 0 = cc in
      absurd (no_writer v c s (subst (λ n. IsEvidence m v c s (Some n)) none rule))
  by_numbers stop v (verdict.Noncurrent change start (Some b)) (verdict.Noncurrent c s None) e rule is =
      let none : b ≡ 0 = cc in
      absurd (some_address Moved v stop change start b is none)
  by_numbers stop v (verdict.Noncurrent change start (Some b)) (verdict.Noncurrent c s (Some a)) e rule is =
      let same : verdict.Noncurrent change start (Some b) ≡ verdict.Noncurrent c s (Some a) = cc in
      subst (IsExplainedBy m stop v) same (by_evidence stop v (verdict.Noncurrent change start (Some b)) is)
  by_numbers stop v verdict.Home (verdict.Nonresident c s a) e rule is = absurd (let f = first_same _ _ _ _ e in omega (arith, f))
  by_numbers stop v (verdict.Recovered change node) (verdict.Nonresident c s a) e rule is = absurd (let f = first_same _ _ _ _ e in omega (arith, f))
  by_numbers stop v (verdict.Noncurrent change start b) (verdict.Nonresident c s a) e rule is = absurd (let f = first_same _ _ _ _ e in omega (arith, f))
  by_numbers stop v (verdict.Nonresident change start None) (verdict.Nonresident c s a) e rule is = absurd is
  by_numbers stop v (verdict.Nonresident change start (Some b)) (verdict.Nonresident c s None) e rule is =
      let none : b ≡ 0 = cc in
      absurd (some_address Reused v stop change start b is none)
  by_numbers stop v (verdict.Nonresident change start (Some b)) (verdict.Nonresident c s (Some a)) e rule is =
      let same : verdict.Nonresident change start (Some b) ≡ verdict.Nonresident c s (Some a) = cc in
      subst (IsExplainedBy m stop v) same (by_evidence stop v (verdict.Nonresident change start (Some b)) is)

  -- ---- Quiet paths

  -- a place that the image says to assign a variable does so, and is a place
  assigned_there : (start variable : ℕ) → Contains m.assigned (record { place = start; variable = variable }) → (assigns (map assignment_of m.assigned) start variable ≡ true) × (1 ≤ start)
  assigned_there start variable (k, low, is) =
      let pair : AssignedPair = record { place = start; variable = variable } in
      let at : slice_get m.assigned k ≡ Some pair = slice_get-get_or m.assigned k pair low ∙ ap Some is in
      let test : (start == start && variable == variable) ≡ true = and_from (start == start) (variable == variable) (eq-eqb start start refl) (eq-eqb variable variable refl) in (
        any_at (λ (a : Assignment). a.place.0 == start && a.var.0 == variable) (map assignment_of m.assigned) k (assignment_of pair) (map_at assignment_of m.assigned k pair at) test,
        (all_at (λ (a : AssignedPair). IsPlaceNumber m a.place × (a.variable < length m.variables)) m.assigned k pair image.assigned.each at).0.0,
      )

  -- a row that hides a variable may tell where a quiet path begins
  may_be : (v start : ℕ) (w : Verdict) → IsQuietStart m v w (Some start) → MayBeQuiet m start v
  may_be v start verdict.Home none = absurd none
  may_be v start (verdict.Recovered change node) none = absurd none
  may_be v start (verdict.Noncurrent change s writer) is = is
  may_be v start (verdict.Nonresident change s writer) is = is

  -- an image in which a row tells it is of a version that has it
  tells_quiet : (k : ℕ) (r : VisibleRow) (start : ℕ) → slice_get m.rows k ≡ Some r → r.quiet ≡ Some start → has_quiet m.version.level ≡ true
  tells_quiet k r start at is = by_test (has_quiet m.version.level) refl
    where
      by_test : (t : Bool) → has_quiet m.version.level ≡ t → t ≡ true
      by_test true t = refl
      by_test false t = absurd (none-some start (sym (all_at (λ (x : VisibleRow). x.quiet ≡ None) m.rows k r (image.rows.none_quiet t) at) ∙ is))

  some_start : (o : Option ℕ) (start : ℕ) → unwrap_or o 0 ≡ start → 1 ≤ start → o ≡ Some start
  some_start None start e some = absurd (omega (arith, e, some))
  some_start (Some n) start e some = ap Some e

  -- What a unit's quiet path passes does not disturb the variable in the image.
  clear_by : (v stop start : ℕ) (q : IsQuietIn h made.emits.code.arrangement made.emitted flow v stop start) (place : ℕ) → place ≢ 0
      → (((assigns flow.assignments.items place v ≡ true) ⊎ OwnsWriter h made.emits.code.arrangement made.emitted q.scalar.f place (home_of h q.scalar.f q.scalar.x)) → ⊥)
      → disturbs m v place ≡ false
  clear_by v stop start q place some free =
      undisturbed p h m made tables image unit q.scalar.f q.scalar.x v q.scalar.graph q.scalar.is q.scalar.of place some
      (λ either. free (elim either [
        | inl assigned ↦ inl (sym (ap (λ all. assigns all place v) same_assignments) ∙ assigned)
        | inr owned ↦ inr owned
      ]))

  -- So a variable may be right where a unit has a quiet path.
  right_by : (v stop start : ℕ) → MayBeQuiet m start v → IsQuietIn h made.emits.code.arrangement made.emitted flow v stop start → MayBeRight m stop v start
  right_by v stop start may q = record {
    assigned = (assigned_there start v may.0).0;
    stays = λ c among at of. (let k = among_at m.changes c among in all_at (λ (x : Change). x.place ≡ start → x.variable ≡ v → is_taken x.kind ≡ false) m.changes k.0 c may.1 k.1) at of;
    path = quiet_route m image flow same_steps v start (λ p. (assigns flow.assignments.items p v ≡ true) ⊎ OwnsWriter h made.emits.code.arrangement made.emitted q.scalar.f p (home_of h q.scalar.f q.scalar.x)) (clear_by v stop start q) stop q.path;
  }

  -- A row of the same numbers as one of the unit's tells of the same quiet path.
  right_row : (k : ℕ) (r row : VisibleRow) → slice_get m.rows k ≡ Some r → Among row made.parts.rows.rows → row_numbers m.version.level row ≡ row_numbers m.version.level r → row.place ≡ r.place → row.variable ≡ r.variable
      → (start : ℕ) → r.quiet ≡ Some start → MayBeRight m r.place r.variable start
  right_row k r row at among numbers place var start is =
      let may : MayBeQuiet m start r.variable = may_be r.variable start r.verdict (subst (IsQuietStart m r.variable r.verdict) is (all_at (λ (x : VisibleRow). IsQuietStart m x.variable x.verdict x.quiet) m.rows k r image.rows.quiet at)) in
      let same : unwrap_or row.quiet 0 ≡ start = quiet_same m.version.level row r (tells_quiet k r start at is) numbers ∙ ap (λ o. unwrap_or o 0) is in
      let told : row.quiet ≡ Some start = some_start row.quiet start same (assigned_there start r.variable may.0).1 in
      right_by r.variable r.place start may
      (subst (λ n. IsQuietIn h made.emits.code.arrangement made.emitted flow r.variable n start) place
      (subst (λ n. IsQuietIn h made.emits.code.arrangement made.emitted flow n row.place start) var (made.parts.quiet row start among told)))

  -- AN IMAGE THAT IS MADE OF A UNIT EXPLAINS what its rows say to hide variables, and why these may be right.
  pub explains_all : ExplainsAll m
  explains_all r among =
      let at = among_at m.rows r among in
      let k : ℕ = at.0 in
      let q = from_map (row_numbers m.version.level) made.parts.rows.rows k (row_numbers m.version.level r) (ap (λ l. slice_get l k) (sym made.parts.rows.same) ∙ map_at (row_numbers m.version.level) m.rows k r at.1) in
      let row : VisibleRow = q.0 in
      let numbers : row.place ∷ row.variable ∷ verdict_numbers row.verdict ≡ r.place ∷ r.variable ∷ verdict_numbers r.verdict = plain_same m.version.level row r q.2 in
      let place : row.place ≡ r.place = first_same row.place r.place (row.variable ∷ verdict_numbers row.verdict) (r.variable ∷ verdict_numbers r.verdict) numbers in
      let rest : row.variable ∷ verdict_numbers row.verdict ≡ r.variable ∷ verdict_numbers r.verdict = rest_same row.place r.place (row.variable ∷ verdict_numbers row.verdict) (r.variable ∷ verdict_numbers r.verdict) numbers in
      let var : row.variable ≡ r.variable = first_same row.variable r.variable (verdict_numbers row.verdict) (verdict_numbers r.verdict) rest in
      let there : Among row made.parts.rows.rows = at_among made.parts.rows.rows k row q.1 in
      record {
        hidden = by_numbers r.place r.variable row.verdict r.verdict (rest_same row.variable r.variable (verdict_numbers row.verdict) (verdict_numbers r.verdict) rest)
            (all_at (λ (x : VisibleRow). IsVerdict m x.variable x.verdict) m.rows k r image.rows.verdicts at.1)
            (subst (λ n. IsEvidentIn h made.emits.code.arrangement made.emitted flow r.variable n row.verdict) place
            (subst (λ n. IsEvidentIn h made.emits.code.arrangement made.emitted flow n row.place row.verdict) var (made.parts.evident row there)));
        quiet = right_row k r row at.1 there q.2 place var;
      }
