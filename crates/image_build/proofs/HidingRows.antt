-- What rows say to hide variables, or to compute them anew, keeps the rules of an image's format, where it is evident.
use Rattle.std.proofs.Common.{◌≡◌, ◌≢◌, ℕ, zero, suc, ◌+◌, ◌-◌, ◌*◌, ◌%◌, ◌<◌, ◌≤◌, ◌==◌, ◌&&◌, ◌||◌, Bool, true, false, Option, Some, None, List, [], ◌∷◌, length, map, slice_get, refl, sym, ap, ◌∙◌, subst, arith}
use Rattle.std.specs.Prelude.{IsSomeAnd, nat_lt}
use Rattle.std.specs.List.{AllByRecursion}
use Rattle.std.proofs.lemmas.Bool.{eqb-true}
use Rattle.std.proofs.lemmas.Option.{slice_get_within}
use Rattle.base_laws.proofs.Lists.{map_at}
use Rattle.debug_records.specs.declared.change.Kind.{Kind}
use Rattle.debug_records.specs.Change.{is_taken}
use Rattle.places.specs.declared.flow.Assignment.{Assignment}
use Rattle.places.specs.declared.flow.FlowTable.{FlowTable}
use Rattle.places.specs.Flow.{assigns}
use Rattle.rv_code.specs.declared.instruction.Instruction.{Instruction}
use Rattle.graph_core.specs.Graphs.{Logged, Recipe, Of, Truncated, Operated, recipe_view}
use Rattle.graph_core.specs.Paths.{Among, front, behind}
use Rattle.graph_homes.specs.declared.home.Home.{Home}
use Rattle.graph_homes.specs.declared.home.Home.TheVariants.{Register, Slot}
use Rattle.graph_homes.specs.Homed.{HomedForm}
use Rattle.rv_emit_tables.specs.Emitted.{EmittedForm}
use Rattle.rv_emit_storage.specs.Storages.{StorageForm, slot_at}
use Rattle.rv_emit_steps.specs.Programs.{address_of}
use Rattle.rv_emit_words.specs.Operands.{store_slot_code}
use Rattle.rv_emit_runs.specs.Laid.{Arrangement, code_of}
use Rattle.rv_emit_runs.specs.Writing.{AreSpelledAt, IsWriter, IsWriting}
use Rattle.currency.specs.Named.{AreNamed, IsLogged, IsNamed, IsNumbered, IsRemoval, IsTaking}
use Rattle.currency.specs.declared.verdict.PlaceVerdict as declared-row
use Rattle.currency.specs.declared.verdict.Verdict as declared-verdict
use Rattle.currency.specs.declared.verdict.Verdict.TheVariants as told
use Rattle.image_form.specs.Form.{Form, numbered}
use Rattle.image_form.specs.RulesOfChanges.{AssignedRules}
use Rattle.image_form.specs.RulesOfFunctions.{IsCodeAddress, IsPlaceNumber, code_end, first_code_address}
use Rattle.image_form.specs.RulesOfRows.{IsEvidence, IsVerdict, IsWriter as IsWriterOf}
use Rattle.image_form.specs.declared.recipes.Node.{Node}
use Rattle.image_form.specs.declared.tables.AssignedPair.{AssignedPair}
use Rattle.image_form.specs.declared.tables.Change.{Change}
use Rattle.image_form.specs.declared.verdicts.Verdict.{Verdict}
use Rattle.image_form.specs.declared.verdicts.Verdict.TheVariants as verdict
use Rattle.image_form.specs.declared.verdicts.VisibleRow.{VisibleRow}
use Rattle.image_build_tables.specs.Nodes.{IsNodeOf, Naming}
use Rattle.image_build_tables.specs.Rows.{AreRowsOf, IsNodeIn, IsRowOf, IsVerdictOf, Telling, naming_at}
use Rattle.image_build_tables.specs.Tables.{assigned_pair, change_record}
use Rattle.image_build.specs.Evidence.{AreEvidentIn, IsEvidentIn, WasRemoved, WasWritten}
use Rattle.image_build.proofs.Lists.{some_and}

-- ---- Words that write homes stand in the code

spelled_within : (code : List ℕ) (from : ℕ) (i : Instruction) (more : List Instruction) → AreSpelledAt code from (i ∷ more) → from + length (i ∷ more) ≤ length code
spelled_within code from i [] there =
    let w = there.0 in
    let low = slice_get_within code from w.0 w.1 in
    omega (arith, low)
spelled_within code from i (j ∷ more) there =
    let rest = spelled_within code (from + 1) j more there.1 in
    omega (arith, rest)

-- so does the last of instructions of which there are some
last_within : (code : List ℕ) (from index : ℕ) (last : List Instruction) → AreSpelledAt code from last → from + length last ≡ index + 1 → 1 ≤ length last → index < length code
last_within code from index [] there is some = absurd (omega (arith, some))
last_within code from index (i ∷ more) there is some = let all = spelled_within code from i more there in omega (arith, all, is)

stored_some : (register offset : ℕ) (near : Bool) → nat_lt offset 2048 ≡ near → 1 ≤ length (store_slot_code register offset)
stored_some register offset true is = rw is (omega arith)
stored_some register offset false is = rw is (omega arith)

writing_some : (g : StorageForm) (home : Home) (last : List Instruction) → IsWriting g home last → 1 ≤ length last
writing_some g (Register r) last writes = let one = ap length writes.1 in omega (arith, one)
writing_some g (Slot k) last writes =
    let some = stored_some writes.0 (slot_at g k) (nat_lt (slot_at g k) 2048) refl in
    subst (λ (l : List Instruction). 1 ≤ length l) (sym writes.1) some

writer_within : (g : StorageForm) (code : List ℕ) (home : Home) (index : ℕ) → IsWriter g code home index → index < length code
writer_within g code home index is = last_within code is.from index is.last is.there is.is (writing_some g home is.last is.writes)

-- ---- Nodes of recipes are there

node_within : (nodes : List Node) (n : Naming) (r : Recipe) (k : ℕ) → IsNodeOf nodes n r k → k < length nodes
node_within nodes n (Of a) k is = slice_get_within nodes k _ is
node_within nodes n (Truncated t r) k (j, is, of) = slice_get_within nodes k _ is
node_within nodes n (Operated o r s) k (i, j, is, one, other) = slice_get_within nodes k _ is

-- ---- What is evident keeps the rules

module _ (h : HomedForm) (a : Arrangement) (e : EmittedForm) (m : Form) (code : m.code ≡ e.code) (changes : m.changes ≡ map change_record h.unit.log)
    (assigned : m.assigned ≡ map assigned_pair h.unit.assignments) (rules : AssignedRules m) (flow : FlowTable) (assignments : flow.assignments.items ≡ h.unit.assignments) where
  change_there : (number : ℕ) (c : Logged) → IsNumbered h.unit.log number c → numbered m.changes number ≡ Some (change_record c)
  change_there zero c is = let some = is.some in absurd (omega (arith, some))
  change_there (suc k) c is =
      let here : suc k - 1 ≡ k = omega arith in
      ap (λ l. slice_get l k) changes ∙ map_at change_record h.unit.log k c (ap (slice_get h.unit.log) (sym here) ∙ is.is)

  placed : (all : List Assignment) (p x : ℕ) → assigns all p x ≡ true → AllByRecursion (λ (q : AssignedPair). IsPlaceNumber m q.place × (q.variable < length m.variables)) (map assigned_pair all) → IsPlaceNumber m p
  placed [] p x some each = absurd cc
  placed (one ∷ all) p x some each = by (one.place.0 == p) (one.var.0 == x) refl (λ later. placed all p x later each.1) some
    where
      by : (b c : Bool) → (one.place.0 == p) ≡ b → (assigns all p x ≡ true → IsPlaceNumber m p) → ((b && c) || assigns all p x) ≡ true → IsPlaceNumber m p
      by true c is rest some = subst (IsPlaceNumber m) (eqb-true one.place.0 p is) each.0.0
      by false c is rest some = rest some

  start_there : (start variable : ℕ) → assigns flow.assignments.items start variable ≡ true → IsPlaceNumber m start
  start_there start variable is =
      placed h.unit.assignments start variable (ap (λ l. assigns l start variable) (sym assignments) ∙ is)
      (subst (AllByRecursion (λ (q : AssignedPair). IsPlaceNumber m q.place × (q.variable < length m.variables))) assigned rules.each)

  address_there : (g : StorageForm) (home : Home) (index : ℕ) → IsWriter g e.code home index → IsCodeAddress m (address_of index)
  unfolding first_code_address
  address_there g home index is =
      let low = writer_within g e.code home index is in
      let many = ap (λ (l : List ℕ). length l) code in
      (omega arith, omega arith, omega (arith, low, many))

  -- A removal is a change without a writer.
  removed_rule : (v start change : ℕ) → IsRemoval h.unit.log change v start → assigns flow.assignments.items start v ≡ true → IsEvidence m v change start None
  removed_rule v start change is from =
      (some_and (numbered m.changes change) (change_record is.change) (λ (c : Change). (c.variable ≡ v) × IsWriterOf m c.kind None) (change_there change is.change is.is) (is.of, is.taken), start_there start v from)

  -- A change of another kind has one, whose word is there.
  written_rule : (kind : Kind) (v p change start address : ℕ) → is_taken kind ≡ false → WasWritten h a e flow kind v p change start address → IsEvidence m v change start (Some address)
  written_rule kind v p change start address untaken was =
      let logged : IsLogged h.unit.log change kind v = was.logged in
      let word = was.word in (
        some_and (numbered m.changes change) (change_record logged.change) (λ (c : Change). (c.variable ≡ v) × IsWriterOf m c.kind (Some address)) (change_there change logged.change logged.is)
            (logged.of, (ap is_taken logged.kind ∙ untaken, subst (IsCodeAddress m) (sym word.is) (address_there _ _ word.index word.writes))),
        start_there start v was.assigned,
      )

  -- A value is computed anew by a change that took its assignment away.
  taken_rule : (v change node : ℕ) → IsTaking h.unit.log change v → node < length m.nodes → IsVerdict m v (verdict.Recovered change node)
  taken_rule v change node is within = (some_and (numbered m.changes change) (change_record is.change) (λ (c : Change). c.variable ≡ v) (change_there change is.change is.is) is.of, within)

  hidden_rule : (v p : ℕ) (s : Verdict) → IsEvidentIn h a e flow v p s → ((change node : ℕ) → s ≡ verdict.Recovered change node → IsVerdict m v s) → IsVerdict m v s
  hidden_rule v p verdict.Home evident other = tt
  hidden_rule v p (verdict.Recovered change node) evident other = other change node refl
  hidden_rule v p (verdict.Noncurrent change start None) evident other = removed_rule v start change evident.removed evident.assigned
  hidden_rule v p (verdict.Noncurrent change start (Some address)) evident other = written_rule _ v p change start address refl evident
  hidden_rule v p (verdict.Nonresident change start None) evident other = absurd evident
  hidden_rule v p (verdict.Nonresident change start (Some address)) evident other = written_rule _ v p change start address refl evident

  -- given: by what the nodes of recipes are told
  module _ (t : Telling) where
    -- a row that says what is told at a place that has a function
    row_rule : (v p : ℕ) (w : declared-verdict.Verdict) (s : Verdict) (n : Naming) → naming_at t p ≡ Some n → IsNamed h.unit.log v w → IsVerdictOf t m.nodes p w s → IsEvidentIn h a e flow v p s → IsVerdict m v s
    row_rule v p told.Home s n naming named says evident = subst (IsVerdict m v) (sym says) tt
    row_rule v p (told.Recovered r c) s n naming named (k, says, node) evident =
        subst (IsVerdict m v) (sym says) (taken_rule v c k named (node_within m.nodes n (recipe_view r) k (subst (λ o. IsNodeIn m.nodes o (recipe_view r) k) naming node)))
    row_rule v p (told.Noncurrent c start w q) s n naming named says evident = hidden_rule v p s evident (λ change node is. absurd (none_recovered c start.0 _ change node (sym says ∙ is)))
      where
        none_recovered : (c start : ℕ) (o : Option ℕ) (change node : ℕ) → verdict.Noncurrent c start o ≡ verdict.Recovered change node → ⊥
        none_recovered c start o change node same = cc
    row_rule v p (told.Nonresident c start w q) s n naming named says evident = hidden_rule v p s evident (λ change node is. absurd (none_recovered c start.0 _ change node (sym says ∙ is)))
      where
        none_recovered : (c start : ℕ) (o : Option ℕ) (change node : ℕ) → verdict.Nonresident c start o ≡ verdict.Recovered change node → ⊥
        none_recovered c start o change node same = cc

    -- Each row keeps the rule of its verdict.
    pub verdict_rules : (all : List declared-row.PlaceVerdict) (rows : List VisibleRow) → AreRowsOf t m.nodes all rows → AreNamed h.unit.log all
        → ((w : declared-row.PlaceVerdict) → Among w all → (n : Naming) × (naming_at t w.place.0 ≡ Some n)) → AreEvidentIn h a e flow rows
        → AllByRecursion (λ (r : VisibleRow). IsVerdict m r.variable r.verdict) rows
    verdict_rules [] [] say named naming evident = tt
    verdict_rules [] (r ∷ rows) say named naming evident = absurd say
    verdict_rules (w ∷ all) [] say named naming evident = tt
    verdict_rules (w ∷ all) (r ∷ rows) say named naming evident =
        let one : IsRowOf t m.nodes w r = say.0 in
        let n = naming w front in
        let here : IsEvidentIn h a e flow w.var.0 w.place.0 r.verdict = subst (λ x. IsEvidentIn h a e flow x w.place.0 r.verdict) one.variable (subst (λ p. IsEvidentIn h a e flow r.variable p r.verdict) one.place (evident r front)) in (
          subst (λ x. IsVerdict m x r.verdict) (sym one.variable) (row_rule w.var.0 w.place.0 w.verdict r.verdict n.0 n.1 (named w front) one.verdict here),
          verdict_rules all rows say.1 (λ x among. named x (behind among)) (λ x among. naming x (behind among)) (λ x among. evident x (behind among)),
        )
