-- Rows that say what verdicts say, which are evident, are evident in the words of the code.
use Rattle.std.proofs.Common.{◌≡◌, ℕ, true, Option, Some, None, List, [], ◌∷◌, slice_get, sym, ap, ◌∙◌, subst, arith}
use Rattle.std.proofs.lemmas.Option.{none-some, same_Some}
use Rattle.places.specs.declared.flow.FlowTable.{FlowTable}
use Rattle.places.specs.declared.table.PlaceRow.{PlaceRow}
use Rattle.places.specs.Flow.{assigns}
use Rattle.debug_records.specs.declared.change.Kind.{Kind}
use Rattle.debug_records.specs.declared.change.Place.{Place}
use Rattle.debug_records.specs.declared.change.Kind.TheVariants.{Moved, Reused}
use Rattle.graph_core.specs.Graphs.{Graph}
use Rattle.graph_core.specs.Paths.{Among, front, behind}
use Rattle.graph_core.specs.Validity.{IsValid}
use Rattle.graph_core.specs.WellMarked.{IsVariable}
use Rattle.graph_homes.specs.Homes.{is_same_home}
use Rattle.graph_homes.specs.Homed.{HomedForm, home_of}
use Rattle.rv_emit_tables.specs.Emitted.{EmittedForm}
use Rattle.rv_emit_runs.specs.Told.{AreCountable}
use Rattle.rv_emit.specs.Emits.{Emits}
use Rattle.currency_writers.specs.declared.writers.Writer as declared-writer
use Rattle.currency_writers.specs.Writers.{IsWriter as IsWriterOf}
use Rattle.currency_hiding.specs.Evidence.{Hides, HidesBy, IsMovedWrite, IsReusedWrite}
use Rattle.currency_hiding.specs.declared.causes.Cause as declared-cause
use Rattle.currency_hiding.specs.declared.causes.Cause.TheVariants as cause
use Rattle.currency.specs.declared.verdict.PlaceVerdict as declared-row
use Rattle.currency.specs.declared.verdict.Verdict as declared-verdict
use Rattle.currency.specs.declared.verdict.Verdict.TheVariants as told
use Rattle.currency.specs.Evident.{AreEvident, IsEvident, IsEvidentAt}
use Rattle.currency.specs.Named.{AreNamed, IsLogged, IsNamed, IsRemoval}
use Rattle.currency.specs.Telling.{IsCauseOf}
use Rattle.image_form.specs.declared.recipes.Node.{Node}
use Rattle.image_form.specs.declared.verdicts.Verdict.{Verdict}
use Rattle.image_form.specs.declared.verdicts.Verdict.TheVariants as verdict
use Rattle.image_form.specs.declared.verdicts.VisibleRow.{VisibleRow}
use Rattle.image_build_tables.specs.Rows.{AreRowsOf, IsRowOf, IsVerdictOf, address_of_some, address_of_writer, telling_of}
use Rattle.image_build.specs.Evidence.{AreEvidentIn, HasPath, IsEvidentIn, WasRemoved, WasWritten, WritesAt}
use Rattle.image_build.proofs.Words.{IsToldAt, bare_words, writer_words}

-- What a verdict that hides a variable tells: where the path begins, what writes the home, and of which kind it is.
abbrev start_of : declared-verdict.Verdict → ℕ
start_of told.Home = 0
start_of (told.Recovered r c) = 0
start_of (told.Noncurrent c s w q) = s.0
start_of (told.Nonresident c s w q) = s.0

abbrev change_of : declared-verdict.Verdict → ℕ
change_of told.Home = 0
change_of (told.Recovered r c) = 0
change_of (told.Noncurrent c s w q) = c
change_of (told.Nonresident c s w q) = c

abbrev writer_of : declared-verdict.Verdict → Option declared-writer.Writer
writer_of told.Home = None
writer_of (told.Recovered r c) = None
writer_of (told.Noncurrent c s w q) = w
writer_of (told.Nonresident c s w q) = Some w

abbrev kind_of : declared-verdict.Verdict → ℕ
kind_of told.Home = 0
kind_of (told.Recovered r c) = 1
kind_of (told.Noncurrent c s w q) = 2
kind_of (told.Nonresident c s w q) = 3

module _ (h : HomedForm) (valid : IsValid h.unit) (e : EmittedForm) (emits : Emits h e) (countable : AreCountable h) (flow : FlowTable) where
  abbrev IsShown : (variable stop : ℕ) → Verdict → Type 0
  IsShown v p w = IsEvidentIn h emits.code.arrangement e flow v p w

  -- An assignment that was removed.
  removed : (v p change start : ℕ) (f x : ℕ) (g : Graph) → slice_get h.unit.graphs f ≡ Some g → IsVariable g x v → IsRemoval h.unit.log change v start → Hides h.unit.log flow (home_of h f) f g x v p (cause.Removed change start) → WasRemoved h emits.code.arrangement e flow v p change start
  removed v p change start f x g is of removal (bare, route) = record {
    scalar = record { f = f; graph = g; x = x; is = is; of = of };
    removed = removal;
    assigned = bare.assigned;
    path = record { path = route.path; route = route.route };
    bare = bare_words h valid emits.code.arrangement e emits.told f g is emits.nothing_else h.unit.log flow x v change start of bare;
  }

  -- A home that was written for another name, by what is told.
  written : (kind : Kind) (v p change start f x y via : ℕ) (g : Graph) (w : declared-writer.Writer) (address : ℕ) → slice_get h.unit.graphs f ≡ Some g → IsVariable g x v → IsLogged h.unit.log change kind v → assigns flow.assignments.items start v ≡ true → HasPath flow v start via p
      → IsWriterOf f g via y w → is_same_home (home_of h f y) (home_of h f x) ≡ true → address_of_writer h.unit.graphs e.functions w ≡ Some address → WasWritten h emits.code.arrangement e flow kind v p change start address
  written kind v p change start f x y via g w address is of logged assigned path writes shared at =
      let one : IsToldAt h valid emits.code.arrangement e emits.told f g is via (home_of h f x) w = writer_words h valid emits.code.arrangement e emits.told f g is emits.tables emits.bindings countable via y x w writes shared in
      let same : one.address ≡ address = same_Some one.address address (sym one.at ∙ at) in
      record {
        scalar = record { f = f; graph = g; x = x; is = is; of = of };
        logged = logged;
        assigned = assigned;
        via = via;
        path = path;
        word = subst (WritesAt h emits.code.arrangement e f via (home_of h f x)) same one.word;
      }

  -- What is shown where the address of a writer is told.
  with_address : (v p c start f x y via : ℕ) (kind : Kind) (g : Graph) (w : declared-writer.Writer) → slice_get h.unit.graphs f ≡ Some g → IsVariable g x v → IsLogged h.unit.log c kind v → assigns flow.assignments.items start v ≡ true → HasPath flow v start via p → IsWriterOf f g via y w
      → is_same_home (home_of h f y) (home_of h f x) ≡ true → (address : ℕ) × (address_of_writer h.unit.graphs e.functions w ≡ Some address) × WasWritten h emits.code.arrangement e flow kind v p c start address
  with_address v p c start f x y via kind g w is of logged assigned path writes shared =
      let one : IsToldAt h valid emits.code.arrangement e emits.told f g is via (home_of h f x) w = writer_words h valid emits.code.arrangement e emits.told f g is emits.tables emits.bindings countable via y x w writes shared in
      (one.address, one.at, written kind v p c start f x y via g w one.address is of logged assigned path writes shared one.at)

  moved : (v p c start f x : ℕ) (g : Graph) (w : declared-writer.Writer) → slice_get h.unit.graphs f ≡ Some g → IsVariable g x v → IsLogged h.unit.log c Moved v → (c2 : ℕ) → Hides h.unit.log flow (home_of h f) f g x v p (cause.Moved c2 start w)
      → IsShown v p (verdict.Noncurrent c start (address_of_some h.unit.graphs e.functions (Some w)))
  moved v p c start f x g w is of logged c2 hides =
      let all = with_address v p c start f x hides.is.t hides.via Moved g w is of logged hides.assigned (record { path = hides.route.path; route = hides.route.route }) hides.is.writes hides.is.shared in
      subst (λ (o : Option ℕ). IsShown v p (verdict.Noncurrent c start o)) (sym all.1) all.2

  reused : (v p c start f x : ℕ) (g : Graph) (w : declared-writer.Writer) → slice_get h.unit.graphs f ≡ Some g → IsVariable g x v → IsLogged h.unit.log c Reused v → (c2 : ℕ) → Hides h.unit.log flow (home_of h f) f g x v p (cause.Reused c2 start w)
      → IsShown v p (verdict.Nonresident c start (address_of_writer h.unit.graphs e.functions w))
  reused v p c start f x g w is of logged c2 hides =
      let all = with_address v p c start f x hides.is.y hides.via Reused g w is of logged hides.assigned (record { path = hides.route.path; route = hides.route.route }) hides.is.writes hides.is.shared in
      subst (λ (o : Option ℕ). IsShown v p (verdict.Nonresident c start o)) (sym all.1) all.2

  -- What is told with the address of its writer.
  evident_in : (v p : ℕ) (w : declared-verdict.Verdict) → IsNamed h.unit.log v w → IsEvident h.unit.log flow h v p w → (nodes : List Node) (places : List PlaceRow) (place : ℕ) (s : Verdict) → IsVerdictOf (telling_of h places e) nodes place w s → IsShown v p s
  evident_in v p told.Home named evident nodes places place s says = subst (IsShown v p) (sym says) tt
  evident_in v p (told.Recovered r c) named evident nodes places place s (k, says, node) = subst (IsShown v p) (sym says) tt
  evident_in v p (told.Noncurrent c start None q) named evident nodes places place s says = subst (IsShown v p) (sym says) (by_cause evident.hiding.cause evident.hiding.quiet evident.told evident.evident)
    where
      by_cause : (k : declared-cause.Cause) (r : Option Place) → IsCauseOf k r (told.Noncurrent c start None q) → Hides h.unit.log flow (home_of h evident.f) evident.f evident.graph evident.x v p k → WasRemoved h emits.code.arrangement e flow v p c start.0
      by_cause (cause.Removed c2 start2) r e2 hides =
          let number : c2 ≡ c = sym (ap change_of e2) in
          let first : start2 ≡ start.0 = sym (ap start_of e2) in
          removed v p c start.0 evident.f evident.x evident.graph evident.is evident.scalar named
          (subst (λ n. Hides h.unit.log flow (home_of h evident.f) evident.f evident.graph evident.x v p (cause.Removed n start.0)) number
          (subst (λ n. Hides h.unit.log flow (home_of h evident.f) evident.f evident.graph evident.x v p (cause.Removed c2 n)) first hides))
      by_cause (cause.Moved c2 start2 w) r e2 hides = absurd (none-some w (ap writer_of e2))
      by_cause (cause.Reused c2 start2 w) r e2 hides = let kinds : 2 ≡ 3 = ap kind_of e2 in absurd (omega (arith, kinds))
  evident_in v p (told.Noncurrent c start (Some w) q) named evident nodes places place s says = subst (IsShown v p) (sym says) (by_cause evident.hiding.cause evident.hiding.quiet evident.told evident.evident)
    where
      by_cause : (k : declared-cause.Cause) (r : Option Place) → IsCauseOf k r (told.Noncurrent c start (Some w) q) → Hides h.unit.log flow (home_of h evident.f) evident.f evident.graph evident.x v p k → IsShown v p (verdict.Noncurrent c start.0 (address_of_some h.unit.graphs e.functions (Some w)))
      by_cause (cause.Removed c2 start2) r e2 hides = absurd (none-some w (sym (ap writer_of e2)))
      by_cause (cause.Moved c2 start2 w2) r e2 hides =
          let first : start2 ≡ start.0 = sym (ap start_of e2) in
          let same : w2 ≡ w = same_Some w2 w (sym (ap writer_of e2)) in
          moved v p c start.0 evident.f evident.x evident.graph w evident.is evident.scalar named c2
          (subst (λ n. Hides h.unit.log flow (home_of h evident.f) evident.f evident.graph evident.x v p (cause.Moved c2 start.0 n)) same
          (subst (λ n. Hides h.unit.log flow (home_of h evident.f) evident.f evident.graph evident.x v p (cause.Moved c2 n w2)) first hides))
      by_cause (cause.Reused c2 start2 w2) r e2 hides = let kinds : 2 ≡ 3 = ap kind_of e2 in absurd (omega (arith, kinds))
  evident_in v p (told.Nonresident c start w q) named evident nodes places place s says = subst (IsShown v p) (sym says) (by_cause evident.hiding.cause evident.hiding.quiet evident.told evident.evident)
    where
      by_cause : (k : declared-cause.Cause) (r : Option Place) → IsCauseOf k r (told.Nonresident c start w q) → Hides h.unit.log flow (home_of h evident.f) evident.f evident.graph evident.x v p k → IsShown v p (verdict.Nonresident c start.0 (address_of_writer h.unit.graphs e.functions w))
      by_cause (cause.Removed c2 start2) r e2 hides = let kinds : 3 ≡ 2 = ap kind_of e2 in absurd (omega (arith, kinds))
      by_cause (cause.Moved c2 start2 w2) r e2 hides = let kinds : 3 ≡ 2 = ap kind_of e2 in absurd (omega (arith, kinds))
      by_cause (cause.Reused c2 start2 w2) r e2 hides =
          let first : start2 ≡ start.0 = sym (ap start_of e2) in
          let same : w2 ≡ w = same_Some w2 w (sym (ap writer_of e2)) in
          reused v p c start.0 evident.f evident.x evident.graph w evident.is evident.scalar named c2
          (subst (λ n. Hides h.unit.log flow (home_of h evident.f) evident.f evident.graph evident.x v p (cause.Reused c2 start.0 n)) same
          (subst (λ n. Hides h.unit.log flow (home_of h evident.f) evident.f evident.graph evident.x v p (cause.Reused c2 n w2)) first hides))

  -- Each row is.
  pub rows_evident : (nodes : List Node) (places : List PlaceRow) (told : List declared-row.PlaceVerdict) (rows : List VisibleRow) → AreNamed h.unit.log told → AreEvident h.unit.log flow h told → AreRowsOf (telling_of h places e) nodes told rows
      → AreEvidentIn h emits.code.arrangement e flow rows
  rows_evident nodes places [] [] named evident say r among = elim among [ ]
  rows_evident nodes places [] (s ∷ rows) named evident say r among = absurd say
  rows_evident nodes places (w ∷ more) [] named evident say r among = absurd say
  rows_evident nodes places (w ∷ more) (_ ∷ rows) named evident say r front =
      let one : IsRowOf (telling_of h places e) nodes w r = say.0 in
      subst (λ n. IsShown n r.place r.verdict) (sym one.variable) (subst (λ n. IsShown w.var.0 n r.verdict) (sym one.place) (evident_in w.var.0 w.place.0 w.verdict (named w front) (evident w front) nodes places w.place.0 r.verdict one.verdict))
  rows_evident nodes places (w ∷ more) (s ∷ rows) named evident say r (behind later) = rows_evident nodes places more rows (λ x at. named x (behind at)) (λ x at. evident x (behind at)) say.1 r later
