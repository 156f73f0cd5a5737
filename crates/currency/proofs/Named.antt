-- What verdicts name: the change is in the log, and what is said to write a home does.
use Rattle.std.proofs.Common.{◌≡◌, ◌≢◌, ℕ, ◌-◌, ◌<◌, Option, Some, None, List, [], ◌∷◌, ◌++◌, length, refl, sym, ap, subst, ◌∙◌, arith}
use Rattle.std.specs.Prelude.{MatchOption, option_map, slice_get, true}
use Rattle.std.proofs.lemmas.Option.{none-some, same_Some, slice_get_within}
use Rattle.debug_records.specs.declared.change.Kind.TheVariants.{Moved, Reused}
use Rattle.places.specs.declared.flow.FlowTable.{FlowTable}
use Rattle.places.specs.declared.table.PlaceTable as declared-table
use Rattle.graph_homes.specs.declared.home.Home.{Home}
use Rattle.graph_homes.specs.Homes.{is_same_home}
use Rattle.graph_homes.specs.Homed.{HomedForm, home_of, homes_in}
use Rattle.graph_core.specs.declared.recipe.Recipe as declared-recipe
use Rattle.graph_core.specs.Graphs.{Graph, Instruction, Logged, Scalar}
use Rattle.graph_core.specs.WellMarked.{IsVariable}
use Rattle.dead_pass_writes.specs.Removals.{IsRemoval as IsLoggedRemoval}
use Rattle.currency_shown.specs.Found.{IsPlaceReached}
use Rattle.currency_writers.specs.declared.writers.Writer as declared-writer
use Rattle.currency_writers.specs.Writers.{IsWriter, instruction, parameter}
use Rattle.debug_records.specs.declared.change.Place.{Place}
use Rattle.currency_hiding.specs.declared.causes.Cause as declared-cause
use Rattle.currency_hiding.specs.declared.causes.Cause.TheVariants as cause
use Rattle.currency_hiding.specs.Changes.{IsNumbered as IsHidingNumbered}
use Rattle.currency_hiding.specs.Evidence.{Hides}
use Rattle.currency.specs.declared.telling.Told as declared-told
use Rattle.currency.specs.declared.telling.Told.TheVariants as told
use Rattle.currency.specs.declared.telling.ToldVariable as declared-variable
use Rattle.currency.specs.declared.told.ToldPlaces as declared-places
use Rattle.currency.specs.declared.verdict.Verdict as declared-verdict
use Rattle.currency.specs.declared.verdict.Verdict.TheVariants as verdict
use Rattle.currency.specs.declared.verdict.PlaceVerdict as declared-row
use Rattle.currency.specs.Telling.{AreRowsTold, IsCauseOf, IsNoneTold, IsRowTold, IsToldOf, IsToldRight, IsVerdictOf, IsVerdictOn, told_at}
use Rattle.currency.specs.Named.{AreNamed, IsNamed, IsNumbered, IsTaking}
use Rattle.currency.specs.Sound.{AreSo}
use Rattle.currency.specs.Written.{AreWritten, IsWritten, Writes, WritesHome, binding as by_binding, writer_function, instruction as by_instruction}
use Rattle.currency.specs.Evident.{AreEvident, AreToldEvident, IsEvident}

-- ---- The changes

numbered_so : (log : List Logged) (n : ℕ) (c : Logged) → IsHidingNumbered log n c → IsNumbered log n c
numbered_so log n c is = record { some = is.some; is = is.is }

-- the change of a source takes an assignment of the variable
source_takes : (log : List Logged) (p variable number : ℕ) → IsLoggedRemoval log p variable number → IsTaking log number variable
source_takes log p variable number is =
    (let counted = is.counted in
    let at : number - 1 ≡ is.k = omega (arith, counted) in
    record { change = is.change; is = record { some = omega (arith, counted); is = ap (λ k. slice_get log k) at ∙ is.is }; taken = is.taken; of = is.of })

-- a cause is told by the verdict that names its change
cause_named : (log : List Logged) (flow : FlowTable) (u : HomedForm) (f : ℕ) (g : Graph) (x variable p : ℕ) (c : declared-cause.Cause) (q : Option Place) (v : declared-verdict.Verdict) → IsCauseOf c q v → Hides log flow (home_of u f) f g x variable p c → IsNamed log variable v
cause_named log flow u f g x variable p (cause.Removed n start) q v told hides =
    subst (λ z. IsNamed log variable z) (sym told) (let bare = hides.0 in record { change = bare.change; is = numbered_so log n bare.change bare.is; taken = bare.taken; of = bare.of; at = bare.at })
cause_named log flow u f g x variable p (cause.Moved n start w) q v told hides =
    subst (λ z. IsNamed log variable z) (sym told) (let moved = hides.is in record { change = moved.change; is = numbered_so log n moved.change moved.is; kind = moved.moved; of = moved.of })
cause_named log flow u f g x variable p (cause.Reused n start w) q v told hides =
    subst (λ z. IsNamed log variable z) (sym told) (let reused = hides.is in record { change = reused.change; is = numbered_so log n reused.change reused.is; kind = reused.reused; of = reused.of })

-- ---- The writes

-- what writes a name in a place writes it
writes_so : (f : ℕ) (g : Graph) (p y : ℕ) (w : declared-writer.Writer) → IsWriter f g p y w → (writer_function w ≡ f) × Writes g (writer_function w) y w
writes_so f g p y _ (instruction {n} {i} {rest} at target) = (refl, by_instruction at.block i at.is (subst (λ (l : List Instruction). slice_get l (length at.before) ≡ Some i) (sym at.instructions) (there at.before i rest)) target)
  where
    there : (before : List Instruction) (i : Instruction) (rest : List Instruction) → slice_get (before ++ i ∷ rest) (length before) ≡ Some i
    there [] i rest = refl
    there (j ∷ before) i rest = there before i rest
writes_so f g p y _ (parameter {k} entry at) = (refl, by_binding at)

module _ (u : HomedForm) (f : ℕ) (g : Graph) (x variable : ℕ) (there : slice_get u.unit.graphs f ≡ Some g) (is : IsVariable g x variable) where
  writes_home : (p y : ℕ) (w : declared-writer.Writer) → IsWriter f g p y w → y ≢ x → is_same_home (home_of u f y) (home_of u f x) ≡ true → WritesHome u variable w
  writes_home p y w writes other shared =
      (let so = writes_so f g p y w writes in
      record {
        graph = g;
        x = x;
        y = y;
        is = ap (λ k. slice_get u.unit.graphs k) so.0 ∙ there;
        scalar = is;
        writes = so.1;
        other = other;
        shared = subst (λ k. is_same_home (home_of u k y) (home_of u k x) ≡ true) (sym so.0) shared;
      })

  -- a scalar is no temporary
  scalar_low : x < length g.scalars
  scalar_low = by_scalar (slice_get g.scalars x) refl
    where
      by_scalar : (o : Option Scalar) → slice_get g.scalars x ≡ o → x < length g.scalars
      by_scalar None e = absurd (none-some variable (sym (ap (λ o. option_map (λ (s : Scalar). s.variable) o) e) ∙ is))
      by_scalar (Some s) e = slice_get_within g.scalars x s e

  cause_written : (log : List Logged) (flow : FlowTable) (p : ℕ) (c : declared-cause.Cause) (q : Option Place) (v : declared-verdict.Verdict) → IsCauseOf c q v → Hides log flow (home_of u f) f g x variable p c → IsWritten u variable v
  cause_written log flow p (cause.Removed n start) q v told hides = subst (λ z. IsWritten u variable z) (sym told) tt
  cause_written log flow p (cause.Moved n start w) q v told hides =
      (let moved = hides.is in
      let temporary = moved.temporary in
      let low = scalar_low in
      subst (λ z. IsWritten u variable z) (sym told) (writes_home hides.via moved.t w moved.writes (λ same. omega (arith, temporary, low, same)) moved.shared))
  cause_written log flow p (cause.Reused n start w) q v told hides = subst (λ z. IsWritten u variable z) (sym told) (let reused = hides.is in writes_home hides.via reused.y w reused.writes reused.other reused.shared)

-- ---- Row by row

written_of : (log : List Logged) (flow : FlowTable) (u : HomedForm) (variable p : ℕ) (v : declared-verdict.Verdict) → IsEvident log flow u variable p v → IsWritten u variable v
written_of log flow u variable p verdict.Home e = tt
written_of log flow u variable p (verdict.Recovered r c) e = tt
written_of log flow u variable p (verdict.Noncurrent c s w q) e = cause_written u e.f e.graph e.x variable e.is e.scalar log flow p e.hiding.cause e.hiding.quiet (verdict.Noncurrent c s w q) e.told e.evident
written_of log flow u variable p (verdict.Nonresident c s w q) e = cause_written u e.f e.graph e.x variable e.is e.scalar log flow p e.hiding.cause e.hiding.quiet (verdict.Nonresident c s w q) e.told e.evident

-- What verdicts say to write homes does.
pub are_written : (log : List Logged) (flow : FlowTable) (u : HomedForm) (rows : List declared-row.PlaceVerdict) → AreEvident log flow u rows → AreWritten u rows
are_written log flow u rows evident w among = written_of log flow u w.var.0 w.place.0 w.verdict (evident w among)

named_of : (log : List Logged) (flow : FlowTable) (u : HomedForm) (variable p : ℕ) (v : declared-verdict.Verdict) → IsEvident log flow u variable p v → ((r : declared-recipe.Recipe) (c : ℕ) → v ≡ verdict.Recovered r c → IsTaking log c variable) → IsNamed log variable v
named_of log flow u variable p verdict.Home e taking = tt
named_of log flow u variable p (verdict.Recovered r c) e taking = taking r c refl
named_of log flow u variable p (verdict.Noncurrent c s w q) e taking = cause_named log flow u e.f e.graph e.x variable p e.hiding.cause e.hiding.quiet (verdict.Noncurrent c s w q) e.told e.evident
named_of log flow u variable p (verdict.Nonresident c s w q) e taking = cause_named log flow u e.f e.graph e.x variable p e.hiding.cause e.hiding.quiet (verdict.Nonresident c s w q) e.told e.evident

-- the change of a recipe that is told takes an assignment of the variable
taken_by : (log : List Logged) (homes : List Home) (g : Graph) (p x : ℕ) (t : declared-variable.ToldVariable) (what : declared-told.Told) (r : declared-recipe.Recipe) (c : ℕ) → IsVerdictOf what (verdict.Recovered r c) → IsToldRight log homes g p t what → IsVariable g x t.var.0 → IsPlaceReached g p → IsTaking log c t.var.0
taken_by log homes g p x t (told.Recovered s d) r c of right is reached =
    (let least = (right x is).2 reached.reached.history reached.block reached.rest reached.end reached.reached.path in
    let source = least.is.5 in
    let same : source.variable ≡ t.var.0 = same_Some source.variable t.var.0 (sym source.of ∙ is) in
    subst (λ n. IsTaking log n t.var.0) of.1 (subst (λ v. IsTaking log d v) same (source_takes log source.place source.variable d source.removed)))
taken_by log homes g p x t (told.Hidden hiding) r c of right is reached = elim of [ ]

-- The change that each verdict names is in the log.
pub are_named : (u : HomedForm) (flow : FlowTable) (table : declared-table.PlaceTable) (found : declared-places.ToldPlaces) (rows : List declared-row.PlaceVerdict) → AreSo u table found → AreToldEvident u.unit.log flow u found → AreRowsTold table found rows → AreEvident u.unit.log flow u rows
    → AreNamed u.unit.log rows
are_named u flow table found rows so told each evident w among = named_of u.unit.log flow u w.var.0 w.place.0 w.verdict (evident w among) (λ r c is. taking r c is row.what row.is row.verdict)
  where
    row : IsRowTold (told_at found w.place.0) w
    row = (each w among).1

    home_recovered : (r : declared-recipe.Recipe) (c : ℕ) → verdict.Recovered r c ≡ verdict.Home → ⊥
    home_recovered r c e = cc

    taking : (r : declared-recipe.Recipe) (c : ℕ) → w.verdict ≡ verdict.Recovered r c → (o : Option declared-variable.ToldVariable) → MatchOption o (IsNoneTold (told_at found w.place.0) w.var) (λ t. IsToldOf (told_at found w.place.0) w.var t) → IsVerdictOn o w.verdict → IsTaking u.unit.log c w.var.0
    taking r c is None none v = absurd (home_recovered r c (sym is ∙ v))
    taking r c is (Some t) of v =
        (let one = told w.place.0 t of.0 in
        subst (λ k. IsTaking u.unit.log c k) of.1
        (taken_by u.unit.log (homes_in u one.f) one.graph w.place.0 one.of.x t t.told r c (subst (λ (z : declared-verdict.Verdict). IsVerdictOf t.told z) is v)
        (so.right w.place.0 t one.f one.graph of.0 (slice_get_within u.unit.graphs one.f one.graph one.is) one.is) one.of.of one.of.reached))
