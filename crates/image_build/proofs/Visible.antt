-- What the rows of a place show is the text of what the variables hold that are visible there.
use Rattle.std.proofs.Common.{◌≡◌, ◌≢◌, ℕ, suc, ◌+◌, ◌-◌, ◌<◌, ◌≤◌, refl, sym, ap, ◌∙◌, subst, arith, Bool, true, false, Some, None, List, [], ◌∷◌, ◌++◌, length, map, slice_get}
use Rattle.std.specs.Prelude.{slice_index, option_map, if◌then◌else◌}
use Rattle.std.proofs.lemmas.Bool.{lt-ltb}
use Rattle.std.proofs.lemmas.List.{length-map}
use Rattle.std.proofs.lemmas.Option.{same_Some, slice_get_within}
use Rattle.event_runs.specs.Agreement.{Pairs}
use Rattle.word_base.specs.Owners.{Variable as OfVariable}
use Rattle.c_tree.specs.declared.object_type.Object.TheVariants as object
use Rattle.c_tree.specs.declared.object_type.ObjectType.{ObjectType}
use Rattle.c_tree.specs.declared.object_type.ObjectType.TheVariants as type
use Rattle.c_tree.specs.declared.object_type.Scalar as declared-scalar
use Rattle.c_tree.specs.Programs.{ProgramTree, StaticTree, AutomaticTree, LiteralTree}
use Rattle.c_places.specs.Places.{Place, places_of_program}
use Rattle.c_places.specs.Places as places
use Rattle.c_flow.specs.Assigns.{variable_number}
use Rattle.c_flow.specs.Rows.{Row, variable_if, numbers_of, flow_row, rows_of_program}
use Rattle.c_meaning_values.specs.Memory as source-memory
use Rattle.c_meaning_values.specs.Memory.{contents}
use Rattle.c_meaning_steps.specs.declared.event.Frame as source-frame
use Rattle.c_meaning_steps.specs.States.{Shown}
use Rattle.memory_map.specs.Maps.{most_words, stub_words}
use Rattle.image_form.specs.Form.{Form}
use Rattle.image_form.specs.Rules.{IsImage}
use Rattle.image_form.specs.declared.verdicts.Verdict.{Verdict}
use Rattle.image_form.specs.declared.verdicts.Verdict.TheVariants.{Home, Recovered, Noncurrent, Nonresident}
use Rattle.image_form.specs.declared.verdicts.VisibleRow.{VisibleRow}
use Rattle.image_build_tables.specs.Spans.{span, code_span}
use Rattle.image_build_tables.specs.Storages.{storages_of}
use Rattle.image_build_tables.specs.Variables.{shape, shapes_of, owner, owners_of, declared_names, name_length, length_of_name, storage}
use Rattle.image_build_tables.specs.Tables.{VisiblePair, pair_of_row}
use Rattle.rv_machine.specs.State.{MachineState}
use Rattle.rv_machine.specs.Run.{is_stop}
use Rattle.stop_engine_view.specs.Rows.{rows_at}
use Rattle.stop_engine_view.specs.Run as image
use Rattle.graph_core.specs.Graphs.{Graph, Scalar, Of, Name, UnitForm}
use Rattle.graph_core.specs.WellMarked.{IsVariable}
use Rattle.graph_core.specs.Runs.{Activation, frame}
use Rattle.graph_core.specs.Validity.{IsValid}
use Rattle.graph_core.specs.declared.value.Shadow.TheVariants.{Known}
use Rattle.graph_homes.specs.Homes.{HoldsOnAllPaths}
use Rattle.graph_build_runs.specs.Correspondence as source
use Rattle.graph_build_runs.specs.Correspondence.{Seen}
use Rattle.graph_homes.specs.Homed.{HomedForm, HaveHomes, home_of, home_number}
use Rattle.home_assign.proofs.Stops as home-stops
use Rattle.rv_emit_tables.specs.Emitted.{EmittedForm}
use Rattle.rv_emit_runs.specs.Laid as laid
use Rattle.rv_emit_runs.specs.Laid.{IsCode}
use Rattle.rv_emit_runs.specs.Told.{Tells}
use Rattle.graph_homes.specs.Owned.{IsPlaceOf}
use Rattle.image_truth_units.specs.Rows.{IsShown}
use Rattle.image_truth_units.specs.Standing.{IsDeclared}
use Rattle.image_truth_units.specs.Units.{HasVariablesIn}
use Rattle.image_truth_units.specs.Variables.{HasElements, automatic_number}
use Rattle.image_truth_units.proofs.Tables.{map_at}
use Rattle.image_truth_units.specs.Keeping.{HasPlacesOf}
use Rattle.image_truth_units.proofs.Texts as texts
use Rattle.image_truth_units.proofs.Scalars as scalars
use Rattle.image_build.specs.Truthful.{SameVisible}
use Rattle.image_build.specs.Sources.{shown_of}
use Rattle.image_build.specs.Meeting.{MeetAt}
use Rattle.image_build.proofs.Listed.{seen_at, seen_from, rows_of_place, row_there, pairs_at}
use Rattle.image_build.proofs.Stopping as stopping

-- ---- Numbers of variables

number_is : (p : ProgramTree) (x : ℕ) → x < length p.automatics → variable_number p (object.Automatic x) ≡ Some (automatic_number p x)
number_is p x lt = ap (λ b. if b then Some (automatic_number p x) else None) (lt-ltb x (length p.automatics) lt)

numbers_are : (p : ProgramTree) (all : List ℕ) → ((k x : ℕ) → slice_get all k ≡ Some x → x < length p.automatics) → numbers_of p all ≡ map (automatic_number p) all
numbers_are p [] each = refl
numbers_are p (x ∷ all) each = ap (λ o. variable_if o ++ numbers_of p all) (number_is p x (each 0 x refl)) ∙ ap (λ l. automatic_number p x ∷ l) (numbers_are p all (λ k y is. each (suc k) y is))

-- A graph has a scalar of a variable, which is of a scalar type.
pub record IsScalarIn (g : Graph) (number : ℕ) (of : ObjectType) : Type 0 where
  pub index : ℕ
  pub scalar : Scalar
  pub is : slice_get g.scalars index ≡ Some scalar
  pub variable_is : scalar.variable ≡ number
  pub scalar_type : declared-scalar.Scalar
  pub of_is : of ≡ type.Scalar scalar_type

-- A variable that is visible at a place of a graph of a unit, and is not kept in memory, is one of its scalars.
abbrev pub AreScalars : ProgramTree → UnitForm → Type 0
AreScalars p u =
    (f i k x : ℕ) (g : Graph) (q : Place) (v : AutomaticTree) → slice_get u.graphs f ≡ Some g → slice_get (places_of_program p) i ≡ Some q → IsPlaceOf g (i + 1) → slice_get (places.visible p.automatics q.scope) k ≡ Some x → slice_get p.automatics x ≡ Some v → v.in_memory ≡ false
    → IsScalarIn g (automatic_number p x) v.of

-- ---- The rows

-- An image has a program's tables and a unit's storages, spans and code; all meet at a stop.
module _ (p : ProgramTree) (m : Form) (functions : map name_length m.functions ≡ map length_of_name p.functions) (variables : map shape m.variables ≡ shapes_of p) (owners : map owner m.variables ≡ owners_of p) (more : List ℕ) (names : m.names ≡ declared_names p ++ more) (rules : IsImage m)
    (static_law : (n : ℕ) (t : StaticTree) → slice_get p.statics n ≡ Some t → (t.name ≢ []) × HasElements t.of) (automatic_law : (x : ℕ) (a : AutomaticTree) → slice_get p.automatics x ≡ Some a → (a.name ≢ []) × HasElements a.of)
    (literal_law : (n : ℕ) (l : LiteralTree) → slice_get p.literals n ≡ Some l → (1 ≤ length l.bytes) × (length l.bytes ≤ 4294967295))
    (h : HomedForm) (valid : IsValid h.unit) (homed : HaveHomes h) (e : EmittedForm) (code : IsCode h e) (storages : map storage m.variables ≡ storages_of h e (length m.variables)) (spans : map span m.functions ≡ map code_span e.functions) (words : m.owners ≡ e.owners) (outermost : slice_index e.owners (stub_words e.map - 3) ≡ 0)
    (unit : HasVariablesIn p h.unit) (has : HasPlacesOf h.unit m) (tells : Tells h code.arrangement e) (stops_are : (address : ℕ) → is_stop (image.stop_addresses m) address ≡ is_stop (laid.stop_addresses e) address)
    (place deep : ℕ) (activations : List source-frame.Frame) (visible : List Shown) (memory : source-memory.Memory) (s : MachineState) (t : MeetAt p h e code.arrangement place deep activations visible memory s)
    -- rows stand place by place, for each variable that is visible there
    (rows_seen : map pair_of_row m.rows ≡ seen_from 1 (map (λ (r : Row). r.visible) (rows_of_program p)))
    -- where a row says that a home shows a variable, that is so on all paths
    (home_holds : (k : ℕ) (r : VisibleRow) → slice_get m.rows k ≡ Some r → r.verdict ≡ Home → (f x : ℕ) (g : Graph) → slice_get h.unit.graphs f ≡ Some g → IsVariable g x r.variable → HoldsOnAllPaths (home_of h f) g r.place x (Of (Name x)))
    -- a visible variable that is not in memory is a scalar of the graph
    (scalar_there : (k x : ℕ) (v : AutomaticTree) → slice_get (places.visible p.automatics t.stop.at.scope) k ≡ Some x → slice_get p.automatics x ≡ Some v → v.in_memory ≡ false → IsScalarIn t.upper.here.graph (automatic_number p x) v.of)
    -- what is recovered is the text of what the variable holds
    (recovered_shown : (k i x change node : ℕ) (v : AutomaticTree) (r : VisibleRow) → slice_get (places.visible p.automatics t.stop.at.scope) k ≡ Some x → slice_get p.automatics x ≡ Some v → slice_get m.rows i ≡ Some r → r.place ≡ place → r.variable ≡ automatic_number p x → r.verdict ≡ Recovered change node
    → IsShown p m s memory v.of (contents (OfVariable x deep) memory) place (automatic_number p x) (Recovered change node)) where
  short : length s.code ≤ most_words s.map
  short = stopping.short p m functions variables owners more names rules static_law automatic_law literal_law h valid homed e code storages spans words outermost unit has tells stops_are place deep activations visible memory s t

  same : source.SameMemory p memory t.lower.memory
  same = stopping.same p m functions variables owners more names rules static_law automatic_law literal_law h valid homed e code storages spans words outermost unit has tells stops_are place deep activations visible memory s t

  here_place : t.lower.here.place ≡ place
  here_place = stopping.here_place p m functions variables owners more names rules static_law automatic_law literal_law h valid homed e code storages spans words outermost unit has tells stops_are place deep activations visible memory s t

  upper_place : t.upper.here.place ≡ place
  upper_place = stopping.upper_place p m functions variables owners more names rules static_law automatic_law literal_law h valid homed e code storages spans words outermost unit has tells stops_are place deep activations visible memory s t

  many_here : length t.lower.waiting + 1 ≡ deep
  many_here = stopping.many_here p m functions variables owners more names rules static_law automatic_law literal_law h valid homed e code storages spans words outermost unit has tells stops_are place deep activations visible memory s t

  -- the variables that are visible
  abbrev there : List ℕ
  there = places.visible p.automatics t.stop.at.scope

  -- each is seen
  seen_here : (k x : ℕ) → slice_get there k ≡ Some x → Seen p memory t.upper.memory t.upper.here.graph deep (frame t.upper.here) x
  seen_here = stopping.seen_here p m functions variables owners more names rules static_law automatic_law literal_law h valid homed e code storages spans words outermost unit has tells stops_are place deep activations visible memory s t

  -- over homes too
  seen_lower : (k x : ℕ) → slice_get there k ≡ Some x → Seen p memory t.lower.memory t.upper.here.graph (length t.lower.waiting + 1) (frame t.upper.here) x
  seen_lower = stopping.seen_lower p m functions variables owners more names rules static_law automatic_law literal_law h valid homed e code storages spans words outermost unit has tells stops_are place deep activations visible memory s t

  declared_there : (k x : ℕ) → slice_get there k ≡ Some x → (v : AutomaticTree) × (slice_get p.automatics x ≡ Some v)
  declared_there k x is =
      let seen = seen_here k x is in
      let declared = subst (λ o. IsDeclared p o seen.object) seen.owner (t.stop.declared seen.number seen.object seen.is) in
      (declared.0, declared.1)

  below : (k x : ℕ) → slice_get there k ≡ Some x → x < length p.automatics
  below k x is = let v = declared_there k x is in slice_get_within p.automatics x v.0 v.1

  -- the rows are of them
  rows_there : map pair_of_row (rows_at place m.rows) ≡ map (seen_at place) (map (automatic_number p) there)
  rows_there =
      let some = t.stop.some in
      let row : slice_get (map (λ (r : Row). r.visible) (rows_of_program p)) (place - 1) ≡ Some (numbers_of p there) =
      map_at (λ (r : Row). r.visible) (rows_of_program p) (place - 1) (flow_row p t.stop.at) (map_at (flow_row p) (places_of_program p) (place - 1) t.stop.at t.stop.is) in
      rows_of_place place (place - 1) m.rows (map (λ (r : Row). r.visible) (rows_of_program p)) (numbers_of p there) rows_seen row (omega (arith, some))
      ∙ ap (map (seen_at place)) (numbers_are p there below)

  -- What a home shows.
  home_shown : (k i x : ℕ) (v : AutomaticTree) (r : VisibleRow) → slice_get there k ≡ Some x → slice_get p.automatics x ≡ Some v → slice_get m.rows i ≡ Some r → r.place ≡ place → r.variable ≡ automatic_number p x → r.verdict ≡ Home
      → IsShown p m s memory v.of (contents (OfVariable x (length t.lower.waiting + 1)) memory) t.lower.here.place (automatic_number p x) Home
  home_shown k i x v r is declared at here variable verdict = by_memory v.in_memory refl
    where
      function : t.lower.here.function ≡ t.upper.here.function
      function = ap (λ (b : Activation). b.function) t.same.here.0.placed

      by_memory : (b : Bool) → v.in_memory ≡ b → IsShown p m s memory v.of (contents (OfVariable x (length t.lower.waiting + 1)) memory) t.lower.here.place (automatic_number p x) Home
      by_memory true inside =
          let seen = seen_lower k x is in
          texts.object_text p m functions variables owners more names rules static_law automatic_law literal_law h valid homed code.arrangement e storages spans words outermost unit has tells t.lower s code.map short t.stands t.running memory same t.typed t.differ t.stop.declared x seen.number v seen.object Home declared inside seen.is seen.owner seen.lives refl
      by_memory false outside =
          let seen = seen_lower k x is in
          let of = scalar_there k x v is declared outside in
          let graph = t.same.here.0.of in
          let holds = home_holds i r at verdict t.upper.here.function of.index t.upper.here.graph graph (ap (option_map (λ (z : Scalar). z.variable)) of.is ∙ ap (λ n. Some n) (of.variable_is ∙ sym variable)) in
          let on_all = subst (λ n. HoldsOnAllPaths (home_of h t.upper.here.function) t.upper.here.graph n of.index (Of (Name of.index))) (here ∙ sym upper_place) holds in
          let shadow = home-stops.home_shown h t.upper.here t.lower.here t.shown of.index (slice_get_within t.upper.here.graph.scalars of.index of.scalar of.is) on_all in
          scalars.home_text p m functions variables owners more names rules static_law automatic_law literal_law h valid homed code.arrangement e storages spans words outermost unit has tells t.lower s code.map short t.stands t.running memory same t.typed t.differ t.stop.declared x of.index v of.scalar_type t.upper.here.graph of.scalar (frame t.upper.here) declared of.of_is (ap (slice_get h.unit.graphs) function ∙ graph) of.is of.variable_is seen
          (shadow ∙ ap (λ f. Some (Known (t.lower.here.names (home_number (home_of h f of.index))))) (sym function))

  -- What a row shows.
  row_shown : (k i x : ℕ) (v : AutomaticTree) (r : VisibleRow) → slice_get there k ≡ Some x → slice_get p.automatics x ≡ Some v → slice_get m.rows i ≡ Some r → r.place ≡ place → r.variable ≡ automatic_number p x → (verdict : Verdict) → r.verdict ≡ verdict
      → IsShown p m s memory v.of (contents (OfVariable x deep) memory) place (automatic_number p x) verdict
  row_shown k i x v r is declared at here variable Home verdict =
      subst (λ n. IsShown p m s memory v.of (contents (OfVariable x deep) memory) n (automatic_number p x) Home) here_place
      (subst (λ d. IsShown p m s memory v.of (contents (OfVariable x d) memory) t.lower.here.place (automatic_number p x) Home) many_here (home_shown k i x v r is declared at here variable verdict))
  row_shown k i x v r is declared at here variable (Recovered change node) verdict = recovered_shown k i x change node v r is declared at here variable verdict
  row_shown k i x v r is declared at here variable (Noncurrent change start writer) verdict = tt
  row_shown k i x v r is declared at here variable (Nonresident change start writer) verdict = tt

  -- Rows are of the visible variables one by one, and show what these hold.
  pub visible_are : Pairs (SameVisible p m s memory) visible (rows_at place m.rows)
  visible_are =
      subst (λ l. Pairs (SameVisible p m s memory) l (rows_at place m.rows)) (sym t.stop.shows)
      (pairs_at (SameVisible p m s memory) (shown_of p deep memory) there (rows_at place m.rows) many each)
    where
      many : length (rows_at place m.rows) ≡ length there
      many =
          let all = ap length rows_there in
          let a = length-map (rows_at place m.rows) pair_of_row in
          let b = length-map (map (automatic_number p) there) (seen_at place) in
          let c = length-map there (automatic_number p) in
          omega (arith, all, a, b, c)

      each : (k x : ℕ) (r : VisibleRow) → slice_get there k ≡ Some x → slice_get (rows_at place m.rows) k ≡ Some r → SameVisible p m s memory (shown_of p deep memory x) r
      each k x r is at =
          let alike : pair_of_row r ≡ seen_at place (automatic_number p x) =
          same_Some (pair_of_row r) (seen_at place (automatic_number p x)) (sym (map_at pair_of_row (rows_at place m.rows) k r at) ∙ ap (λ l. slice_get l k) rows_there ∙ map_at (seen_at place) (map (automatic_number p) there) k (automatic_number p x) (map_at (automatic_number p) there k x is)) in
          let here : r.place ≡ place = ap (λ (z : VisiblePair). z.place) alike in
          let variable : r.variable ≡ automatic_number p x = ap (λ (z : VisiblePair). z.variable) alike in
          let v = declared_there k x is in
          let i = row_there place m.rows k r at in
          record {
            variable = variable;
            tree = v.0;
            is = v.1;
            text = subst (λ n. IsShown p m s memory v.0.of (contents (OfVariable x deep) memory) n r.variable r.verdict) (sym here)
                (subst (λ n. IsShown p m s memory v.0.of (contents (OfVariable x deep) memory) place n r.verdict) (sym variable) (row_shown k i.0 x v.0 r is v.1 i.1 here variable r.verdict refl));
          }
