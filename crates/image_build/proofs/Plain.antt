-- Units that are as they were built, in slots: they are well marked, and their slots show all variables.
use Rattle.std.proofs.Common.{◌≡◌, ℕ, ◌+◌, ◌<◌, ◌++◌, false, List, [], ◌∷◌, length, map, refl, sym, ap, ◌∙◌, subst, arith}
use Rattle.std.specs.List.{AllByRecursion}
use Rattle.debug_records.specs.Change.{is_taken}
use Rattle.places.specs.declared.table.PlaceTable.{PlaceTable}
use Rattle.c_tree.specs.Programs.{ProgramTree}
use Rattle.c_type_laws.specs.Laws.{IsWellFormed}
use Rattle.c_flow.specs.Rows.{row_view, rows_of_program}
use Rattle.graph_core.specs.Graphs.{Graph, Logged, UnitForm}
use Rattle.graph_core.specs.Paths.{Among, front, behind}
use Rattle.graph_core.specs.Validity.{IsValid}
use Rattle.graph_homes.specs.declared.home.Home.TheVariants.{Register, Slot}
use Rattle.graph_homes.specs.Homed.{HomedForm, home_of}
use Rattle.home_assign.specs.Sharing.{change_of}
use Rattle.home_assign.specs.Changes.{HaveChanges, IsSharing, Sharing, homes_pass}
use Rattle.home_assign.specs.Rule.{HaveSlots}
use Rattle.currency.specs.declared.verdict.PlaceVerdict.{PlaceVerdict}
use Rattle.currency.specs.Visible.{sight, sights_from}
use Rattle.graph_build_laws.specs.Built.{IsBuilt}
use Rattle.image_build.proofs.Rows.{IsPlainUnitOf, shown_home}
use Rattle.image_truth_units.proofs.BuiltMarked.{built_marked}
use Rattle.places.specs.declared.table.PlaceRow.{PlaceRow}
use Rattle.rv_emit_tables.specs.Emitted.{EmittedForm}
use Rattle.image_form.specs.Form.{Form}
use Rattle.image_form.specs.Numbers.{row_numbers, verdict_numbers}
use Rattle.image_form_drafts.specs.Same.{SaysTheSame}
use Rattle.image_form.specs.declared.verdicts.VisibleRow.{VisibleRow}
use Rattle.image_form.specs.declared.verdicts.Verdict.{Verdict}
use Rattle.image_form.specs.declared.verdicts.Verdict.TheVariants as verdict
use Rattle.currency.specs.declared.verdict.Verdict as told-verdict
use Rattle.image_build_tables.specs.Rows.{AreRowsOf, AreShown, IsVerdictOf, telling_of}
use Rattle.image_build_tables.specs.Tables as image
use Rattle.image_build_tables.specs.Tables.{assigned_pair, change_record, flow_pair, version_of_map}
use Rattle.image_truth_units.specs.Tables.{AreTablesOf, entry_place, visible_from}
use Rattle.std.proofs.lemmas.List.{length-map}
use Rattle.std.proofs.Math.ListN.{length-append}
use Rattle.c_flow.specs.Tables.{Fits32}
use Rattle.image_build_tables.specs.Spans.{code_span, saved, span}
use Rattle.image_build_tables.specs.Storages.{storages_of}
use Rattle.image_build_tables.specs.Variables.{automatic_shape, declared_names, entry, length_of_name, literal_shape, name_length, owner, owners_of, pass_names, shape, shapes_of, static_shape, storage}
use Rattle.image_build_tables.specs.Places.{address, addresses_of}
use Rattle.image_build.proofs.Tables as tables
use Rattle.image_build.proofs.Tables.{rows_few}
use Rattle.image_build.specs.ProgramImageShown.{AreShownAt, IsPlainUnit, ShowsAll}
use Rattle.image_build.specs.Tables.{HasShapeOf}
use Rattle.image_form_sections.specs.declared.version.Level.{Level}
use Rattle.image_build.proofs.RecordNumbers.{plain_same}

-- ---- No change in slots

no_sharing : (log : List Logged) (h : HomedForm) → HaveSlots h → (s : Sharing) → IsSharing log h.unit.graphs (home_of h) s → ⊥
no_sharing log h slots s is = (let slot = slots s.function is.graph is.is is.reused.y is.reused.named in let kept = is.reused.shared in clash (sym slot ∙ kept))
  where
    clash : {x r : ℕ} → Slot x ≡ Register r → ⊥
    clash e = cc

none_logged : (log : List Logged) (h : HomedForm) → HaveSlots h → (all : List Sharing) → ((s : Sharing) → Among s all → IsSharing log h.unit.graphs (home_of h) s) → (map (λ (s : Sharing). change_of homes_pass s.scalar) all) ≡ []
none_logged log h slots [] only = refl
none_logged log h slots (s ∷ all) only = absurd (no_sharing log h slots s (only s front))

-- Where each name has a slot of its own, no register is shared, and so no change is logged of that.
pub slots_log_nothing : (u : UnitForm) (h : HomedForm) → HaveChanges u h → u.graphs ≡ h.unit.graphs → HaveSlots h → u.log ≡ [] → h.unit.log ≡ []
slots_log_nothing u h changes graphs slots empty =
    let none = none_logged u.log h slots changes.sharings (λ s among. subst (λ (gs : List Graph). IsSharing u.log gs (home_of h) s) graphs (changes.only s among)) in
    changes.log ∙ ap (λ (l : List Logged). l ++ map (λ (s : Sharing). change_of homes_pass s.scalar) changes.sharings) empty ∙ none

-- The unit of which homes are assigned is as it was built where no change is logged.
pub plain_of : (p : ProgramTree) (u : UnitForm) (h : HomedForm) → IsBuilt p u → h.unit ≡ record u { log = h.unit.log } → HaveChanges u h → HaveSlots h → IsPlainUnit p h
plain_of p u h built same changes slots =
    let unchanged = slots_log_nothing u h changes (sym (ap (λ (v : UnitForm). v.graphs) same)) slots built.forms.log in
    let one : h.unit ≡ u = same ∙ ap (λ (l : List Logged). record u { log = l }) (unchanged ∙ sym built.forms.log) in
    record { built = subst (IsBuilt p) (sym one) built; unchanged = unchanged; slots = slots }

-- ---- What is shown

nothing_removed : (log : List Logged) → log ≡ [] → (change : Logged) → Among change log → is_taken change.kind ≡ false
nothing_removed [] is change among = elim among [ ]
nothing_removed (c ∷ log) is change among = cc

pub plain_unit : (p : ProgramTree) (h : HomedForm) → IsWellFormed p → IsValid h.unit → HasShapeOf p h.unit → IsPlainUnit p h → IsPlainUnitOf p h
plain_unit p h formed valid shape plain = record {
  marked = built_marked p h.unit formed plain.built;
  unremoved = nothing_removed h.unit.log plain.unchanged;
  slots = plain.slots;
  flow = record { steps_are = shape.steps; assignments_are = shape.assignments };
  entries = shape.entries;
}

-- Its slots show all variables, wherever these are visible.
pub shown_at : (p : ProgramTree) (h : HomedForm) (places : PlaceTable) → IsWellFormed p → IsValid h.unit → HasShapeOf p h.unit → IsPlainUnit p h → map row_view places.rows.items ≡ rows_of_program p → length places.rows.items + 1 < 4294967296 → AreShownAt places h
shown_at p h places formed valid shape plain are few = λ all seen. shown_home p formed h (plain_unit p h formed valid shape plain) places.rows.items are few all seen

-- ---- What its tables keep

shapes_counted : (p : ProgramTree) → length (shapes_of p) ≡ length p.statics + length p.literals + length p.automatics
shapes_counted p =
    let first = length-append (map static_shape p.statics) (map literal_shape p.literals ++ map automatic_shape p.automatics) in
    let second = length-append (map literal_shape p.literals) (map automatic_shape p.automatics) in
    let statics = length-map p.statics static_shape in
    let literals = length-map p.literals literal_shape in
    let automatics = length-map p.automatics automatic_shape in
    omega (arith, first, second, statics, literals, automatics)

-- Tables whose sections say what a program, a unit with homes and its code say are made of these.
pub tables_are : (p : ProgramTree) (h : HomedForm) (e : EmittedForm) (rows : List PlaceRow) (m : Form) → m.version ≡ version_of_map e.map → m.code ≡ e.code → m.initial ≡ e.initial → m.owners ≡ e.owners → map name_length m.functions ≡ map length_of_name p.functions → map span m.functions ≡ map code_span e.functions
    → map entry m.functions ≡ map entry_place h.unit.graphs → map saved m.functions ≡ map (λ f. 0) p.functions → map shape m.variables ≡ shapes_of p → map owner m.variables ≡ owners_of p → map storage m.variables ≡ storages_of h e (length m.variables) → m.names ≡ declared_names p ++ pass_names h.unit.log
    → map row_view rows ≡ rows_of_program p → map image.spot m.places ≡ map image.spot_of_row rows → map address m.places ≡ addresses_of e.functions e.stops rows → m.changes ≡ map change_record h.unit.log → m.flow ≡ map flow_pair h.unit.steps → m.assigned ≡ map assigned_pair h.unit.assignments → m.calls ≡ [] → m.members ≡ []
    → AreTablesOf p h e rows m
tables_are p h e rows m version code initial owners functions spans entries none_saved variables belonging storages names rows_are places addresses changes flow assigned calls members = record {
  version = version;
  code = code;
  initial = initial;
  owners = owners;
  functions = functions;
  spans = spans;
  entries = entries;
  saved = none_saved;
  variables = variables;
  belonging = belonging;
  storages = storages ∙ ap (storages_of h e) (sym (length-map m.variables shape) ∙ ap length variables ∙ shapes_counted p);
  names = names;
  rows_are = rows_are;
  places = places;
  addresses = addresses;
  changes = changes;
  flow = flow;
  assigned = assigned;
  calls = calls;
  members = members;
}

-- what their rows tell of is what is visible at the program's places
pub visible_of : (p : ProgramTree) (rows : List PlaceRow) (all : List PlaceVerdict) (m : Form) → Fits32 p → map row_view rows ≡ rows_of_program p → map sight all ≡ sights_from 1 rows → map image.pair_of_row m.rows ≡ map image.sight_of_verdict all → map image.pair_of_row m.rows ≡ visible_from 1 (rows_of_program p)
visible_of p rows all m fits are seen told = told ∙ tables.seen all rows (rows_few p rows fits are) seen ∙ ap (visible_from 1) are

-- ---- What they show

-- Tables of a unit that is as it was built, in slots, whose verdicts all say that homes show variables.
module _ (p : ProgramTree) (h : HomedForm) (e : EmittedForm) (rows : List PlaceRow) (m : Form) (plain : IsPlainUnit p h) (changes : m.changes ≡ map change_record h.unit.log) (told : List PlaceVerdict) (shown : AreShown told) (said : AreRowsOf (telling_of h rows e) m.nodes told m.rows) where
  home_said : (w : PlaceVerdict) → Among w told → (v : Verdict) → IsVerdictOf (telling_of h rows e) m.nodes w.place.0 w.verdict v → v ≡ verdict.Home
  home_said w among v is = subst (λ (z : told-verdict.Verdict). IsVerdictOf (telling_of h rows e) m.nodes w.place.0 z v) (shown w among) is

  all_home : (all : List PlaceVerdict) → ((w : PlaceVerdict) → Among w all → Among w told) → (rs : List VisibleRow) → AreRowsOf (telling_of h rows e) m.nodes all rs → AllByRecursion (λ (r : VisibleRow). r.verdict ≡ verdict.Home) rs
  all_home [] within [] of = tt
  all_home [] within (r ∷ rs) of = absurd of
  all_home (w ∷ more) within [] of = absurd of
  all_home (w ∷ more) within (r ∷ rs) of = (home_said w (within w front) r.verdict of.0.verdict, all_home more (λ x a. within x (behind a)) rs of.1)

  -- They show every variable.
  pub shows_all : ShowsAll m
  shows_all = record { shown = all_home told (λ w among. among) m.rows said; unchanged = changes ∙ ap (map change_record) plain.unchanged }

-- ---- When it was written and read back

home_by : (v : Verdict) → verdict_numbers v ≡ verdict_numbers verdict.Home → v ≡ verdict.Home
home_by verdict.Home e = refl
home_by (verdict.Recovered change node) e = cc
home_by (verdict.Noncurrent change start writer) e = cc
home_by (verdict.Nonresident change start writer) e = cc

numbers_behind : {a b c d : ℕ} {xs ys : List ℕ} → a ∷ b ∷ xs ≡ c ∷ d ∷ ys → xs ≡ ys
numbers_behind e = cc

first_same : {xs ys : List ℕ} {more others : List (List ℕ)} → xs ∷ more ≡ ys ∷ others → xs ≡ ys
first_same e = cc

rest_same : {xs ys : List ℕ} {more others : List (List ℕ)} → xs ∷ more ≡ ys ∷ others → more ≡ others
rest_same e = cc

home_again : (level : Level) (xs ys : List VisibleRow) → map (row_numbers level) xs ≡ map (row_numbers level) ys → AllByRecursion (λ (r : VisibleRow). r.verdict ≡ verdict.Home) ys → AllByRecursion (λ (r : VisibleRow). r.verdict ≡ verdict.Home) xs
home_again level [] ys e all = tt
home_again level (x ∷ xs) [] e all = cc
home_again level (x ∷ xs) (y ∷ ys) e all = (home_by x.verdict (numbers_behind (plain_same level x y (first_same e)) ∙ ap verdict_numbers all.0), home_again level xs ys (rest_same e) all.1)

-- What shows every variable does so when it was written and read back.
pub shows_again : (tables image : Form) → SaysTheSame tables image → ShowsAll tables → ShowsAll image
shows_again tables image same shows = record { shown = home_again tables.version.level image.rows tables.rows same.rows shows.shown; unchanged = same.changes ∙ shows.unchanged }
