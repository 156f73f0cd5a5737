-- THE IMAGE OF A PROGRAM RUNS TRUE TO IT behind passes that keep what its unit does, in both modes.
use Rattle.std.proofs.Common.{◌≡◌, ℕ, ◌+◌, ◌-◌, sym, ap, ◌∙◌, subst, arith, false, Some, List, map, slice_get}
use Rattle.std.proofs.lemmas.Option.{same_Some}
use Rattle.debug_records.specs.declared.mode.Mode.{Mode}
use Rattle.c_tree.specs.Programs.{ProgramTree, AutomaticTree}
use Rattle.c_places.specs.Places.{places_of_program, visible}
use Rattle.c_flow.specs.Rows.{Row, flow_row, row_view, rows_of_program}
use Rattle.c_type_laws.specs.Laws.{IsWellFormed}
use Rattle.c_type_laws.specs.Names.{HasNames}
use Rattle.c_meaning_values.specs.Memory as source-memory
use Rattle.c_meaning_steps.specs.declared.event.Frame as source-frame
use Rattle.c_meaning_steps.specs.States.{Shown}
use Rattle.image_form.specs.Form.{Form}
use Rattle.image_form.specs.Rules.{IsImage}
use Rattle.image_build_tables.specs.Tables.{pair_of_row}
use Rattle.image_build_tables.specs.Rows.{telling_of}
use Rattle.rv_machine.specs.State.{MachineState}
use Rattle.rv_machine.specs.Run.{is_stop}
use Rattle.stop_engine_view.specs.Run as image
use Rattle.graph_core.specs.Graphs.{Graph, UnitForm}
use Rattle.graph_build.specs.Units.{IsUnitOf}
use Rattle.graph_homes.specs.Homed.{HomedForm}
use Rattle.home_assign.proofs.Whole.{leads_over_homes}
use Rattle.rv_emit_runs.specs.Laid as laid
use Rattle.graph_homes.specs.Owned.{IsPlaceOf}
use Rattle.graph_homes.proofs.Homes.{of_function}
use Rattle.image_truth_units.specs.Units.{HasVariablesIn}
use Rattle.image_truth_units.specs.Variables.{automatic_number}
use Rattle.image_truth_units.specs.Keeping.{HasPlacesOf}
use Rattle.image_truth_units.proofs.ImageUnitsWhole as units
use Rattle.rv_emit_runs.specs.Timed.{AreTimed}
use Rattle.image_truth_units.proofs.UnitFactsPlaces as first-places
use Rattle.image_truth_units.proofs.UnitFactsScalars.{HasScalar, has_scalars}
use Rattle.image_build.specs.Made.{IsHomed, IsMadeOfCode}
use Rattle.image_build.specs.Tables.{HasTablesOf}
use Rattle.image_build.specs.Truthful.{RunsTrue}
use Rattle.image_build.proofs.Programs.{source_events}
use Rattle.image_build.specs.Meeting.{MeetAt}
use Rattle.image_build.proofs.Listed.{seen_from}
use Rattle.image_build.proofs.Told.{home_holds}
use Rattle.image_build.proofs.Naming.{static_law, automatic_law, literal_law}
use Rattle.image_build.proofs.Outermost.{outermost}
use Rattle.image_build.proofs.Stopping as stopping
use Rattle.image_build.proofs.Stopping.{same_function}
use Rattle.image_build.proofs.ImageTruthTables.{functions_of, seen_same, variables_follow}
use Rattle.image_build.proofs.Visible as visibles
use Rattle.image_build.proofs.Visible.{AreScalars, IsScalarIn}
use Rattle.event_runs.specs.Agreement.{Pairs}
use Rattle.event_runs.specs.Following.{Reached, Both}
use Rattle.graph_core.specs.Runs.{unit_run}
use Rattle.graph_build_runs.specs.Correspondence as built
use Rattle.graph_build_runs.specs.Correspondence.{AreBytes}
use Rattle.image_build.specs.Truthful.{events_of}
use Rattle.pass_law.specs.Keeps as passed
use Rattle.pass_law.specs.Keeps.{SameFunction}
use Rattle.image_build.specs.Kept.{IsKeptOf}
use Rattle.graph_build_laws.proofs.Ascending.{numbered_in}
use Rattle.graph_build_laws.proofs.Accepted.{facts_of}
use Rattle.graph_build_laws.proofs.Markers.{graph_markers}
use Rattle.image_truth_units.proofs.Tables.{from_map, map_at}
use Rattle.image_truth_units.proofs.PlacesOf.{place_of}
use Rattle.image_build.specs.Recovered.{AreOfScalars, ComeToRecipes}
use Rattle.currency.specs.Evident.{IsEvident}
use Rattle.image_build.proofs.Carried.{are_scalars, graph_back, has_places, has_variables}
use Rattle.image_build.proofs.Coming.{HasRow, come}
use Rattle.image_build.proofs.Markers.{place_back}
use Rattle.image_build.proofs.Logs.{unit_same}
use Rattle.image_build.proofs.Reaching.{reached_both}
use Rattle.image_build.proofs.Recovered as recovered
use Rattle.image_build.proofs.RecoveredRows.{gives_recipe}
use Rattle.image_build.proofs.StopAddresses as stop-addresses
use Rattle.image_build.proofs.Timed.{timed}
use Rattle.image_build.proofs.Whole as whole
use Rattle.image_form_sections.specs.declared.version.Version.{Version}

-- A variable that is visible at a place of a graph of the program's unit, and is not kept in memory, is one of its scalars.
scalars_of : (p : ProgramTree) → IsWellFormed p → (u : UnitForm) → IsUnitOf p u → AreScalars p u
scalars_of p formed u is f i k x g q v at place of seen declared outside = by (has_scalars p formed u is f i k x g q v at place of seen declared outside)
  where
    by : HasScalar g (automatic_number p x) v.of → IsScalarIn g (automatic_number p x) v.of
    by s = record { index = s.index; scalar = s.scalar; is = s.is; variable_is = s.variable_is; scalar_type = s.scalar_type; of_is = s.of_is }

module _ (mode : Mode) (p : ProgramTree) (h : HomedForm) (m : Form) (formed : IsWellFormed p) (homed : IsHomed mode h) (made : IsMadeOfCode p h m) (tables : HasTablesOf p m) (rules : IsImage m) (kept : IsKeptOf p h.unit)
    -- its variables have names, its arrays elements, and its literals bytes
    (names : HasNames p) where
  abbrev first : UnitForm
  first = kept.first

  functions : Pairs SameFunction first.graphs h.unit.graphs
  functions = subst (λ (u : UnitForm). Pairs SameFunction first.graphs u.graphs) (sym kept.same) kept.keeps.program.functions

  statics : h.unit.statics ≡ first.statics
  statics = ap (λ (u : UnitForm). u.statics) kept.same ∙ kept.keeps.program.statics

  -- the unit shows what the program does, by way of what the first unit shows
  does : (input : List ℕ) → AreBytes input → (turns : ℕ) → Reached (Both (built.SameEvent p first) passed.SameEvent) (events_of p input turns) (unit_run h.unit input)
  does input bytes turns = reached_both (built.SameEvent p first) passed.SameEvent (events_of p input turns) (unit_run first input) (unit_run h.unit input) (kept.built.does input bytes turns) down
    where
      down : (n : ℕ) → Reached passed.SameEvent (unit_run first input n) (unit_run h.unit input)
      down n =
          let r = kept.keeps.follows input n in
          record { steps = r.steps; shown = r.shown; more = r.more; is = ap (λ (u : UnitForm). unit_run u input r.steps) kept.same ∙ unit_same kept.last h.unit.log input r.steps ∙ r.is; same = r.same }

  unit : HasVariablesIn p h.unit
  unit = has_variables first h.unit statics functions p (units.has_variables p first kept.built.forms (variables_follow p formed))

  in_time : AreTimed h.unit
  in_time = timed kept.last h.unit kept.keeps.still_marked (ap (λ (u : UnitForm). u.graphs) kept.same) homed.valid

  has : HasPlacesOf h.unit m
  has = has_places first h.unit statics functions m (first-places.has_places p formed first kept.built.forms m (functions_of p m tables.places))

  stops_are : (address : ℕ) → is_stop (image.stop_addresses m) address ≡ is_stop (laid.stop_addresses made.emitted) address
  stops_are = stop-addresses.stops_are p formed m first h.unit kept.built.forms functions made.emitted.functions made.emitted.stops made.emits.stops made.parts.places made.parts.places_are made.parts.addresses tables.entries

  scalars : AreScalars p h.unit
  scalars = are_scalars first h.unit statics functions p (scalars_of p formed first kept.built.forms)

  rows_seen : map pair_of_row m.rows ≡ seen_from 1 (map (λ (r : Row). r.visible) (rows_of_program p))
  rows_seen = tables.visible ∙ seen_same 1 (rows_of_program p)

  -- the row of a place is that of its graph's function
  row_there : (f n : ℕ) (g : Graph) → slice_get h.unit.graphs f ≡ Some g → IsPlaceOf g n → HasRow made.parts.places f n
  row_there f n g at of =
      let back = graph_back first.graphs h.unit.graphs functions f g at in
      let ascend = (facts_of p formed).ascend in
      let place = place_of p first kept.built.forms (numbered_in (places_of_program p) ascend) (λ k t there is_main. graph_markers p k t there is_main ascend) f n back.0 back.1 (place_back back.0 g back.2 n of) in
      let row = from_map row_view made.parts.places place.0 (flow_row p place.1) (ap (λ l. slice_get l place.0) made.parts.places_are ∙ map_at (flow_row p) (places_of_program p) place.0 place.1 place.3) in
      let number = place.2 in
      record { index = place.0; row = row.0; number_is = omega (arith, number); is = row.1; function_is = ap (λ (z : Row). z.function) row.2 ∙ place.4 }

  -- where a verdict gives a recipe for a variable, that is a scalar
  of_scalars : AreOfScalars h made.parts.rows.told
  of_scalars w r change among is = subst (IsEvident h.unit.log made.parts.rows.borne_out.flow h w.var.0 w.place.0) is (made.parts.rows.borne_out.evident w among)

  -- the nodes of recipes come to the words of their values over homes
  nodes_come : ComeToRecipes h made.emitted made.emits.code.arrangement m (telling_of h made.parts.places made.emitted)
  nodes_come = come p m tables.functions tables.variables tables.owners tables.names.0 tables.names.1 rules h homed.valid homed.homes made.emits.code.arrangement made.emitted made.parts.storages unit made.emits.told made.parts.places row_there

  scalar_there : (place deep : ℕ) (activations : List source-frame.Frame) (shown : List Shown) (memory : source-memory.Memory) (s : MachineState) (t : MeetAt p h made.emitted made.emits.code.arrangement place deep activations shown memory s)
      → t.lower.here.place ≡ place → (k x : ℕ) (v : AutomaticTree) → slice_get (visible p.automatics t.stop.at.scope) k ≡ Some x → slice_get p.automatics x ≡ Some v → v.in_memory ≡ false → IsScalarIn t.upper.here.graph (automatic_number p x) v.of
  scalar_there place deep activations shown memory s t here k x v is declared outside =
      let of = of_function h t.lower.here t.running.here in
      let function = ap (λ f. slice_get h.unit.graphs f) (sym (same_function h t.upper.here t.lower.here t.same.here.0)) in
      let graph : of.graph ≡ t.upper.here.graph = same_Some of.graph t.upper.here.graph (sym of.is ∙ sym function ∙ t.same.here.0.of) in
      let some = t.stop.some in
      let number : t.lower.here.place ≡ place - 1 + 1 = omega (arith, here, some) in
      scalars t.upper.here.function (place - 1) k x t.upper.here.graph t.stop.at v t.same.here.0.of t.stop.is (subst (λ n. IsPlaceOf t.upper.here.graph n) number (subst (λ (g : Graph). IsPlaceOf g t.lower.here.place) graph of.place)) is declared outside

  -- The image runs true to the program.
  pub runs_true : RunsTrue p m
  runs_true =
      whole.runs_true p first h m made.emitted made.emits.code.arrangement functions statics does (leads_over_homes h homed.valid homed.homes homed.apart) (made.emits.in_time in_time) (ap (λ (v : Version). v.map) made.parts.version) made.parts.code made.parts.initial stops_are (source_events p formed)
      (λ place deep activations shown memory s t.
      stopping.stopped p m tables.functions tables.variables tables.owners tables.names.0 tables.names.1 rules (static_law p formed names) (automatic_law p formed names) (literal_law p formed names) h homed.valid homed.homes made.emitted made.emits.code made.parts.storages made.parts.spans made.parts.owners (outermost h made.emitted made.emits.code) unit has made.emits.told stops_are place deep activations shown memory s t
      (visibles.visible_are p m tables.functions tables.variables tables.owners tables.names.0 tables.names.1 rules (static_law p formed names) (automatic_law p formed names) (literal_law p formed names) h homed.valid homed.homes made.emitted made.emits.code made.parts.storages made.parts.spans made.parts.owners (outermost h made.emitted made.emits.code) unit has made.emits.told stops_are place deep activations shown memory s t rows_seen
      (home_holds h (telling_of h made.parts.places made.emitted) m made.parts.rows.told made.parts.rows.rows made.parts.rows.say made.parts.rows.same made.parts.rows.borne_out.home)
      (scalar_there place deep activations shown memory s t (stopping.here_place p m tables.functions tables.variables tables.owners tables.names.0 tables.names.1 rules (static_law p formed names) (automatic_law p formed names) (literal_law p formed names) h homed.valid homed.homes made.emitted made.emits.code made.parts.storages made.parts.spans made.parts.owners (outermost h made.emitted made.emits.code) unit has made.emits.told stops_are place deep activations shown memory s t))
      (recovered.recovered_shown p m tables.functions tables.variables tables.owners tables.names.0 tables.names.1 rules (static_law p formed names) (automatic_law p formed names) (literal_law p formed names) h homed.valid homed.homes made.emitted made.emits.code made.parts.storages made.parts.spans made.parts.owners (outermost h made.emitted made.emits.code) unit has made.emits.told stops_are place deep activations shown memory s t
      (scalar_there place deep activations shown memory s t (stopping.here_place p m tables.functions tables.variables tables.owners tables.names.0 tables.names.1 rules (static_law p formed names) (automatic_law p formed names) (literal_law p formed names) h homed.valid homed.homes made.emitted made.emits.code made.parts.storages made.parts.spans made.parts.owners (outermost h made.emitted made.emits.code) unit has made.emits.told stops_are place deep activations shown memory s t))
      (telling_of h made.parts.places made.emitted) made.parts.rows.told (gives_recipe (telling_of h made.parts.places made.emitted) m made.parts.rows.told made.parts.rows.rows made.parts.rows.say made.parts.rows.same) made.parts.rows.borne_out.recovered of_scalars nodes_come)))
