-- The tables of a unit with homes that is kept of its program are an image, where verdicts that are borne out make its rows and where an image can tell of its changes.
use Rattle.std.proofs.Common.{◌≡◌, ℕ, suc, ◌+◌, ◌^◌, ◌<◌, ◌≤◌, Some, List, length, map, slice_get, ap, ◌∙◌, subst, arith}
use Rattle.std.specs.Prelude.{option_and_then, option_map}
use Rattle.std.proofs.lemmas.List.{length-map}
use Rattle.places.specs.declared.table.PlaceRow.{PlaceRow}
use Rattle.c_tree.specs.Programs.{ProgramTree}
use Rattle.c_type_laws.specs.Laws.{IsWellFormed}
use Rattle.c_type_laws.specs.Names.{HasNames}
use Rattle.c_type_laws.specs.Spots.{HasSpots}
use Rattle.c_flow.specs.Rows.{rows_of_program}
use Rattle.c_flow.specs.Tables.{Fits32}
use Rattle.graph_core.specs.Graphs.{Graph}
use Rattle.graph_core.specs.Paths.{Among}
use Rattle.graph_core.specs.Validity.{IsValid, total}
use Rattle.graph_homes.specs.declared.home.Home.{Home}
use Rattle.graph_homes.specs.Homed.{HaveHomes, HomedForm}
use Rattle.memory_map.specs.Maps.{most_words}
use Rattle.rv_emit_tables.specs.Emitted.{EmittedForm, FunctionCode}
use Rattle.rv_emit_layout.specs.Laid.{IsEmittedOf}
use Rattle.rv_emit_runs.specs.Told.{AreCountable}
use Rattle.rv_emit.specs.Emits.{Emits}
use Rattle.currency.specs.declared.verdict.PlaceVerdict.{PlaceVerdict}
use Rattle.currency.specs.Visible.{sight, sights_from}
use Rattle.image_form.specs.Form.{Form}
use Rattle.image_form.specs.Rules.{IsImage}
use Rattle.image_form.specs.RulesOfNodes.{NodeRules}
use Rattle.image_form.specs.RulesOfRows.{RowRules}
use Rattle.image_form_drafts.specs.Fitting.{AreFit}
use Rattle.image_form_sections.specs.Versions.{has_quiet}
use Rattle.image_form_sections.specs.declared.version.Version.{Version}
use Rattle.image_build_tables.specs.Nodes.{AreEarlier, AreOnce, Naming}
use Rattle.image_build_tables.specs.Rows.{AreNodesOf, AreRowsOf, AreShallow, Telling, naming_at, naming_in, size_told, telling_of}
use Rattle.image_build_tables.specs.Tables as image
use Rattle.image_build_tables.specs.Tables.{assigned_pair, flow_pair}
use Rattle.image_build_tables.proofs.NodeRules.{few_told, node_rules}
use Rattle.image_truth_units.specs.Changes.{CanAllBeTold}
use Rattle.image_truth_units.specs.Tables.{AreTablesOf, visible_from}
use Rattle.image_truth_units.proofs.Assigned.{assigned_rules}
use Rattle.image_truth_units.proofs.Counted.{assigned_few, steps_few}
use Rattle.image_truth_units.proofs.Fits.{AreFew, rows_most}
use Rattle.image_truth_units.proofs.Given.{Given}
use Rattle.image_truth_units.proofs.ImageRulesKept.{tables_keep}
use Rattle.image_truth_units.proofs.Lying.{lie_in_order}
use Rattle.image_truth_units.proofs.NodeHomes.{homes_in_tables}
use Rattle.image_build.specs.Kept.{IsKeptOf}
use Rattle.image_build.specs.Made.{AreBorneOut}
use Rattle.image_build.specs.Tables.{HasShapeOf}
use Rattle.image_build.proofs.HidingRows.{verdict_rules}
use Rattle.image_build.proofs.ImageEvidenceRows.{rows_evident}
use Rattle.image_build.proofs.KeptUnits.{kept_all_variables, kept_places, kept_steps, kept_variables}
use Rattle.image_build.proofs.PassesTruthWords.{homes_there}
use Rattle.image_build.proofs.Plain.{visible_of}
use Rattle.image_build.proofs.QuietRows.{quiet_rules, rows_quiet}
use Rattle.image_build.proofs.Premises.{kept_in_order}
use Rattle.image_build.proofs.Rows.{mapped, seen_from}
use Rattle.image_build.proofs.Rules.{IsOwnSight, own_sight, row_rules}
use Rattle.image_build.proofs.ShallowRecipes.{shallow_recipes}
use Rattle.image_build.proofs.Tables.{rows_few}
use Rattle.base_laws.proofs.Lists.{there_is}

-- by what the recipes of a function are told
abbrev naming_from : EmittedForm → Graph → List Home → FunctionCode → Naming
naming_from e g homes c = record { graph = g; homes = homes; slots = c.slots; statics = e.statics }

naming_is : (h : HomedForm) (e : EmittedForm) (places : List PlaceRow) (f : ℕ) (g : Graph) (homes : List Home) (code : FunctionCode) → slice_get h.unit.graphs f ≡ Some g → slice_get h.homes f ≡ Some homes → slice_get e.functions f ≡ Some code → naming_in (telling_of h places e) f ≡ Some (naming_from e g homes code)
naming_is h e places f g homes code graph_is homes_are code_is =
    ap (option_and_then (λ (x : Graph). option_and_then (λ (y : List Home). option_map (naming_from e x y) (slice_get e.functions f)) (slice_get h.homes f))) graph_is
    ∙ ap (option_and_then (λ (y : List Home). option_map (naming_from e g y) (slice_get e.functions f))) homes_are
    ∙ ap (option_map (naming_from e g homes)) code_is

-- by what the recipes at a place are told, where the place has a row
naming_there : (t : Telling) (place index f : ℕ) (row : PlaceRow) (n : Naming) → place ≡ suc index → slice_get t.places index ≡ Some row → row.function ≡ f → naming_in t f ≡ Some n → naming_at t place ≡ Some n
naming_there t place index f row n number is of named =
    let at : naming_at t place ≡ naming_at t (suc index) = ap (naming_at t) number in
    let by : naming_at t (suc index) ≡ naming_in t row.function = ap (option_and_then (λ (r : PlaceRow). naming_in t r.function)) is in
    at ∙ by ∙ ap (naming_in t) of ∙ named

-- A program; a unit with homes that is kept of it; its code; the table of the program's places; tables that are made of these; and verdicts that are borne out.
module _ (p : ProgramTree) (h : HomedForm) (e : EmittedForm) (rows : List PlaceRow) (m : Form) (told : List PlaceVerdict) (formed : IsWellFormed p) (names : HasNames p) (spots : HasSpots p) (fits : Fits32 p) (valid : IsValid h.unit) (homes : HaveHomes h) (shape : HasShapeOf p h.unit) (kept : IsKeptOf p h.unit) (can : CanAllBeTold p h.unit.log)
    (emits : Emits h e) (coded : IsEmittedOf h e) (countable : AreCountable h) (short : length e.code ≤ most_words e.map) (tables : AreTablesOf p h e rows m) (fit : AreFit m) (seen : map sight told ≡ sights_from 1 rows) (borne : AreBorneOut h told) (sights : map image.pair_of_row m.rows ≡ map image.sight_of_verdict told)
    (said : length m.nodes < 2 ^ 32 → AreRowsOf (telling_of h rows e) m.nodes told m.rows) (needed : length m.nodes < 2 ^ 32 → AreNodesOf (telling_of h rows e) m.nodes told) (alone : length m.nodes < 2 ^ 32 → AreOnce m.nodes) (ahead : length m.nodes < 2 ^ 32 → AreEarlier m.nodes) (parts : length m.nodes ≤ total (λ (w : PlaceVerdict). size_told w.verdict) told) where
  few : length rows + 1 < 4294967296
  few = let least = rows_few p rows fits tables.rows_are in omega (arith, least)

  visible : map image.pair_of_row m.rows ≡ visible_from 1 (rows_of_program p)
  visible = visible_of p rows told m fits tables.rows_are seen sights

  given : Given p h e rows m
  given = record { tables = tables; formed = formed; names = names; valid = valid; homed = homes; emits = emits; lie = lie_in_order h valid e coded short; entries = shape.entries }

  -- ---- How many

  shallow : AreShallow told
  shallow = shallow_recipes p formed h valid (kept_places p h.unit kept formed) (kept_variables p h.unit kept formed) rows tables.rows_are few told seen borne

  many_nodes : length m.nodes ≤ 15000000
  many_nodes =
      let most = few_told told shallow in
      let lines = rows_most p h e rows m given visible in
      let one = length-map m.rows image.pair_of_row in
      let other = length-map told image.sight_of_verdict in
      let same = ap (λ (l : List image.VisiblePair). length l) sights in
      omega (arith, parts, most, lines, one, other, same)

  -- Nodes are few.
  pub nodes_few : length m.nodes < 2 ^ 32
  nodes_few = let most = many_nodes in omega (arith, most)

  counted : AreFew m
  counted = record {
    flow = (
        let many = ap length tables.flow ∙ length-map h.unit.steps flow_pair in
        let least = steps_few p formed h.unit.steps shape.steps (kept_steps p h.unit kept) in
        omega (arith, many, least));
    assigned = (
        let many = ap length tables.assigned ∙ length-map h.unit.assignments assigned_pair in
        let least = assigned_few p formed h.unit.assignments shape.assignments (kept_in_order p h.unit kept) in
        omega (arith, many, least));
    nodes = (let most = many_nodes in omega (arith, most));
  }

  -- ---- Rows

  -- the place of a verdict has a function, in whose names recipes are told
  named_there : (w : PlaceVerdict) → Among w told → (n : Naming) × (naming_at (telling_of h rows e) w.place.0 ≡ Some n)
  named_there w among =
      let own : IsOwnSight p formed rows tables.rows_are w.place.0 w.var.0 = own_sight p formed rows tables.rows_are (sight w) (seen_from 1 rows (sight w) (omega (arith, few)) (subst (λ l. Among (sight w) l) seen (mapped sight told w among))) in
      let f = own.place.function in
      let low = own.low in
      let many = shape.functions in
      let g = there_is h.unit.graphs f (omega (arith, low, many)) in
      let its = homes_there h.unit.graphs h.homes f g.0 homes g.1 in
      let code = emits.told.functions f g.0 g.1 in (
        naming_from e g.0 its.0 code.code,
        naming_there (telling_of h rows e) w.place.0 own.index f own.row (naming_from e g.0 its.0 code.code) own.number_is own.row_is own.function_is (naming_is h e rows f g.0 its.0 code.code g.1 its.1 code.is),
      )

  rows_keep : RowRules m
  rows_keep =
      row_rules p formed rows tables.rows_are m tables.places tables.belonging few told seen (telling_of h rows e) (said nodes_few)
      (verdict_rules h emits.code.arrangement e m tables.code tables.changes tables.assigned (assigned_rules p h e rows m given shape.assignments (kept_in_order p h.unit kept)) borne.flow borne.assignments (telling_of h rows e) told m.rows (said nodes_few) borne.named named_there
      (rows_evident h valid e emits countable borne.flow m.nodes rows told m.rows borne.named borne.evident (said nodes_few)))
      (quiet_rules h emits.code.arrangement e m tables.changes tables.assigned borne.flow borne.assignments (telling_of h rows e) m.nodes told m.rows (said nodes_few) (rows_quiet h valid e emits borne.flow m.nodes rows told m.rows borne.evident (said nodes_few)))
      (ap (λ (v : Version). has_quiet v.level) tables.version)

  -- ---- Nodes

  nodes_keep : NodeRules m
  nodes_keep =
      node_rules m (telling_of h rows e) told (needed nodes_few) (alone nodes_few) (ahead nodes_few) shallow
      (λ place n is. homes_in_tables p h e rows m given (kept_variables p h.unit kept formed) (kept_all_variables p h.unit kept formed) rows place n is)

  -- THEY ARE AN IMAGE.
  pub is_image : IsImage m
  is_image =
      tables_keep p h e rows m given spots (kept_places p h.unit kept formed) (kept_variables p h.unit kept formed) (kept_all_variables p h.unit kept formed) shape.steps (kept_steps p h.unit kept) shape.assignments (kept_in_order p h.unit kept)
      can fit visible counted rows_keep nodes_keep
