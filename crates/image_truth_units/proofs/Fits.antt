-- The numbers of tables fit, and their sections are no longer than they may be.
use Rattle.std.proofs.Common.{◌≡◌, ℕ, ◌+◌, ◌*◌, ◌%◌, ◌≤◌, ◌<◌, ◌^◌, true, false, Option, Some, None, List, [], ◌∷◌, ◌++◌, length, map, slice_get, refl, sym, ap, subst, arith}
use Rattle.std.specs.Prelude.{nat_lt}
use Rattle.std.specs.List.{AllByRecursion, flat_map}
use Rattle.std.proofs.lemmas.List.{length-append, length-map}
use Rattle.std.proofs.lemmas.List.Sums.{sum_by-cons}
use Rattle.std.proofs.lemmas.Option.{slice_get_within}
use Rattle.places.specs.declared.table.PlaceRow.{PlaceRow}
use Rattle.c_tree.specs.Programs.{AutomaticTree, LiteralTree, ProgramTree, StaticTree, TypedFunctionTree}
use Rattle.c_places.specs.Places.{Place, entry_of, places_of_program, visible}
use Rattle.c_flow.specs.Assigns.{variable_number}
use Rattle.c_tree.specs.declared.object_type.Object.TheVariants as object
use Rattle.c_flow.specs.Rows.{numbers_of, flow_row, rows_of_program, variable_if}
use Rattle.c_type_bounds.specs.Visible.{visible_at}
use Rattle.c_type_laws.specs.Laws.{is_main}
use Rattle.c_type_laws.specs.Orders.{ascends, ascends_behind}
use Rattle.c_type_laws.specs.Spots.{HasSpots, are_below}
use Rattle.graph_core.specs.Graphs.{StaticObject, UnitForm}
use Rattle.graph_core.specs.Memory.{static_bytes}
use Rattle.graph_core.specs.Validity.{taken_by}
use Rattle.graph_homes.specs.Homed.{HomedForm}
use Rattle.rv_emit_storage.specs.StaticAddresses.{bytes_by_element, initial_bytes, object_bytes, padded}
use Rattle.rv_emit_tables.specs.Emitted.{EmittedForm}
use Rattle.rv_emit_storage.proofs.Padding.{padded_length}
use Rattle.memory_map.specs.Maps.{bytes_size, most_words}
use Rattle.memory_map.proofs.Facts.{code_few}
use Rattle.image_form.specs.Form.{Form}
use Rattle.image_form.specs.Rules.{FitRules, SizeRules}
use Rattle.image_form.specs.Versions.{greatest_level, is_read, version_number}
use Rattle.image_form_sections.specs.declared.version.Version.{Version}
use Rattle.memory_map.specs.declared.map.Map.{Map}
use Rattle.memory_map.specs.declared.map.Map.TheVariants.{One, Two}
use Rattle.rv_emit_storage.specs.UnitMaps.{map_of_unit}
use Rattle.image_form.specs.Order.{sections_end, order}
use Rattle.image_form.specs.Spelling.{record_count, size}
use Rattle.image_form_sections.specs.declared.version.Level.TheVariants.{Quiet}
use Rattle.image_form_drafts.specs.Fitting.{AreFit}
use Rattle.image_build_tables.specs.Variables.{automatic_shape, length_of_name, literal_shape, name_length, shape, static_shape}
use Rattle.image_build_tables.specs.Tables.{VisiblePair, version_of_map, pair_of_row}
use Rattle.image_truth_units.specs.Changes.{most_told}
use Rattle.image_truth_units.specs.Tables.{visible_from}
use Rattle.image_truth_units.proofs.Accepted.{both, facts_of, is_less}
use Rattle.image_truth_units.proofs.Functions.{has_entry, places_many}
use Rattle.image_truth_units.proofs.Given.{Given, memory_is}

-- ---- How many there are

few_behind : (last most : ℕ) (ns : List ℕ) → last < most → ascends_behind last ns ≡ true → are_below most ns ≡ true → last + length ns < most
few_behind last most [] less h below = omega (arith, less)
few_behind last most (n ∷ ns) less h below =
    let up = both (nat_lt last n) (ascends_behind n ns) h in
    let low = both (nat_lt n most) (are_below most ns) below in
    let here = is_less last n up.0 in
    let rest = few_behind n most ns (is_less n most low.0) up.1 low.1 in
    omega (arith, here, rest)

-- Numbers that ascend below another are no more than that.
pub few : (most : ℕ) (ns : List ℕ) → ascends ns ≡ true → are_below most ns ≡ true → length ns ≤ most
few most [] h below = omega arith
few most (n ∷ ns) h below =
    let low = both (nat_lt n most) (are_below most ns) below in
    let rest = few_behind n most ns (is_less n most low.0) h low.1 in
    omega (arith, rest)

-- ---- Initial bytes

objects_whole : (u : UnitForm) (all : List StaticObject) → length (flat_map (object_bytes u) all) % 4 ≡ 0
objects_whole u [] = refl
objects_whole u (o ∷ all) =
    let rest = objects_whole u all in
    let own = padded_length (taken_by (static_bytes o)) (bytes_by_element u o o.element) in
    let sum = length-append (object_bytes u o) (flat_map (object_bytes u) all) in
    omega (arith, rest, own, sum)

arrays_whole : (all : List (List ℕ)) → length (flat_map (λ (b : List ℕ). padded (taken_by (length b)) b) all) % 4 ≡ 0
arrays_whole [] = refl
arrays_whole (b ∷ all) =
    let rest = arrays_whole all in
    let own = padded_length (taken_by (length b)) b in
    let sum = length-append (padded (taken_by (length b)) b) (flat_map (λ (b : List ℕ). padded (taken_by (length b)) b) all) in
    omega (arith, rest, own, sum)

bytes_whole : (u : UnitForm) → length (initial_bytes u) % 4 ≡ 0
bytes_whole u =
    let one = objects_whole u u.statics in
    let two = arrays_whole u.array_bytes in
    let sum = length-append (flat_map (object_bytes u) u.statics) (flat_map (λ (b : List ℕ). padded (taken_by (length b)) b) u.array_bytes) in
    omega (arith, one, two, sum)

-- ---- Visible variables

numbered_few : (p : ProgramTree) (xs : List ℕ) → length (numbers_of p xs) ≤ length xs
numbered_few p [] = omega arith
numbered_few p (x ∷ xs) =
    let rest = numbered_few p xs in
    let one = at_most_one (variable_number p (object.Automatic x)) in
    let sum = length-append (variable_if (variable_number p (object.Automatic x))) (numbers_of p xs) in
    omega (arith, rest, one, sum)
  where
    at_most_one : (o : Option ℕ) → length (variable_if o) ≤ 1
    at_most_one None = omega arith
    at_most_one (Some y) = omega arith

seen_few : (p : ProgramTree) (n : ℕ) (places : List Place) → length (visible_from n (map (flow_row p) places)) ≤ visible_at p.automatics places
seen_few p n [] = omega arith
seen_few p n (q ∷ places) =
    let rest = seen_few p (n + 1) places in
    let own = numbered_few p (visible p.automatics q.scope) in
    let at : ℕ → VisiblePair = λ x. record { place = n; variable = x } in
    let seen : List VisiblePair = map at (flow_row p q).visible in
    let many : length seen ≡ length (flow_row p q).visible = length-map (flow_row p q).visible at in
    let sum = length-append seen (visible_from (n + 1) (map (flow_row p) places)) in
    let all = sum_by-cons (λ (place : Place). length (visible p.automatics place.scope)) q places in
    omega (arith, rest, own, many, sum, all)

-- ---- The version

-- The version of each map is read, so that of the image of a unit is.
map_read : (r : Map) → is_read (version_number (version_of_map r)) ≡ true
unfolding is_read greatest_level
map_read One = refl
map_read Two = refl

unit_read : (u : UnitForm) → is_read (version_number (version_of_map (map_of_unit u))) ≡ true
unit_read u = map_read (map_of_unit u)

-- ---- All of it

-- The sections whose lengths are not told by what is above have no more records than this.
pub record AreFew (m : Form) : Type 0 where
  pub flow : length m.flow ≤ 16777216
  pub assigned : length m.assigned ≤ 16777216
  pub nodes : length m.nodes ≤ 16777216

module _ (p : ProgramTree) (h : HomedForm) (e : EmittedForm) (rows : List PlaceRow) (m : Form) (given : Given p h e rows m) where
  -- THE NUMBERS KEEP THEIR RULES.
  pub fit_rules : AreFit m → FitRules m
  fit_rules fits = record {
    code = fits.code;
    initial = subst (AllByRecursion (λ b. b < 256)) (sym given.tables.initial) given.emits.code.bytes;
    functions = fits.functions;
    places = fits.places;
    owners = fits.owners;
    variables = fits.variables;
    changes = fits.changes;
    flow = fits.flow;
    assigned = fits.assigned;
    rows = fits.rows;
    calls = fits.calls;
    members = fits.members;
    nodes = fits.nodes;
  }

  main_there : (o : Option TypedFunctionTree) → slice_get p.functions p.main ≡ o → is_main o ≡ true → (tree : TypedFunctionTree) × (slice_get p.functions p.main ≡ Some tree)
  main_there None is h = absurd (no_main h)
    where
      no_main : false ≡ true → ⊥
      no_main e = cc
  main_there (Some tree) is h = (tree, is)

  pub variables_many : length m.variables ≡ length p.statics + length p.literals + length p.automatics
  variables_many =
      let many = length-map m.variables shape in
      let same = ap length given.tables.variables in
      let a = length-append (map static_shape p.statics) (map literal_shape p.literals ++ map automatic_shape p.automatics) in
      let b = length-append (map literal_shape p.literals) (map automatic_shape p.automatics) in
      let c = length-map p.statics static_shape in
      let d = length-map p.literals literal_shape in
      let f = length-map p.automatics automatic_shape in
      omega (arith, many, same, a, b, c, d, f)

  -- The rows are not too many.
  pub rows_most : map pair_of_row m.rows ≡ visible_from 1 (rows_of_program p) → length m.rows ≤ 1000000
  rows_most seen =
      let r1 = length-map m.rows pair_of_row in
      let r2 = ap length seen in
      let r3 = seen_few p 1 (places_of_program p) in
      let r4 = (facts_of p given.formed).visible in
      omega (arith, r1, r2, r3, r4)

  -- THE LENGTHS OF SECTIONS KEEP THEIR RULES.
  pub size_rules : HasSpots p → AreFew m → length m.changes ≤ most_told → length m.names ≤ 63 * length m.functions + 63 * length m.variables + 16 * length m.changes → map pair_of_row m.rows ≡ visible_from 1 (rows_of_program p) → SizeRules m
  unfolding size
  size_rules spots are_few changes_few names_few seen =
      let facts = facts_of p given.formed in
      let code = ap (λ (l : List ℕ). length l) given.tables.code in
      let given_short = given.emits.code.short in
      let short = code_few e.map (length e.code) given_short in
      let owners = ap (λ (l : List ℕ). length l) given.tables.owners in
      let owned = given.emits.owners in
      let initial = ap (λ (l : List ℕ). length l) given.tables.initial in
      let bytes = given.emits.code.few_bytes in
      let initial_is = ap (λ (l : List ℕ). length l) given.emits.code.initial in
      let whole_words = bytes_whole h.unit in
      let main = main_there (slice_get p.functions p.main) refl facts.main in
      let main_low = slice_get_within p.functions p.main main.0 main.1 in
      let f1 = length-map m.functions name_length in
      let f2 = length-map p.functions length_of_name in
      let f3 = ap length given.tables.functions in
      let functions_few = facts.few in
      let first = has_entry p h e rows m given p.main main.0 main.1 in
      let first_low = slice_get_within (places_of_program p) first.index (entry_of p.main main.0) first.is in
      let places = places_many p h e rows m given in
      let places_few = few 1048576 (map (λ (q : Place). q.spot.at) (places_of_program p)) facts.positions spots.places in
      let pl = length-map (places_of_program p) (λ (q : Place). q.spot.at) in
      let statics_few = few 1048576 (map (λ (v : StaticTree). v.spot.at) p.statics) facts.statics spots.statics in
      let sl = length-map p.statics (λ (v : StaticTree). v.spot.at) in
      let literals_few = few 1048576 (map (λ (l : LiteralTree). l.spot.at) p.literals) facts.literals spots.literals in
      let ll = length-map p.literals (λ (l : LiteralTree). l.spot.at) in
      let automatics_few = few 1048576 (map (λ (a : AutomaticTree). a.spot.at) p.automatics) facts.automatics spots.automatics in
      let al = length-map p.automatics (λ (a : AutomaticTree). a.spot.at) in
      let variables = variables_many in
      let rows_few = rows_most seen in
      let changes_most : length m.changes ≤ 33000000 = changes_few in
      let no_calls = ap length given.tables.calls in
      let no_members = ap length given.tables.members in
      let size_is : size m ≡ sections_end Quiet (record_count m) order = ap (λ (v : Version). sections_end v.level (record_count m) order) given.tables.version in
      let flow_few = are_few.flow in
      let assigned_few = are_few.assigned in
      let nodes_few = are_few.nodes in
      let code_within : length m.code ≤ most_words m.version.map = subst (λ r. length m.code ≤ most_words r) (sym (memory_is p h e rows m given)) (omega (arith, code, given_short)) in
      let initial_few : length m.initial ≤ bytes_size = omega (arith, initial, bytes) in
      let functions_most : length m.functions ≤ 256 = omega (arith, f1, f2, f3, functions_few) in
      let places_most : length m.places ≤ 1048576 = omega (arith, places, places_few, pl) in
      let variables_most : length m.variables ≤ 3145728 = omega (arith, variables, statics_few, sl, literals_few, ll, automatics_few, al) in
      record {
        version = subst (λ (v : Version). is_read (version_number v) ≡ true) (sym given.tables.version) (subst (λ (r : Map). is_read (version_number (version_of_map r)) ≡ true) (sym given.emits.code.map) (unit_read h.unit));
        code = code_within;
        initial = initial_few;
        initial_words = omega (arith, initial, initial_is, whole_words);
        some_function = omega (arith, f1, f2, f3, main_low);
        some_place = omega (arith, places, first_low);
        rows = rows_few;
        whole = subst (λ n. n < 2 ^ 32) (sym size_is) (omega (arith, no_calls, no_members, code, owners, owned, short, initial_few, functions_most, places_most, variables_most, rows_few, changes_most, flow_few, assigned_few, nodes_few, names_few));
      }
