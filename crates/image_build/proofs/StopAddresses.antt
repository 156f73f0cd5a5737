-- An image stops where its code does, also behind passes: at the addresses of the code's stops, which are those of the program's places but entries.
use Rattle.std.proofs.Common.{◌≡◌, ℕ, ◌+◌, ◌<◌, sym, ap, ◌∙◌, subst, arith, true, false, Some, get_or, List, length, map, slice_get}
use Rattle.std.specs.Prelude.{replicate}
use Rattle.std.proofs.lemmas.List.{length-replicate}
use Rattle.std.proofs.lemmas.Option.{same_Some, slice_get_within}
use Rattle.places.specs.declared.table.PlaceRow.{PlaceRow}
use Rattle.c_tree.specs.Programs.{ProgramTree}
use Rattle.c_places.specs.Places.{Place, places_of_program}
use Rattle.c_flow.specs.Rows.{Row, flow_row, row_view, rows_of_program}
use Rattle.c_type_laws.specs.Laws.{IsWellFormed}
use Rattle.graph_core.specs.Graphs.{UnitForm}
use Rattle.graph_core.specs.Paths.{Among}
use Rattle.graph_build.specs.Units.{IsUnitOf}
use Rattle.rv_emit_tables.specs.declared.emitted.PlacedStop.{PlacedStop}
use Rattle.rv_emit_tables.specs.Emitted.{FunctionCode}
use Rattle.rv_emit_runs.specs.EmitPlacedMarkers.{AreStopsOf}
use Rattle.event_runs.specs.Agreement.{Pairs}
use Rattle.rv_emit_runs.proofs.StopPlaces as code
use Rattle.image_form.specs.Form.{Form}
use Rattle.image_build_tables.specs.Variables.{entry}
use Rattle.image_build_tables.specs.Places.{address, addresses_of, stop_addresses}
use Rattle.image_truth_units.proofs.Tables.{map_at, from_map}
use Rattle.image_build.specs.Tables.{entry_of}
use Rattle.rv_machine.specs.Run.{is_stop}
use Rattle.stop_engine_view.specs.Run as image
use Rattle.stop_engine_view.specs.Run.{is_entry}
use Rattle.image_build.proofs.PutStops.{put_there, address_at, row_at, stop_there, stop_from, entry_among, image_among, image_from}
use Rattle.pass_law.specs.Keeps.{SameFunction}
use Rattle.image_build.proofs.Carried.{graph_back, graph_on}
use Rattle.image_build.proofs.ProgramPlaces.{entries_tell, marked_stop, stop_marked}
use Rattle.base_laws.proofs.Booleans.{same_by as same_answers}

-- A unit has graphs of the functions of the program's unit, and its code these stops.
module _ (p : ProgramTree) (formed : IsWellFormed p) (m : Form) (u v : UnitForm) (is : IsUnitOf p u) (functions : Pairs SameFunction u.graphs v.graphs) (codes : List FunctionCode) (stops : List PlacedStop) (are : AreStopsOf v stops) (rows : List PlaceRow) (rows_are : map row_view rows ≡ rows_of_program p)
    (addresses : map address m.places ≡ addresses_of codes stops rows) (entries : map entry m.functions ≡ map (entry_of p) p.functions) where
  -- the row of a place
  row_there : (i : ℕ) (q : Place) → slice_get (places_of_program p) i ≡ Some q → (r : PlaceRow) × (slice_get rows i ≡ Some r) × (r.is_entry ≡ q.is_entry)
  row_there i q there =
      let r = from_map row_view rows i (flow_row p q) (ap (λ l. slice_get l i) rows_are ∙ map_at (flow_row p) (places_of_program p) i q there) in
      (r.0, r.1, ap (λ (z : Row). z.is_entry) r.2)

  -- the place of a row
  place_there : (i : ℕ) (r : PlaceRow) → slice_get rows i ≡ Some r → (q : Place) × (slice_get (places_of_program p) i ≡ Some q) × (r.is_entry ≡ q.is_entry)
  place_there i r there =
      let q = from_map (flow_row p) (places_of_program p) i (row_view r) (ap (λ l. slice_get l i) (sym rows_are) ∙ map_at row_view rows i r there) in
      (q.0, q.1, sym (ap (λ (z : Row). z.is_entry) q.2))

  -- an image has the program's entries
  entry_is : (i : ℕ) (q : Place) → slice_get (places_of_program p) i ≡ Some q → is_entry m.functions (1 + i) ≡ q.is_entry
  entry_is i q there =
      let number : 1 + i ≡ i + 1 = omega arith in
      ap (is_entry m.functions) number ∙ entry_among m.functions (i + 1) ∙ ap (λ l. is_stop l (i + 1)) entries ∙ entries_tell p formed i q there

  -- the table has the address of each stop
  put : (i : ℕ) (r : PlaceRow) (s : PlacedStop) → slice_get rows i ≡ Some r → Among s stops → s.place ≡ i + 1 → get_or (stop_addresses stops (length rows + 1)) (1 + i) 0 ≡ s.address
  put i r s there among place =
      let within : i < length rows = slice_get_within rows i r there in
      let first : List ℕ = replicate (length rows + 1) 0 in
      let size : length first ≡ length rows + 1 = length-replicate (length rows + 1) 0 in
      let room : s.place < length first = omega (arith, within, place, size) in
      let number : 1 + i ≡ s.place = omega (arith, place) in
      ap (λ k. get_or (stop_addresses stops (length rows + 1)) k 0) number ∙ put_there stops first s are.once among room

  -- the address of a place that is no entry
  told : (i : ℕ) (r : PlaceRow) → slice_get rows i ≡ Some r → r.is_entry ≡ false → slice_get (map address m.places) i ≡ Some (get_or (stop_addresses stops (length rows + 1)) (1 + i) 0)
  told i r there plain = ap (λ l. slice_get l i) addresses ∙ address_at 1 (map (λ (c : FunctionCode). c.first) codes) (stop_addresses stops (length rows + 1)) rows i r there plain

  -- it is that of a stop
  stop_at : (i : ℕ) (q : Place) → slice_get (places_of_program p) i ≡ Some q → q.is_entry ≡ false → (s : PlacedStop) × Among s stops × (slice_get (map address m.places) i ≡ Some s.address)
  stop_at i q there plain =
      let r = row_there i q there in
      let marked = stop_marked p formed u is i q there plain in
      let g = graph_on u.graphs v.graphs functions marked.function marked.graph marked.at in
      let s = code.marker_stops v stops are marked.function g.0 (i + 1) g.1 ((g.2.markers (i + 1)).0 marked.marker) (λ entry. marked.other (entry ∙ g.2.entry)) in
      (s.0, s.1, told i r.0 r.1 (r.2 ∙ plain) ∙ ap (λ n. Some n) (put i r.0 s.0 r.1 s.1 s.2))

  to_code : (a : ℕ) → is_stop (image.stop_addresses m) a ≡ true → is_stop (map (λ (s : PlacedStop). s.address) stops) a ≡ true
  to_code a stopped =
      let at = stop_from m.functions 1 m.places a stopped in
      let here : slice_get (map address m.places) at.index ≡ Some at.place.address = map_at address m.places at.index at.place at.is in
      let r = row_at 1 (map (λ (c : FunctionCode). c.first) codes) (stop_addresses stops (length rows + 1)) rows at.index at.place.address (ap (λ l. slice_get l at.index) (sym addresses) ∙ here) in
      let q = place_there at.index r.0 r.1 in
      let s = stop_at at.index q.0 q.1 (sym (entry_is at.index q.0 q.1) ∙ at.no_entry) in
      image_among (λ (s : PlacedStop). s.address) stops s.0 a s.1 (same_Some s.0.address at.place.address (sym s.2 ∙ here) ∙ at.at)

  from_code : (a : ℕ) → is_stop (map (λ (s : PlacedStop). s.address) stops) a ≡ true → is_stop (image.stop_addresses m) a ≡ true
  from_code a stopped =
      let s = image_from (λ (s : PlacedStop). s.address) stops a stopped in
      let marked = code.stop_marked v stops are s.0 s.1 in
      let g = graph_back u.graphs v.graphs functions marked.function marked.graph marked.is in
      let n = marked_stop p formed u is marked.function g.0 s.0.place g.1 ((g.2.markers s.0.place).1 marked.marker) (λ entry. marked.other (entry ∙ sym g.2.entry)) in
      let r = row_there n.index n.place n.there in
      let x = from_map address m.places n.index (get_or (stop_addresses stops (length rows + 1)) (1 + n.index) 0) (told n.index r.0 r.1 (r.2 ∙ n.stops)) in
      let same : x.0.address ≡ a = x.2 ∙ put n.index r.0 s.0 r.1 s.1 n.number ∙ s.2 in
      subst (λ b. is_stop (image.stop_addresses m) b ≡ true) same (stop_there m.functions 1 m.places n.index x.0 x.1 (entry_is n.index n.place n.there ∙ n.stops))

  -- The image stops where the code does, and nowhere else.
  pub stops_are : (a : ℕ) → is_stop (image.stop_addresses m) a ≡ is_stop (map (λ (s : PlacedStop). s.address) stops) a
  stops_are a = same_answers (is_stop (image.stop_addresses m) a) (is_stop (map (λ (s : PlacedStop). s.address) stops) a) (to_code a) (from_code a)
