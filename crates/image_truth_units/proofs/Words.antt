-- Each place has a word of its own at its address, and each word that belongs to a place is in the code of the place's function.
use Rattle.std.proofs.Common.{◌≡◌, ◌≢◌, ℕ, zero, suc, ◌+◌, ◌≤◌, ◌<◌, inl, inr, Bool, true, false, Some, List, [], ◌∷◌, length, map, replicate, slice_get, slice_index, get_or, refl, sym, ap, ◌∙◌, subst, arith}
use Rattle.std.specs.Prelude.{slice_set, if◌then◌else◌}
use Rattle.std.specs.List.{AllByRecursion}
use Rattle.std.proofs.lemmas.List.{length-replicate, length-set}
use Rattle.std.proofs.lemmas.Option.{none-some, same_Some, slice_get_within, get_or_from_slice_get}
use Rattle.places.specs.declared.table.PlaceRow.{PlaceRow}
use Rattle.c_tree.specs.Programs.{ProgramTree, TypedFunctionTree}
use Rattle.c_places.specs.Places.{Place, entry_of, place_number_at, places_of_program}
use Rattle.c_flow.specs.Rows.{Row, flow_row, row_view}
use Rattle.graph_core.specs.Graphs.{Graph}
use Rattle.graph_core.specs.Paths.{Among, front, behind}
use Rattle.graph_core.specs.Validity.{AreAllDifferent}
use Rattle.graph_homes.specs.Homed.{HomedForm}
use Rattle.rv_emit_tables.specs.declared.emitted.PlacedStop.{PlacedStop}
use Rattle.rv_emit_tables.specs.Emitted.{EmittedForm, FunctionCode, address_of_word}
use Rattle.rv_emit_runs.specs.EmitPlacedMarkers.{place_of}
use Rattle.rv_emit_runs.specs.Owners.{IsOwnedBy}
use Rattle.rv_emit_runs.proofs.StopPlaces.{marker_stops}
use Rattle.image_form.specs.Form.{Form}
use Rattle.image_form.specs.declared.tables.Place.{Place as ImagePlace}
use Rattle.image_build_tables.specs.Spans.{code_span, span}
use Rattle.image_build_tables.specs.Variables.{entry}
use Rattle.image_build_tables.specs.Places.{address, addresses_from, put_stops, stop_addresses}
use Rattle.image_build_tables.specs.Tables.{spot, spot_of_row}
use Rattle.image_truth_units.specs.Lying.{IsWordOf}
use Rattle.image_truth_units.specs.Tables.{entry_number, entry_place}
use Rattle.image_truth_units.specs.ImageRulesUnits.{HasOwnPlaces, IsPlaceIn}
use Rattle.image_truth_units.proofs.Accepted.{facts_of}
use Rattle.image_truth_units.proofs.Functions.{has_entry}
use Rattle.image_truth_units.proofs.Given.{Given}
use Rattle.image_truth_units.proofs.Lists.{across, map_at, there}
use Rattle.image_truth_units.proofs.ProgramPlaces.{IsEntryOf, entry_only, in_range, numbered_at}
use Rattle.base_laws.proofs.Numbers.{no_entry}

-- ---- Tables of addresses

set_there : (xs : List ℕ) (n v : ℕ) → n < length xs → get_or (slice_set xs n v) n 0 ≡ v
set_there [] n v low = absurd (omega (arith, low))
set_there (x ∷ xs) zero v low = refl
set_there (x ∷ xs) (suc n) v low = set_there xs n v (omega (arith, low))

set_other : (xs : List ℕ) (n k v : ℕ) → n ≢ k → get_or (slice_set xs n v) k 0 ≡ get_or xs k 0
set_other [] n k v other = refl
set_other (x ∷ xs) zero zero v other = absurd (other refl)
set_other (x ∷ xs) zero (suc k) v other = refl
set_other (x ∷ xs) (suc n) zero v other = refl
set_other (x ∷ xs) (suc n) (suc k) v other = set_other xs n k v (λ same. other (ap suc same))

put_others : (stops : List PlacedStop) (table : List ℕ) (n : ℕ) → AllByRecursion (λ q. n ≢ q) (map place_of stops) → get_or (put_stops stops table) n 0 ≡ get_or table n 0
put_others [] table n others = refl
put_others (s ∷ more) table n others = put_others more (slice_set table s.place s.address) n others.1 ∙ set_other table s.place n s.address (λ same. others.0 (sym same))

put_there : (stops : List PlacedStop) (table : List ℕ) (s : PlacedStop) → AreAllDifferent (map place_of stops) → Among s stops → s.place < length table → get_or (put_stops stops table) s.place 0 ≡ s.address
put_there [] table s once among low = elim among [ ]
put_there (_ ∷ more) table s once front low = put_others more (slice_set table s.place s.address) s.place once.0 ∙ set_there table s.place s.address low
put_there (x ∷ more) table s once (behind among) low = let same = length-set table x.place x.address in put_there more (slice_set table x.place x.address) s once.1 among (omega (arith, low, same))

address_there : (n : ℕ) (firsts stops : List ℕ) (rows : List PlaceRow) (k x : ℕ) (r : PlaceRow) → slice_get (addresses_from n firsts stops rows) k ≡ Some x → slice_get rows k ≡ Some r
    → x ≡ (if r.is_entry then get_or firsts r.function 0 else get_or stops (n + k) 0)
address_there n firsts stops [] k x r is at = absurd (none-some r at)
address_there n firsts stops (y ∷ rows) zero x r is at =
    let here : n ≡ n + 0 = omega arith in
    sym (same_Some (if y.is_entry then get_or firsts y.function 0 else get_or stops n 0) x is) ∙ ap (λ (z : PlaceRow). if z.is_entry then get_or firsts z.function 0 else get_or stops n 0) (same_Some y r at) ∙ ap (λ k. if r.is_entry then get_or firsts r.function 0 else get_or stops k 0) here
address_there n firsts stops (y ∷ rows) (suc k) x r is at =
    let here : n + 1 + k ≡ n + suc k = omega arith in
    address_there (n + 1) firsts stops rows k x r is at ∙ ap (λ j. if r.is_entry then get_or firsts r.function 0 else get_or stops j 0) here

-- ---- Words of places

-- A word belongs to a place, and lies in the code of the place's function.
pub record IsPlaced (p : ProgramTree) (e : EmittedForm) (word : ℕ) : Type 0 where
  pub index : ℕ
  pub at : Place
  pub is : slice_get (places_of_program p) index ≡ Some at
  pub number : slice_index e.owners word ≡ index + 1
  pub code : FunctionCode
  pub code_is : slice_get e.functions at.function ≡ Some code
  pub low : code.first ≤ address_of_word word
  pub high : address_of_word word < code.end

-- A place of a table has a word at its address, which belongs to it.
pub record HasWord (e : EmittedForm) (index : ℕ) (x : ImagePlace) : Type 0 where
  pub word : ℕ
  pub address_is : x.address ≡ address_of_word word
  pub owner : slice_index e.owners word ≡ index + 1

module _ (p : ProgramTree) (h : HomedForm) (e : EmittedForm) (rows : List PlaceRow) (m : Form) (given : Given p h e rows m) (unit : HasOwnPlaces p h.unit) where
  -- a function of the program has its graph and its code
  record HasParts (k : ℕ) (tree : TypedFunctionTree) : Type 0 where
    pub graph : Graph
    pub graph_is : slice_get h.unit.graphs k ≡ Some graph
    pub entry_is : graph.entry ≡ entry_number p tree
    pub code : FunctionCode
    pub code_is : slice_get e.functions k ≡ Some code

  parts_of : (k : ℕ) (tree : TypedFunctionTree) → slice_get p.functions k ≡ Some tree → HasParts k tree
  parts_of k tree is =
      let g = across (entry_number p) entry_place p.functions h.unit.graphs k tree (sym given.entries) is in
      let f = across entry_place entry h.unit.graphs m.functions k g.0 (sym given.tables.entries) g.1 in
      let c = across span code_span m.functions e.functions k f.0 given.tables.spans f.1 in
      record { graph = g.0; graph_is = g.1; entry_is = g.2; code = c.0; code_is = c.1 }

  tree_of : (k : ℕ) (g : Graph) → slice_get h.unit.graphs k ≡ Some g → (tree : TypedFunctionTree) × (slice_get p.functions k ≡ Some tree) × (entry_number p tree ≡ g.entry)
  tree_of k g is = across entry_place (entry_number p) h.unit.graphs p.functions k g given.entries is

  graph_of : (k : ℕ) (c : FunctionCode) → slice_get e.functions k ≡ Some c → (g : Graph) × (slice_get h.unit.graphs k ≡ Some g)
  graph_of k c is =
      let f = across code_span span e.functions m.functions k c (sym given.tables.spans) is in
      let g = across entry entry_place m.functions h.unit.graphs k f.0 given.tables.entries f.1 in
      (g.0, g.1)

  -- the entry of a graph is a place of its function
  entry_placed : (k : ℕ) (g : Graph) → slice_get h.unit.graphs k ≡ Some g → IsPlaceIn p k g.entry
  entry_placed k g is =
      let t = tree_of k g is in
      let found = has_entry p h e rows m given k t.0 t.1 in
      record { index = found.index; at = entry_of k t.0; is = found.is; number_is = sym t.2 ∙ found.number; function_is = refl }

  own_placed : (k place : ℕ) (g : Graph) → slice_get h.unit.graphs k ≡ Some g → place ≢ 0 → IsOwnedBy g place → IsPlaceIn p k place
  own_placed k place g is some (inl none) = absurd (some none)
  own_placed k place g is some (inr (inl same)) = subst (IsPlaceIn p k) (sym same) (entry_placed k g is)
  own_placed k place g is some (inr (inr marker)) = unit.own k place g is marker

  -- A word that belongs to a place lies in the code of the place's function.
  pub word_placed : (w : ℕ) → slice_index e.owners w ≢ 0 → IsPlaced p e w
  word_placed w some = by_word (given.lie.outside w some)
    where
      by_word : IsWordOf e w → IsPlaced p e w
      by_word of =
          let g = graph_of of.function of.code of.is in
          let placed = own_placed of.function (slice_index e.owners w) g.0 g.1 some (given.emits.owned of.function g.0 of.code g.1 of.is w of.low of.high) in
          record { index = placed.index; at = placed.at; is = placed.is; number = placed.number_is; code = of.code; code_is = ap (slice_get e.functions) placed.function_is ∙ of.is; low = of.low; high = of.high }

  -- what the row of a place says
  record HasRow (i : ℕ) (q : Place) (x : ImagePlace) : Type 0 where
    pub row : PlaceRow
    pub row_is : slice_get rows i ≡ Some row
    pub flag : row.is_entry ≡ q.is_entry
    pub function_is : row.function ≡ q.function
    pub address_is : x.address ≡ (if row.is_entry then get_or (map (λ (c : FunctionCode). c.first) e.functions) row.function 0 else get_or (stop_addresses e.stops (length rows + 1)) (1 + i) 0)

  has_row : (i : ℕ) (q : Place) (x : ImagePlace) → slice_get (places_of_program p) i ≡ Some q → slice_get m.places i ≡ Some x → HasRow i q x
  has_row i q x is at =
      let r = across spot spot_of_row m.places rows i x given.tables.places at in
      let same : row_view r.0 ≡ flow_row p q = same_Some (row_view r.0) (flow_row p q) (sym (map_at row_view rows i r.0 r.1) ∙ ap (λ l. slice_get l i) given.tables.rows_are ∙ map_at (flow_row p) (places_of_program p) i q is) in
      record {
        row = r.0;
        row_is = r.1;
        flag = ap (λ (v : Row). v.is_entry) same;
        function_is = ap (λ (v : Row). v.function) same;
        address_is = address_there 1 (map (λ (c : FunctionCode). c.first) e.functions) (stop_addresses e.stops (length rows + 1)) rows i x.address r.0
            (ap (λ l. slice_get l i) (sym given.tables.addresses) ∙ map_at address m.places i x at) r.1;
      }

  entry_word : (i : ℕ) (q : Place) (x : ImagePlace) → slice_get (places_of_program p) i ≡ Some q → slice_get m.places i ≡ Some x → q.is_entry ≡ true → HasWord e i x
  entry_word i q x is at flag = by_entry (entry_only 0 p.functions i q is flag)
    where
      by_entry : IsEntryOf 0 p.functions q → HasWord e i x
      by_entry of =
          let parts = parts_of of.index of.tree of.is in
          let lies = given.lie.lying of.index parts.code parts.code_is in
          let row = has_row i q x is at in
          let here : 0 + of.index ≡ of.index = omega arith in
          let function : row.row.function ≡ of.index = row.function_is ∙ sym (ap (λ (y : Place). y.function) of.same) ∙ here in
          let number = numbered_at (places_of_program p) i q (facts_of p given.formed).positions is in
          let first : x.address ≡ parts.code.first =
          row.address_is ∙ ap (λ b. if b then get_or (map (λ (c : FunctionCode). c.first) e.functions) row.row.function 0 else get_or (stop_addresses e.stops (length rows + 1)) (1 + i) 0) (row.flag ∙ flag)
          ∙ get_or_from_slice_get (map (λ (c : FunctionCode). c.first) e.functions) row.row.function parts.code.first 0 (ap (slice_get (map (λ (c : FunctionCode). c.first) e.functions)) function ∙ map_at (λ (c : FunctionCode). c.first) e.functions of.index parts.code parts.code_is) in
          record {
            word = lies.from;
            address_is = first ∙ lies.begins;
            owner = given.lie.entries of.index lies.from parts.graph parts.code parts.graph_is parts.code_is lies.begins ∙ parts.entry_is ∙ ap (λ (y : Place). place_number_at (places_of_program p) y.spot.at) of.same ∙ number;
          }

  stop_word : (i : ℕ) (q : Place) (x : ImagePlace) → slice_get (places_of_program p) i ≡ Some q → slice_get m.places i ≡ Some x → q.is_entry ≡ false → HasWord e i x
  stop_word i q x is at flag =
      let within = (in_range 0 p.functions i q is).1 in
      let tree = there p.functions q.function (omega (arith, within)) in
      let parts = parts_of q.function tree.0 tree.1 in
      let found = has_entry p h e rows m given q.function tree.0 tree.1 in
      let other : i + 1 ≢ parts.graph.entry = (λ same. no_entry (ap (λ (y : Place). y.is_entry) (same_Some (entry_of q.function tree.0) q (sym found.is ∙ ap (slice_get (places_of_program p)) (index_is found.index parts.graph.entry (entry_number p tree.0) same parts.entry_is found.number) ∙ is)) ∙ flag)) in
      let stop = marker_stops h.unit e.stops given.emits.stops q.function parts.graph (i + 1) parts.graph_is (unit.marked i q parts.graph is parts.graph_is) other in
      let row = has_row i q x is at in
      let low = slice_get_within rows i row.row row.row_is in
      let none : ℕ = 0 in
      let many : length (replicate (length rows + 1) none) ≡ length rows + 1 = length-replicate (length rows + 1) none in
      let place = stop.2 in
      let number : stop.0.place ≡ 1 + i = omega (arith, place) in
      let word = given.emits.code.stops stop.0 stop.1 in
      let own : x.address ≡ stop.0.address =
      row.address_is ∙ ap (λ b. if b then get_or (map (λ (c : FunctionCode). c.first) e.functions) row.row.function 0 else get_or (stop_addresses e.stops (length rows + 1)) (1 + i) 0) (row.flag ∙ flag)
      ∙ ap (λ k. get_or (stop_addresses e.stops (length rows + 1)) k 0) (sym number) ∙ put_there e.stops (replicate (length rows + 1) none) stop.0 given.emits.stops.once stop.1 (omega (arith, low, many, number)) in
      record { word = word.0; address_is = own ∙ word.1; owner = word.2 ∙ place }
    where
      index_is : (j begin number : ℕ) → i + 1 ≡ begin → begin ≡ number → number ≡ j + 1 → j ≡ i
      index_is j begin number a b c = omega (arith, a, b, c)

  -- Each place has a word at its address, which belongs to it.
  pub has_word : (i : ℕ) (q : Place) (x : ImagePlace) → slice_get (places_of_program p) i ≡ Some q → slice_get m.places i ≡ Some x → HasWord e i x
  has_word i q x is at = by_flag q.is_entry refl
    where
      by_flag : (b : Bool) → q.is_entry ≡ b → HasWord e i x
      by_flag true flag = entry_word i q x is at flag
      by_flag false flag = stop_word i q x is at flag
