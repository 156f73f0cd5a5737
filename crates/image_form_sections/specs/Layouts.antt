-- What tables and layouts in memory say.
use Rattle.std.specs.Prelude.{◌≡◌, ◌↔◌, ℕ, ◌<◌, ◌&&◌, ◌==◌, true, List, Contains, slice_index}
use Rattle.std.specs.BTreeMap.{BTreeMap}
use Rattle.std.specs.BTreeMap as tree
use Rattle.std.specs.List.{position_from}
use Rattle.std.specs.List.Sorted.{IsNonDecreasing}
use Rattle.std.specs.Ordering.{nat_cmp, ordering_then}
use Rattle.std.specs.declared.cmp.Ordering.{Ordering}
use Rattle.image_form_sections.specs.declared.layout.Layout.{Layout}
use Rattle.image_form_sections.specs.declared.table.Table.{Table}
use Rattle.image_form_sections.specs.Sections.{number_rows_at, Sections}
use Rattle.image_form_sections.specs.TestsOfChanges.{is_quiet_place, is_taken_from, pair_key}

-- The rows of a table.
abbrev pub rows_in : Table → List (List ℕ)
rows_in t = number_rows_at t.width t.count t.bytes.now

-- The sections of a layout.
abbrev pub sections_in : Layout → Sections
sections_in l = record {
  version = l.version;
  mode = l.mode;
  code = rows_in l.code;
  initial = l.initial.now;
  functions = rows_in l.functions;
  places = rows_in l.places;
  owners = rows_in l.owners;
  variables = rows_in l.variables;
  changes = rows_in l.changes;
  flow = rows_in l.flow;
  assigned = rows_in l.assigned;
  rows = rows_in l.rows;
  calls = rows_in l.calls;
  members = rows_in l.members;
  nodes = rows_in l.nodes;
  names = l.names.now;
}

-- The map has for each address the first place with that address.
abbrev pub HoldsFirstPlaces : BTreeMap ℕ ℕ → List (List ℕ) → Type 0
HoldsFirstPlaces map places =
    (address : ℕ) → tree.get nat_cmp map address ≡ position_from (λ p. slice_index p 3 == address) 0 places

-- The order of nodes as three numbers.
abbrev pub node_cmp : ℕ × ℕ × ℕ → ℕ × ℕ × ℕ → Ordering
node_cmp x y = ordering_then (ordering_then (nat_cmp x.0 y.0) (nat_cmp x.1 y.1)) (nat_cmp x.2 y.2)

-- The map has for each three numbers the first node with them.
abbrev pub HoldsFirstNodes : BTreeMap (ℕ × ℕ × ℕ) ℕ → List (List ℕ) → Type 0
HoldsFirstNodes map nodes =
    (key : ℕ × ℕ × ℕ) → tree.get node_cmp map key
    ≡ position_from (λ q. slice_index q 0 == key.0 && slice_index q 1 == key.1 && slice_index q 2 == key.2) 0 nodes

-- The numbers are those of the places and variables of changes by which assignments went, in order.
pub record HoldsTakenPlaces (keys : List ℕ) (s : Sections) : Type 0 where
  pub ordered : IsNonDecreasing keys
  pub all :
      (place variable : ℕ) → variable < 4294967296
      → Contains keys (pair_key place variable) ↔ (is_taken_from s place variable ≡ true)

-- The numbers are those of the places and variables at which quiet paths may begin, in order.
pub record HoldsQuietPlaces (keys : List ℕ) (s : Sections) : Type 0 where
  pub ordered : IsNonDecreasing keys
  pub all :
      (place variable : ℕ) → variable < 4294967296
      → Contains keys (pair_key place variable) ↔ (is_quiet_place s place variable ≡ true)
