-- What the tables are made of whose rules are looked at.
use Rattle.std.specs.Prelude.{◌≡◌, ℕ, ◌+◌, ◌++◌, List, [], ◌∷◌, length, map}
use Rattle.places.specs.declared.table.PlaceRow.{PlaceRow}
use Rattle.c_tree.specs.Programs.{ProgramTree, TypedFunctionTree}
use Rattle.c_places.specs.Places.{place_number_at, places_of_program}
use Rattle.c_flow.specs.Rows.{Row, row_view, rows_of_program}
use Rattle.graph_core.specs.Graphs.{Graph}
use Rattle.graph_homes.specs.Homed.{HomedForm}
use Rattle.rv_emit_tables.specs.Emitted.{EmittedForm}
use Rattle.image_form.specs.Form.{Form}
use Rattle.image_build_tables.specs.Spans.{code_span, saved, span}
use Rattle.image_build_tables.specs.Storages.{storages_of}
use Rattle.image_build_tables.specs.Variables.{declared_names, entry, length_of_name, name_length, owner, owners_of, pass_names, shape, shapes_of, storage}
use Rattle.image_build_tables.specs.Places.{address, addresses_of}
use Rattle.image_build_tables.specs.Tables.{assigned_pair, change_record, flow_pair, version_of_map, VisiblePair, spot, spot_of_row}

-- the place at which a function begins: the one at its name
abbrev pub entry_number : ProgramTree → TypedFunctionTree → ℕ
entry_number p f = place_number_at (places_of_program p) f.spot.at

-- the place at which the code of a graph begins
abbrev pub entry_place : Graph → ℕ
entry_place g = g.entry

-- how many variables a program has
abbrev pub variables_in : ProgramTree → ℕ
variables_in p = length p.statics + length p.literals + length p.automatics

-- the variables that are visible at places, place by place, where the first of them has this number
abbrev pub visible_from : (place : ℕ) → List Row → List VisiblePair
visible_from place [] = []
visible_from place (r ∷ rows) =
    map (λ x. record { place = place; variable = x }) r.visible ++ visible_from (place + 1) rows

-- TABLES ARE MADE OF A PROGRAM, a unit with homes, its code and the table of the program's places: section by section
-- they say what these say.
pub record AreTablesOf (p : ProgramTree) (h : HomedForm) (e : EmittedForm) (rows : List PlaceRow) (m : Form)
    : Type 0 where
  pub version : m.version ≡ version_of_map e.map
  pub code : m.code ≡ e.code
  pub initial : m.initial ≡ e.initial
  pub owners : m.owners ≡ e.owners
  pub functions : map name_length m.functions ≡ map length_of_name p.functions
  pub spans : map span m.functions ≡ map code_span e.functions
  pub entries : map entry m.functions ≡ map entry_place h.unit.graphs
  pub saved : map saved m.functions ≡ map (λ f. 0) p.functions
  pub variables : map shape m.variables ≡ shapes_of p
  pub belonging : map owner m.variables ≡ owners_of p
  pub storages : map storage m.variables ≡ storages_of h e (variables_in p)
  pub names : m.names ≡ declared_names p ++ pass_names h.unit.log
  pub rows_are : map row_view rows ≡ rows_of_program p
  pub places : map spot m.places ≡ map spot_of_row rows
  pub addresses : map address m.places ≡ addresses_of e.functions e.stops rows
  pub changes : m.changes ≡ map change_record h.unit.log
  pub flow : m.flow ≡ map flow_pair h.unit.steps
  pub assigned : m.assigned ≡ map assigned_pair h.unit.assignments
  pub calls : m.calls ≡ []
  pub members : m.members ≡ []
