-- What is known of the tables of a program, of its unit with homes and of its code.
use Rattle.std.proofs.Common.{ap}
use Rattle.std.specs.Prelude.{◌≡◌, List, map}
use Rattle.places.specs.declared.table.PlaceRow.{PlaceRow}
use Rattle.c_tree.specs.Programs.{ProgramTree}
use Rattle.c_type_laws.specs.Laws.{IsWellFormed}
use Rattle.c_type_laws.specs.Names.{HasNames}
use Rattle.graph_core.specs.Validity.{IsValid}
use Rattle.graph_homes.specs.Homed.{HaveHomes, HomedForm}
use Rattle.rv_emit_tables.specs.Emitted.{EmittedForm}
use Rattle.rv_emit.specs.Emits.{Emits}
use Rattle.image_form.specs.Form.{Form}
use Rattle.image_form_sections.specs.declared.version.Version.{Version}
use Rattle.image_truth_units.specs.Lying.{LieInOrder}
use Rattle.image_truth_units.specs.Tables.{AreTablesOf, entry_number, entry_place}

-- The program is well formed and has names; the unit is valid, has homes, and begins its functions where the program does; the code is its, and lies in order; and the tables are made of these.
pub record Given (p : ProgramTree) (h : HomedForm) (e : EmittedForm) (rows : List PlaceRow) (m : Form) : Type 0 where
  pub tables : AreTablesOf p h e rows m
  pub formed : IsWellFormed p
  pub names : HasNames p
  pub valid : IsValid h.unit
  pub homed : HaveHomes h
  pub emits : Emits h e
  pub lie : LieInOrder h.unit e
  pub entries : map entry_place h.unit.graphs ≡ map (entry_number p) p.functions

-- The memory of the image is that of the code.
pub memory_is : (p : ProgramTree) (h : HomedForm) (e : EmittedForm) (rows : List PlaceRow) (m : Form) → Given p h e rows m → m.version.map ≡ e.map
memory_is p h e rows m given = ap (λ (v : Version). v.map) given.tables.version
