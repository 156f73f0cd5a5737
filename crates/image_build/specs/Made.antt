-- What an image is made of.
use Rattle.std.specs.Prelude.{◌≡◌, ◌++◌, List, length, map}
use Rattle.debug_records.specs.declared.mode.Mode.{Mode}
use Rattle.debug_records.specs.declared.mode.Mode.TheVariants.{Registers, Slots}
use Rattle.places.specs.declared.flow.FlowTable.{FlowTable}
use Rattle.places.specs.declared.table.PlaceRow.{PlaceRow}
use Rattle.c_tree.specs.Programs.{ProgramTree}
use Rattle.c_flow.specs.Rows.{row_view, rows_of_program}
use Rattle.graph_core.specs.Graphs.{UnitForm}
use Rattle.graph_core.specs.Validity.{IsValid}
use Rattle.graph_homes.specs.Homed.{HaveHomes, HomedForm}
use Rattle.home_assign.specs.Changes.{HaveChanges}
use Rattle.home_assign.specs.Rule.{HaveHomesApart, HaveRegisters, HaveSlots}
use Rattle.rv_emit_tables.specs.Emitted.{EmittedForm}
use Rattle.rv_emit_runs.specs.Laid.{Arrangement}
use Rattle.rv_emit.specs.Emits.{Emits}
use Rattle.currency.specs.declared.verdict.PlaceVerdict.{PlaceVerdict}
use Rattle.currency.specs.Evident.{AreEvident}
use Rattle.currency.specs.Named.{AreNamed}
use Rattle.currency.specs.Sound.{AreApart, AreHidden, AreHome, AreLeast, AreOnly, AreReached, AreRecovered}
use Rattle.currency.specs.Written.{AreWritten}
use Rattle.image_form.specs.Form.{Form}
use Rattle.image_form.specs.Numbers.{row_numbers}
use Rattle.image_form.specs.declared.verdicts.VisibleRow.{VisibleRow}
use Rattle.image_build_tables.specs.Spans.{code_span, span}
use Rattle.image_build_tables.specs.Storages.{storages_of}
use Rattle.image_build_tables.specs.Variables.{declared_names, pass_names, storage}
use Rattle.image_build_tables.specs.Places.{address, addresses_of}
use Rattle.image_build_tables.specs.Rows.{AreNodesOf, AreRowsOf, telling_of}
use Rattle.image_build_tables.specs.Tables.{assigned_pair, change_record, flow_pair, version_of_map}
use Rattle.image_build.specs.Carried.{CarriesOut}
use Rattle.image_build.specs.Evidence.{AreEvidentIn, AreQuietIn}

-- Verdicts are borne out by a unit with homes: where one says that a home shows a variable, or gives a recipe for it,
-- that is so on all paths. A recipe is given only where the home does not show the variable and no other recipe holds,
-- and beside it stands the least change that removed its assignment; a variable is hidden only where no recipe holds.
-- At a place that no path reaches each is said to be shown by its home. The change that one names is in the log, and
-- what one says to write a home does so, and hides the variable. Where nothing disturbs the home of a hidden variable
-- on a path, the least place at which such a path begins is told.
pub record AreBorneOut (h : HomedForm) (told : List PlaceVerdict) : Type 0 where
  pub flow : FlowTable
  pub steps : flow.steps.items ≡ h.unit.steps
  pub assignments : flow.assignments.items ≡ h.unit.assignments
  pub home : AreHome h told
  pub recovered : AreRecovered h told
  pub apart : AreApart h told
  pub only : AreOnly h told
  pub least : AreLeast h told
  pub hidden : AreHidden h told
  pub reached : AreReached h told
  pub named : AreNamed h.unit.log told
  pub written : AreWritten h told
  pub evident : AreEvident h.unit.log flow h told

-- The rows of an image say what verdicts say that are borne out, with the nodes of their recipes and with the addresses
-- of what writes homes: they stand for the same numbers as rows that say so; and there are no other nodes.
pub record HasRowsOf (h : HomedForm) (e : EmittedForm) (places : List PlaceRow) (m : Form) : Type 0 where
  pub told : List PlaceVerdict
  pub borne_out : AreBorneOut h told
  pub rows : List VisibleRow
  pub say : AreRowsOf (telling_of h places e) m.nodes told rows
  pub needed : AreNodesOf (telling_of h places e) m.nodes told
  pub same : map (row_numbers m.version.level) m.rows ≡ map (row_numbers m.version.level) rows

-- A UNIT HAS HOMES OF A MODE: it is valid, each of its names has a home by the rule of the mode, and names that
-- interfere have homes apart.
pub record IsHomed (mode : Mode) (h : HomedForm) : Type 0 where
  pub valid : IsValid h.unit
  pub homes : HaveHomes h
  pub mode_is : h.mode ≡ mode
  pub slots : mode ≡ Slots → HaveSlots h
  pub registers : mode ≡ Registers → HaveRegisters h
  pub apart : HaveHomesApart h

-- A unit has homes of a mode: but for its log it is this unit, and its log is that one's with the changes of registers
-- that are shared after it.
pub record HasHomesOf (mode : Mode) (u : UnitForm) (h : HomedForm) : Type 0 where
  pub same : h.unit ≡ record u { log = h.unit.log }
  pub changes : HaveChanges u h
  pub homed : IsHomed mode h

-- THE PARTS OF AN IMAGE ARE THOSE OF A UNIT WITH HOMES and of its code, of a program: its words with their owners, its
-- initial bytes, and where its memory lies, are the code's; each function lies where its code does, with its frame;
-- each variable is kept where the code has it; each place has the address of its stop, and an entry that of its
-- function; the changes, the flow and the assignments are the unit's, and the names those of the program and of the
-- passes of the changes. Its rows say what is right of the unit on all paths to the place: by one that shows a variable
-- its home has the value, or the recipe gives it; and a variable is hidden only where neither its home nor any recipe
-- that a note of the unit gives does so. What a row says to hide a variable is evident in the words of the code, and so
-- is the quiet path that it tells of.
pub record HasPartsOf (p : ProgramTree) (h : HomedForm) (a : Arrangement) (e : EmittedForm) (m : Form) : Type 0 where
  pub version : m.version ≡ version_of_map e.map
  pub mode : m.mode ≡ h.mode
  pub code : m.code ≡ e.code
  pub owners : m.owners ≡ e.owners
  pub initial : m.initial ≡ e.initial
  pub spans : map span m.functions ≡ map code_span e.functions
  pub storages : map storage m.variables ≡ storages_of h e (length m.variables)
  pub places : List PlaceRow
  pub places_are : map row_view places ≡ rows_of_program p
  pub addresses : map address m.places ≡ addresses_of e.functions e.stops places
  pub changes : m.changes ≡ map change_record h.unit.log
  pub flow : m.flow ≡ map flow_pair h.unit.steps
  pub assigned : m.assigned ≡ map assigned_pair h.unit.assignments
  pub names : m.names ≡ declared_names p ++ pass_names h.unit.log
  pub rows : HasRowsOf h e places m
  pub evident : AreEvidentIn h a e rows.borne_out.flow rows.rows
  pub quiet : AreQuietIn h a e rows.borne_out.flow rows.rows

-- AN IMAGE IS MADE OF A UNIT WITH HOMES, of a program: its parts are those of the unit and of its code, and that code
-- does what the unit does over its homes, event by event, with what the unit's homes and objects hold at each stop.
pub record IsMadeOf (p : ProgramTree) (h : HomedForm) (m : Form) : Type 0 where
  pub emitted : EmittedForm
  pub arrangement : Arrangement
  pub carries : CarriesOut h arrangement emitted
  pub parts : HasPartsOf p h arrangement emitted m

-- The same, and each word of the code is the one that the forms of code give.
pub record IsMadeOfCode (p : ProgramTree) (h : HomedForm) (m : Form) : Type 0 where
  pub emitted : EmittedForm
  pub emits : Emits h emitted
  pub parts : HasPartsOf p h emits.code.arrangement emitted m
