-- An image without where it lies in memory, and the look-ups by number.
use Rattle.std.specs.Prelude.{ℕ, zero, suc, List, Option, None, slice_get}
use Rattle.image_form.specs.declared.format.Image.{Image}
use Rattle.debug_records.specs.declared.mode.Mode.{Mode}
use Rattle.image_form.specs.declared.recipes.Node.{Node}
use Rattle.image_form.specs.declared.tables.AssignedPair.{AssignedPair}
use Rattle.image_form.specs.declared.tables.Change.{Change}
use Rattle.image_form.specs.declared.tables.FlowPair.{FlowPair}
use Rattle.image_form.specs.declared.tables.Function.{Function}
use Rattle.image_form.specs.declared.tables.Place.{Place}
use Rattle.image_form.specs.declared.variables.Variable.{Variable}
use Rattle.image_form.specs.declared.verdicts.VisibleRow.{VisibleRow}
use Rattle.image_form.specs.declared.verdicts.CallRow.{CallRow}
use Rattle.image_form.specs.declared.members.Member.{Member}
use Rattle.image_form_sections.specs.declared.version.Version.{Version}

-- The sections of an image, each a list.
pub record Form : Type 0 where
  pub version : Version
  pub mode : Mode
  pub code : List ℕ
  pub initial : List ℕ
  pub functions : List Function
  pub places : List Place
  pub owners : List ℕ
  pub variables : List Variable
  pub changes : List Change
  pub flow : List FlowPair
  pub assigned : List AssignedPair
  pub rows : List VisibleRow
  pub calls : List CallRow
  pub members : List Member
  pub nodes : List Node
  pub names : List ℕ

-- What an image says.
abbrev pub form : Image → Form
form m = record {
  version = m.version;
  mode = m.mode;
  code = m.code.items;
  initial = m.initial.items;
  functions = m.functions.items;
  places = m.places.items;
  owners = m.owners.items;
  variables = m.variables.items;
  changes = m.changes.items;
  flow = m.flow.items;
  assigned = m.assigned.items;
  rows = m.rows.items;
  calls = m.calls.items;
  members = m.members.items;
  nodes = m.nodes.items;
  names = m.names.items;
}

-- The record of that number, counted from 1.
abbrev pub numbered : {A : Type 0} → List A → ℕ → Option A
numbered records zero = None
numbered records (suc i) = slice_get records i
