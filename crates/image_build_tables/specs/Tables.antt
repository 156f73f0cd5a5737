-- How the tables of an image say what they are made of.
use Rattle.std.specs.Prelude.{ℕ, length}
use Rattle.debug_records.specs.Change.{letters}
use Rattle.graph_core.specs.Graphs.{Logged}
use Rattle.image_build_tables.specs.Variables.{bounded_count}
use Rattle.image_form.specs.declared.tables.Change.{Change}
use Rattle.image_form_sections.specs.declared.version.Level.TheVariants.{Quiet}
use Rattle.image_form_sections.specs.declared.version.Version.{Version}
use Rattle.memory_map.specs.declared.map.Map.{Map}
use Rattle.places.specs.declared.flow.Assignment.{Assignment}
use Rattle.places.specs.declared.flow.FlowStep.{FlowStep}
use Rattle.places.specs.declared.table.PlaceRow.{PlaceRow}
use Rattle.currency.specs.declared.verdict.PlaceVerdict.{PlaceVerdict}
use Rattle.image_form.specs.declared.tables.AssignedPair.{AssignedPair}
use Rattle.image_form.specs.declared.tables.FlowPair.{FlowPair}
use Rattle.image_form.specs.declared.tables.Place.{Place}
use Rattle.image_form.specs.declared.verdicts.VisibleRow.{VisibleRow}

-- the version of an image whose memory has this map: it tells where quiet paths begin, and nothing of calls
abbrev pub version_of_map : Map → Version
version_of_map m = record { map = m; level = Quiet }

-- a step of the flow as an image has it
abbrev pub flow_pair : FlowStep → FlowPair
flow_pair s = record { from = s.from.0; to = s.to.0 }

-- an assignment as an image has it
abbrev pub assigned_pair : Assignment → AssignedPair
assigned_pair a = record { place = a.place.0; variable = a.var.0 }

-- a change of a log as an image has it: its pass's name is told by its length, and stands among the image's names
abbrev pub change_record : Logged → Change
change_record c =
    record {
      pass_length = bounded_count (length (letters c.pass));
      kind = c.kind;
      place = c.place;
      variable = c.variable;
    }

-- Where a place stands: the position of its token, its line, its function.
pub record Spot : Type 0 where
  pub position : ℕ
  pub line : ℕ
  pub function : ℕ

-- where a place of an image stands
abbrev pub spot : Place → Spot
spot p = record { position = p.position; line = p.line; function = p.function }

-- where the place of a row of the table of places stands
abbrev pub spot_of_row : PlaceRow → Spot
spot_of_row r = record { position = r.position; line = r.line; function = r.function }

-- A variable that is visible at a place.
pub record VisiblePair : Type 0 where
  pub place : ℕ
  pub variable : ℕ

-- of what place and variable a row of an image is
abbrev pub pair_of_row : VisibleRow → VisiblePair
pair_of_row r = record { place = r.place; variable = r.variable }

-- of what place and variable a verdict is
abbrev pub sight_of_verdict : PlaceVerdict → VisiblePair
sight_of_verdict v = record { place = v.place.0; variable = v.var.0 }
