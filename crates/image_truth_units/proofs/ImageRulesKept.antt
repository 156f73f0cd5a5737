-- THE TABLES OF A PROGRAM KEEP EVERY RULE OF IMAGES, where an image can tell of the changes: from the rules of each section.
use Rattle.std.proofs.Common.{◌≡◌, ◌≤◌, List, length, map, sym, ap, ◌∙◌, subst}
use Rattle.std.specs.Prelude.{◌↔◌, AllPairs}
use Rattle.std.specs.List.{Contains}
use Rattle.std.proofs.lemmas.List.{length-map}
use Rattle.places.specs.declared.flow.Assignment.{Assignment}
use Rattle.places.specs.declared.flow.FlowStep.{FlowStep}
use Rattle.places.specs.declared.table.PlaceRow.{PlaceRow}
use Rattle.places.specs.Flow.{AreInOrder, IsAssignmentBefore}
use Rattle.c_tree.specs.Programs.{ProgramTree}
use Rattle.c_flow.specs.Assigns.{assignments_of_program}
use Rattle.c_flow.specs.Flow.{steps_of_program}
use Rattle.c_type_laws.specs.Spots.{HasSpots}
use Rattle.c_flow.specs.Rows.{rows_of_program}
use Rattle.graph_homes.specs.Homed.{HomedForm}
use Rattle.rv_emit_tables.specs.Emitted.{EmittedForm}
use Rattle.image_form.specs.Form.{Form}
use Rattle.image_form.specs.Rules.{IsImage}
use Rattle.image_form.specs.RulesOfNodes.{NodeRules}
use Rattle.image_form.specs.RulesOfRows.{RowRules}
use Rattle.image_form_drafts.specs.Fitting.{AreFit}
use Rattle.image_build_tables.specs.Tables.{change_record, pair_of_row}
use Rattle.image_truth_units.specs.Units.{HasVariablesIn}
use Rattle.image_truth_units.specs.Tables.{visible_from}
use Rattle.image_truth_units.specs.Changes.{CanAllBeTold, most_told}
use Rattle.image_truth_units.specs.ImageRulesUnits.{HasAllVariables, HasOwnPlaces}
use Rattle.image_truth_units.proofs.Assigned.{assigned_rules}
use Rattle.image_truth_units.proofs.Changes.{change_rules}
use Rattle.image_truth_units.proofs.Fits.{AreFew, fit_rules, size_rules}
use Rattle.image_truth_units.proofs.Flow.{flow_rules}
use Rattle.image_truth_units.proofs.Functions.{function_rules}
use Rattle.image_truth_units.proofs.Given.{Given}
use Rattle.image_truth_units.proofs.Names.{name_rules, names_few}
use Rattle.image_truth_units.proofs.Places.{owner_rules, place_rules}
use Rattle.image_truth_units.proofs.Variables.{variable_rules}

pub tables_keep : (p : ProgramTree) (h : HomedForm) (e : EmittedForm) (rows : List PlaceRow) (m : Form) → Given p h e rows m → HasSpots p
    -- the graphs have the program's places and variables
    → HasOwnPlaces p h.unit → HasVariablesIn p h.unit → HasAllVariables p h.unit
    -- the unit's steps and assignments are the program's, in order, and an image can tell of the changes
    → ((s : FlowStep) → Contains h.unit.steps s ↔ Contains (steps_of_program p) s) → AreInOrder h.unit.steps
    → ((a : Assignment) → Contains h.unit.assignments a ↔ Contains (assignments_of_program p) a) → AllPairs IsAssignmentBefore h.unit.assignments → CanAllBeTold p h.unit.log
    -- numbers fit 32 bits, a row tells of each visible variable, and sections are not too long
    → AreFit m → map pair_of_row m.rows ≡ visible_from 1 (rows_of_program p) → AreFew m
    -- rows and nodes keep their rules
    → RowRules m → NodeRules m → IsImage m
tables_keep p h e rows m given spots places variables every steps steps_order assignments assignments_order told fits seen few row_rules node_rules = record {
  sizes = size_rules p h e rows m given spots few (subst (λ n. n ≤ most_told) (sym (ap length given.tables.changes ∙ length-map h.unit.log change_record)) told.few) (names_few p h e rows m given told.each) seen;
  fits = fit_rules p h e rows m given fits;
  functions = function_rules p h e rows m given;
  places = place_rules p h e rows m given places;
  owners = owner_rules p h e rows m given places;
  variables = variable_rules p h e rows m given variables every;
  changes = change_rules p h e rows m given told.each;
  flow = flow_rules p h e rows m given steps steps_order;
  assigned = assigned_rules p h e rows m given assignments assignments_order;
  rows = row_rules;
  calls = record { none = λ untold. given.tables.calls };
  members = record { none = λ untold. given.tables.members; structures = λ untold. given.tables.members };
  nodes = node_rules;
  names = name_rules p h e rows m given told.each;
}
