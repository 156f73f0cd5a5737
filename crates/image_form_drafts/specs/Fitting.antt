-- Numbers of tables that fit 32 bits.
use Rattle.image_form.specs.Form.{Form}
use Rattle.image_form.specs.Numbers.{assigned_numbers, call_numbers, change_numbers, flow_numbers, function_numbers, member_numbers, node_numbers, place_numbers, row_numbers, variable_numbers}
use Rattle.image_form.specs.Rules.{AllFit, RecordsFit}

-- The words and owners of code, and the numbers that stand for functions, places, variables, changes, steps, assigned
-- pairs, visible rows, rows of calls, members and nodes fit 32 bits.
pub record AreFit (f : Form) : Type 0 where
  pub code : AllFit f.code
  pub functions : RecordsFit (function_numbers f.version.level) f.functions
  pub places : RecordsFit place_numbers f.places
  pub owners : AllFit f.owners
  pub variables : RecordsFit variable_numbers f.variables
  pub changes : RecordsFit change_numbers f.changes
  pub flow : RecordsFit flow_numbers f.flow
  pub assigned : RecordsFit assigned_numbers f.assigned
  pub rows : RecordsFit (row_numbers f.version.level) f.rows
  pub calls : RecordsFit call_numbers f.calls
  pub members : RecordsFit member_numbers f.members
  pub nodes : RecordsFit node_numbers f.nodes
