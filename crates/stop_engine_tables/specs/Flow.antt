-- Where execution may go by an image, and what is assigned.
use Rattle.std.specs.Prelude.{◌≡◌, map}
use Rattle.image_form.specs.Form.{Form}
use Rattle.places.specs.declared.flow.FlowTable.{FlowTable}
use Rattle.stop_engine_view.specs.Evidence.{assignment_of, step_of}

-- The table has the steps and the assignments of the image.
pub record IsFlowOf (m : Form) (table : FlowTable) : Type 0 where
  pub steps : table.steps.items ≡ map step_of m.flow
  pub assignments : table.assignments.items ≡ map assignment_of m.assigned
