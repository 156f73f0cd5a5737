-- What the tables of an image say of its program.
use Rattle.std.specs.Prelude.{◌≡◌, ◌↔◌, ℕ, List, ◌++◌, length, map}
use Rattle.std.specs.List.{Contains}
use Rattle.places.specs.declared.flow.Assignment.{Assignment}
use Rattle.places.specs.declared.flow.FlowStep.{FlowStep}
use Rattle.c_tree.specs.Programs.{ProgramTree}
use Rattle.c_flow.specs.Assigns.{assignments_of_program}
use Rattle.c_flow.specs.Flow.{steps_of_program}
use Rattle.c_flow.specs.Rows.{Row, rows_of_program}
use Rattle.graph_core.specs.Graphs.{UnitForm}
use Rattle.image_form.specs.Form.{Form}
use Rattle.image_form.specs.declared.tables.AssignedPair.{AssignedPair}
use Rattle.image_form.specs.declared.tables.FlowPair.{FlowPair}
use Rattle.image_build_tables.specs.Variables.{declared_names, entry, length_of_name, name_length, owner, owners_of, shape, shapes_of}
use Rattle.image_build_tables.specs.Tables.{Spot, assigned_pair, flow_pair, pair_of_row, spot}
pub use Rattle.image_truth_units.specs.Tables.{entry_number as entry_of, entry_place, visible_from}

-- A unit has a graph for each function of its program, that begins where the function does, and its steps and
-- assignments.
pub record HasShapeOf (p : ProgramTree) (u : UnitForm) : Type 0 where
  pub functions : length u.graphs ≡ length p.functions
  pub entries : map entry_place u.graphs ≡ map (entry_of p) p.functions
  pub steps : (s : FlowStep) → Contains u.steps s ↔ Contains (steps_of_program p) s
  pub assignments : (a : Assignment) → Contains u.assignments a ↔ Contains (assignments_of_program p) a

-- where the place of a row stands
abbrev pub spot_of : Row → Spot
spot_of r = record { position = r.position; line = r.line; function = r.function }

-- THE TABLES OF AN IMAGE ARE ITS PROGRAM'S. It has the program's functions and variables, with their names: each
-- function begins at its place, and each variable is declared at its position, in its function, of its elements and of
-- so many of them. Its places are the program's, in their order, each at its position, on its line, in its function;
-- execution goes from one place directly to another where that is a step of the program's flow, and a place assigns a
-- variable where the program's does; and a row tells of each variable that is visible at a place, place by place, and
-- of no other.
pub record HasTablesOf (p : ProgramTree) (m : Form) : Type 0 where
  pub functions : map name_length m.functions ≡ map length_of_name p.functions
  pub entries : map entry m.functions ≡ map (entry_of p) p.functions
  pub variables : map shape m.variables ≡ shapes_of p
  pub owners : map owner m.variables ≡ owners_of p
  pub names : (more : List ℕ) × (m.names ≡ declared_names p ++ more)
  pub places : map spot m.places ≡ map spot_of (rows_of_program p)
  pub flow : (s : FlowPair) → Contains m.flow s ↔ Contains (map flow_pair (steps_of_program p)) s
  pub assigned : (a : AssignedPair) → Contains m.assigned a ↔ Contains (map assigned_pair (assignments_of_program p)) a
  pub visible : map pair_of_row m.rows ≡ visible_from 1 (rows_of_program p)
