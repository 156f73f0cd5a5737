-- What an image says of tables that were written and read back.
use Rattle.std.specs.Prelude.{◌≡◌, map}
use Rattle.image_form.specs.Form.{Form}
use Rattle.image_form.specs.Numbers.{call_numbers, function_numbers, member_numbers, row_numbers, variable_numbers}

-- The image says what the tables say: it is of the same version, and its homes are of the same kind; its words, initial
-- bytes, places, owners, changes, flow, assigned pairs, nodes and names are theirs, and so are the numbers that stand
-- for its functions, its variables, its visible rows, its rows of calls and its members.
pub record SaysTheSame (tables image : Form) : Type 0 where
  pub version : image.version ≡ tables.version
  pub mode : image.mode ≡ tables.mode
  pub code : image.code ≡ tables.code
  pub initial : image.initial ≡ tables.initial
  pub functions : map (function_numbers tables.version.level) image.functions
      ≡ map (function_numbers tables.version.level) tables.functions
  pub places : image.places ≡ tables.places
  pub owners : image.owners ≡ tables.owners
  pub variables : map variable_numbers image.variables ≡ map variable_numbers tables.variables
  pub changes : image.changes ≡ tables.changes
  pub flow : image.flow ≡ tables.flow
  pub assigned : image.assigned ≡ tables.assigned
  pub rows : map (row_numbers tables.version.level) image.rows ≡ map (row_numbers tables.version.level) tables.rows
  pub calls : map call_numbers image.calls ≡ map call_numbers tables.calls
  pub members : map member_numbers image.members ≡ map member_numbers tables.members
  pub nodes : image.nodes ≡ tables.nodes
  pub names : image.names ≡ tables.names
