-- What rows of numbers say, and the numbers that say an image.
use Rattle.std.specs.Prelude.{ℕ, ◌-◌, ◌==◌, nat_lt, if◌then◌else◌, List, [], ◌∷◌, Option, Some, None, map, slice_index, slice_index_or}
use Rattle.debug_records.specs.declared.mode.Mode.{Mode}
use Rattle.debug_records.specs.declared.mode.Mode.TheVariants.{Slots, Registers}
use Rattle.image_form.specs.declared.recipes.Node.{Node}
use Rattle.image_form.specs.declared.recipes.Node.TheVariants as node
use Rattle.word_base.specs.declared.operation.Operation.{Operation}
use Rattle.word_base.specs.declared.operation.Operation.TheVariants.{Add, Sub, Mul, Div, Divu, Rem, Remu, Sll, Srl, Sra, And, Or, Xor, Slt, Sltu}
use Rattle.word_base.specs.declared.operation.Truncation.{Truncation}
use Rattle.word_base.specs.declared.operation.Truncation.TheVariants.{Unsigned8, Signed16, Unsigned16, Signed8}
use Rattle.image_form.specs.declared.tables.AssignedPair.{AssignedPair}
use Rattle.image_form.specs.declared.tables.Change.{Change}
use Rattle.image_form.specs.declared.tables.FlowPair.{FlowPair}
use Rattle.image_form.specs.declared.tables.Function.{Function}
use Rattle.debug_records.specs.declared.change.Kind.{Kind}
use Rattle.debug_records.specs.declared.change.Kind.TheVariants.{Removed, Moved, Reused, Replaced, Sunk}
use Rattle.image_form.specs.declared.tables.Place.{Place}
use Rattle.image_form.specs.declared.variables.ElementType.{ElementType}
use Rattle.image_form.specs.declared.variables.ElementType.TheVariants.{U8, I8, U16, I16, U32, I32, Pointer}
use Rattle.image_form.specs.declared.variables.Storage.{Storage}
use Rattle.image_form.specs.declared.variables.Storage.TheVariants.{Static, Frame, Register, Slot}
use Rattle.image_form.specs.declared.variables.Variable.{Variable}
use Rattle.image_form.specs.declared.verdicts.Verdict.{Verdict}
use Rattle.image_form.specs.declared.verdicts.Verdict.TheVariants.{Home, Recovered, Noncurrent, Nonresident}
use Rattle.image_form.specs.declared.verdicts.VisibleRow.{VisibleRow}
use Rattle.image_form.specs.declared.verdicts.CallRow.{CallRow}
use Rattle.image_form.specs.declared.members.Member.{Member}
use Rattle.image_form_sections.specs.Versions.{version_of, version_number}
use Rattle.image_form.specs.Form.{Form}
use Rattle.image_form.specs.Numbers.{mode_number, function_numbers, place_numbers, no_function, variable_numbers, change_numbers, flow_numbers, assigned_numbers, row_numbers, call_numbers, member_numbers, node_numbers}
use Rattle.image_form_sections.specs.Sections.{Sections}

-- The mode of a number.
abbrev pub mode_of : ℕ → Mode
mode_of n = if n == 0 then Slots else Registers

-- The function of its numbers; one that is not there is 0.
abbrev pub function_of_row : List ℕ → Function
function_of_row ns = record {
  name_length = slice_index ns 0;
  first = slice_index ns 1;
  end = slice_index ns 2;
  frame = slice_index ns 3;
  entry = slice_index ns 4;
  saved = slice_index ns 5;
}

-- The place of four numbers.
abbrev pub place_of : List ℕ → Place
place_of ns = record {
  position = slice_index ns 0;
  line = slice_index ns 1;
  function = slice_index ns 2;
  address = slice_index ns 3;
}

-- The number of a variable's function, if it has one.
abbrev pub owning_function : ℕ → Option ℕ
owning_function n = if n == no_function then None else Some n

-- The element type of a number; the greatest one stands for all above it.
abbrev pub element_type_of : ℕ → ElementType
element_type_of n = slice_index_or (U8 ∷ I8 ∷ U16 ∷ I16 ∷ U32 ∷ I32 ∷ []) n Pointer

-- The storage of its number and its value.
abbrev pub storage_of : ℕ → ℕ → Storage
storage_of n value = slice_index_or (Static value ∷ Frame value ∷ Register value ∷ []) n (Slot value)

-- The variable of eight numbers.
abbrev pub variable_of : List ℕ → Variable
variable_of ns = record {
  name_length = slice_index ns 0;
  function = owning_function (slice_index ns 1);
  position = slice_index ns 2;
  element = element_type_of (slice_index ns 3);
  storage = storage_of (slice_index ns 4) (slice_index ns 5);
  count = slice_index ns 6;
}

-- The kind of a change, of its number.
abbrev pub kind_of : ℕ → Kind
kind_of n = slice_index_or (Removed ∷ Moved ∷ Reused ∷ Replaced ∷ []) n Sunk

-- The change of five numbers.
abbrev pub change_of : List ℕ → Change
change_of ns = record {
  pass_length = slice_index ns 0;
  kind = kind_of (slice_index ns 1);
  place = slice_index ns 2;
  variable = slice_index ns 3;
}

-- The flow pair of two numbers.
abbrev pub flow_pair_of : List ℕ → FlowPair
flow_pair_of ns = record { from = slice_index ns 0; to = slice_index ns 1 }

-- The assigned pair of two numbers.
abbrev pub assigned_of : List ℕ → AssignedPair
assigned_of ns = record { place = slice_index ns 0; variable = slice_index ns 1 }

-- The address of a writer, if there is one.
abbrev pub writer_of : ℕ → Option ℕ
writer_of n = if n == 0 then None else Some n

-- The verdict of its number, the change, the node or start place, and the writer.
abbrev pub verdict_of : ℕ → ℕ → ℕ → ℕ → Verdict
verdict_of n change first second =
    slice_index_or (Home ∷ Recovered change first ∷ Noncurrent change first (writer_of second) ∷ []) n
    (Nonresident change first (writer_of second))

-- The place of a number, if there is one.
abbrev pub quiet_of : ℕ → Option ℕ
quiet_of n = if n == 0 then None else Some n

-- The visible row of its numbers; one that is not there is 0.
abbrev pub visible_row_of : List ℕ → VisibleRow
visible_row_of ns = record {
  place = slice_index ns 0;
  variable = slice_index ns 1;
  verdict = verdict_of (slice_index ns 2) (slice_index ns 3) (slice_index ns 4) (slice_index ns 5);
  quiet = quiet_of (slice_index ns 6);
}

-- The row of a call of seven numbers.
abbrev pub call_row_of : List ℕ → CallRow
call_row_of ns = record {
  address = slice_index ns 0;
  variable = slice_index ns 1;
  verdict = verdict_of (slice_index ns 2) (slice_index ns 3) (slice_index ns 4) (slice_index ns 5);
  path_form = slice_index ns 6;
}

-- The member of five numbers.
abbrev pub member_of : List ℕ → Member
member_of ns = record {
  structure = slice_index ns 0;
  name_length = slice_index ns 1;
  offset = slice_index ns 2;
  element = element_type_of (slice_index ns 3);
  count = slice_index ns 4;
}

-- The operation of a number, from 3 on; the greatest one stands for all above it.
abbrev pub operation_of : ℕ → Operation
operation_of n =
    slice_index_or (Add ∷ Sub ∷ Mul ∷ Div ∷ Divu ∷ Rem ∷ Remu ∷ Sll ∷ Srl ∷ Sra ∷ And ∷ Or ∷ Xor ∷ Slt ∷ []) (n - 3)
    Sltu

-- The truncation of a number, from 18 on; the greatest one stands for all above it.
abbrev pub truncation_of : ℕ → Truncation
truncation_of n = slice_index_or (Unsigned8 ∷ Signed16 ∷ Unsigned16 ∷ []) (n - 18) Signed8

-- The node that is computed from others, of its number and their numbers; a truncation has one.
abbrev pub computed_of : ℕ → ℕ → ℕ → Node
computed_of n first second =
    if nat_lt n 18 then node.Operated (operation_of n) first second else node.Truncated (truncation_of n) first

-- The node of three numbers.
abbrev pub node_of : List ℕ → Node
node_of ns =
    slice_index_or
    (node.Constant (slice_index ns 1) ∷ node.Variable (slice_index ns 1) ∷ node.Home (slice_index ns 1) ∷ [])
    (slice_index ns 0)
    (computed_of (slice_index ns 0) (slice_index ns 1) (slice_index ns 2))

-- The only number of a row.
abbrev pub only_number : List ℕ → ℕ
only_number ns = slice_index ns 0

-- The image that the sections say.
unfoldable pub form_of_sections : Sections → Form
form_of_sections s = record {
  version = version_of s.version;
  mode = mode_of s.mode;
  code = map only_number s.code;
  initial = s.initial;
  functions = map function_of_row s.functions;
  places = map place_of s.places;
  owners = map only_number s.owners;
  variables = map variable_of s.variables;
  changes = map change_of s.changes;
  flow = map flow_pair_of s.flow;
  assigned = map assigned_of s.assigned;
  rows = map visible_row_of s.rows;
  calls = map call_row_of s.calls;
  members = map member_of s.members;
  nodes = map node_of s.nodes;
  names = s.names;
}

-- The numbers of a word.
abbrev pub word_numbers : ℕ → List ℕ
word_numbers n = n ∷ []

-- The sections that say an image.
abbrev pub sections_of : Form → Sections
sections_of f = record {
  version = version_number f.version;
  mode = mode_number f.mode;
  code = map word_numbers f.code;
  initial = f.initial;
  functions = map (function_numbers f.version.level) f.functions;
  places = map place_numbers f.places;
  owners = map word_numbers f.owners;
  variables = map variable_numbers f.variables;
  changes = map change_numbers f.changes;
  flow = map flow_numbers f.flow;
  assigned = map assigned_numbers f.assigned;
  rows = map (row_numbers f.version.level) f.rows;
  calls = map call_numbers f.calls;
  members = map member_numbers f.members;
  nodes = map node_numbers f.nodes;
  names = f.names;
}
