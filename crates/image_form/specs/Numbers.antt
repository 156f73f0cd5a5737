-- The numbers that stand for each record, in the order of its fields.
use Rattle.std.specs.Prelude.{ℕ, Bool, List, [], ◌∷◌, unwrap_or, if◌then◌else◌}
use Rattle.debug_records.specs.declared.mode.Mode.{Mode}
use Rattle.debug_records.specs.declared.mode.Mode.TheVariants.{Slots, Registers}
use Rattle.image_form.specs.declared.recipes.Node.{Node}
use Rattle.image_form.specs.declared.recipes.Node.TheVariants as node
use Rattle.word_base.specs.declared.operation.Operation.{Operation}
use Rattle.word_base.specs.declared.operation.Operation.TheVariants.{Add, Sub, Mul, Div, Divu, Rem, Remu, Sll, Srl, Sra, And, Or, Xor, Slt, Sltu}
use Rattle.word_base.specs.declared.operation.Truncation.{Truncation}
use Rattle.word_base.specs.declared.operation.Truncation.TheVariants.{Unsigned8, Signed16, Unsigned16, Signed8}
use Rattle.image_form.specs.declared.tables.AssignedPair.{AssignedPair}
use Rattle.image_form.specs.declared.tables.Change.{Change}
use Rattle.image_form.specs.declared.tables.FlowPair.{FlowPair}
use Rattle.image_form.specs.declared.tables.Function.{Function}
use Rattle.debug_records.specs.declared.change.Kind.{Kind}
use Rattle.debug_records.specs.declared.change.Kind.TheVariants.{Removed, Moved, Reused, Replaced, Sunk}
use Rattle.image_form.specs.declared.tables.Place.{Place}
use Rattle.image_form.specs.declared.variables.ElementType.{ElementType}
use Rattle.image_form.specs.declared.variables.ElementType.TheVariants.{U8, I8, U16, I16, U32, I32, Pointer}
use Rattle.image_form.specs.declared.variables.Storage.{Storage}
use Rattle.image_form.specs.declared.variables.Storage.TheVariants.{Static, Frame, Register, Slot}
use Rattle.image_form.specs.declared.variables.Variable.{Variable}
use Rattle.image_form.specs.declared.verdicts.Verdict.{Verdict}
use Rattle.image_form.specs.declared.verdicts.Verdict.TheVariants.{Home, Recovered, Noncurrent, Nonresident}
use Rattle.image_form.specs.declared.verdicts.VisibleRow.{VisibleRow}
use Rattle.image_form.specs.declared.verdicts.CallRow.{CallRow}
use Rattle.image_form.specs.declared.members.Member.{Member}
use Rattle.image_form_sections.specs.declared.version.Level.{Level}
use Rattle.image_form_sections.specs.Versions.{has_quiet, has_callers}
pub use Rattle.image_form_sections.specs.Bounds.{no_function}

-- The number of a mode.
abbrev pub mode_number : Mode → ℕ
mode_number Slots = 0
mode_number Registers = 1

-- A last number, where a version has it.
abbrev pub last_if : Bool → ℕ → List ℕ
last_if has n = if has then n ∷ [] else []

-- The numbers of a function.
abbrev pub function_numbers : Level → Function → List ℕ
function_numbers level f = f.name_length ∷ f.first ∷ f.end ∷ f.frame ∷ f.entry ∷ last_if (has_callers level) f.saved

-- The numbers of a place.
abbrev pub place_numbers : Place → List ℕ
place_numbers p = p.position ∷ p.line ∷ p.function ∷ p.address ∷ []

-- The number of an element type.
abbrev pub element_number : ElementType → ℕ
element_number U8 = 0
element_number I8 = 1
element_number U16 = 2
element_number I16 = 3
element_number U32 = 4
element_number I32 = 5
element_number Pointer = 6

-- The number of a storage.
abbrev pub storage_number : Storage → ℕ
storage_number (Static address) = 0
storage_number (Frame offset) = 1
storage_number (Register number) = 2
storage_number (Slot offset) = 3

-- The number behind it: an address, an offset or a register.
abbrev pub storage_value : Storage → ℕ
storage_value (Static address) = address
storage_value (Frame offset) = offset
storage_value (Register number) = number
storage_value (Slot offset) = offset

-- The numbers of a variable.
abbrev pub variable_numbers : Variable → List ℕ
variable_numbers v =
    v.name_length ∷ unwrap_or v.function no_function ∷ v.position ∷ element_number v.element
    ∷ storage_number v.storage ∷ storage_value v.storage ∷ v.count ∷ 0 ∷ []

-- The number of a kind.
abbrev pub kind_number : Kind → ℕ
kind_number Removed = 0
kind_number Moved = 1
kind_number Reused = 2
kind_number Replaced = 3
kind_number Sunk = 4

-- The numbers of a change.
abbrev pub change_numbers : Change → List ℕ
change_numbers c = c.pass_length ∷ kind_number c.kind ∷ c.place ∷ c.variable ∷ 0 ∷ []

-- The numbers of a flow pair.
abbrev pub flow_numbers : FlowPair → List ℕ
flow_numbers p = p.from ∷ p.to ∷ []

-- The numbers of an assigned pair.
abbrev pub assigned_numbers : AssignedPair → List ℕ
assigned_numbers p = p.place ∷ p.variable ∷ []

-- The verdict, the change, the node or the start place, and the writer's address, 0 where there is none; then more
-- numbers.
abbrev pub verdict_then : Verdict → (more : List ℕ) → List ℕ
verdict_then Home more = 0 ∷ 0 ∷ 0 ∷ 0 ∷ more
verdict_then (Recovered change node) more = 1 ∷ change ∷ node ∷ 0 ∷ more
verdict_then (Noncurrent change start writer) more = 2 ∷ change ∷ start ∷ unwrap_or writer 0 ∷ more
verdict_then (Nonresident change start writer) more = 3 ∷ change ∷ start ∷ unwrap_or writer 0 ∷ more

-- The numbers of a verdict.
abbrev pub verdict_numbers : Verdict → List ℕ
verdict_numbers v = verdict_then v []

-- The numbers of a visible row.
abbrev pub row_numbers : Level → VisibleRow → List ℕ
row_numbers level r = r.place ∷ r.variable ∷ verdict_then r.verdict (last_if (has_quiet level) (unwrap_or r.quiet 0))

-- The numbers of the row of a call.
abbrev pub call_numbers : CallRow → List ℕ
call_numbers r = r.address ∷ r.variable ∷ verdict_then r.verdict (r.path_form ∷ [])

-- The numbers of a member.
abbrev pub member_numbers : Member → List ℕ
member_numbers m = m.structure ∷ m.name_length ∷ m.offset ∷ element_number m.element ∷ m.count ∷ []

-- The number of an operation.
abbrev pub operation_number : Operation → ℕ
operation_number Add = 3
operation_number Sub = 4
operation_number Mul = 5
operation_number Div = 6
operation_number Divu = 7
operation_number Rem = 8
operation_number Remu = 9
operation_number Sll = 10
operation_number Srl = 11
operation_number Sra = 12
operation_number And = 13
operation_number Or = 14
operation_number Xor = 15
operation_number Slt = 16
operation_number Sltu = 17

-- The number of a truncation.
abbrev pub truncation_number : Truncation → ℕ
truncation_number Unsigned8 = 18
truncation_number Signed16 = 19
truncation_number Unsigned16 = 20
truncation_number Signed8 = 21

-- The numbers of a node.
abbrev pub node_numbers : Node → List ℕ
node_numbers (node.Constant value) = 0 ∷ value ∷ 0 ∷ []
node_numbers (node.Variable variable) = 1 ∷ variable ∷ 0 ∷ []
node_numbers (node.Home home) = 2 ∷ home ∷ 0 ∷ []
node_numbers (node.Truncated truncation operand) = truncation_number truncation ∷ operand ∷ 0 ∷ []
node_numbers (node.Operated operation left right) = operation_number operation ∷ left ∷ right ∷ []
