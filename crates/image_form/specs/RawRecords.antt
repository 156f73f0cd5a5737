-- Headers and records as the numbers that they are spelled by, in their order.
use Rattle.std.specs.Prelude.{ℕ, if◌then◌else◌, List, [], ◌∷◌}
use Rattle.image_form.specs.declared.numbers.ChangeRecord.{ChangeRecord}
use Rattle.image_form.specs.declared.numbers.FunctionRecord.{FunctionRecord}
use Rattle.image_form.specs.declared.numbers.Header.{Header}
use Rattle.image_form.specs.declared.numbers.NodeRecord.{NodeRecord}
use Rattle.image_form.specs.declared.numbers.PlaceRecord.{PlaceRecord}
use Rattle.image_form.specs.declared.numbers.RowRecord.{RowRecord}
use Rattle.image_form.specs.declared.numbers.VariableRecord.{VariableRecord}
use Rattle.image_form.specs.declared.numbers.CallRecord.{CallRecord}
use Rattle.image_form.specs.declared.numbers.MemberRecord.{MemberRecord}
use Rattle.image_form.specs.Numbers.{last_if}
use Rattle.image_form_sections.specs.declared.version.Level.{Level}
use Rattle.image_form_sections.specs.Versions.{has_quiet, has_callers}

-- The numbers of a header behind its first four bytes.
abbrev pub header_numbers : Level → Header → List ℕ
header_numbers level h =
    h.version ∷ h.length ∷ h.mode ∷ h.code ∷ h.initial ∷ h.functions ∷ h.places ∷ h.variables ∷ h.changes ∷ h.flow
    ∷ h.assigned ∷ h.rows ∷ h.nodes ∷ h.names ∷ h.zero
    ∷ (if has_callers level then h.calls ∷ h.members ∷ h.zero ∷ h.zero ∷ [] else [])

-- The numbers of a function's record.
abbrev pub numbers_of_function : Level → FunctionRecord → List ℕ
numbers_of_function level r =
    r.name_length ∷ r.first ∷ r.end ∷ r.frame ∷ r.entry ∷ last_if (has_callers level) r.saved

-- The numbers of a place's record.
abbrev pub numbers_of_place : PlaceRecord → List ℕ
numbers_of_place r = r.position ∷ r.line ∷ r.function ∷ r.address ∷ []

-- The numbers of a variable's record.
abbrev pub numbers_of_variable : VariableRecord → List ℕ
numbers_of_variable r =
    r.name_length ∷ r.function ∷ r.position ∷ r.element ∷ r.storage ∷ r.value ∷ r.count ∷ r.zero ∷ []

-- The numbers of a change's record.
abbrev pub numbers_of_change : ChangeRecord → List ℕ
numbers_of_change r = r.pass_length ∷ r.kind ∷ r.place ∷ r.variable ∷ r.zero ∷ []

-- The numbers of a visible row's record.
abbrev pub numbers_of_row : Level → RowRecord → List ℕ
numbers_of_row level r =
    r.place ∷ r.variable ∷ r.verdict ∷ r.change ∷ r.a ∷ r.b ∷ last_if (has_quiet level) r.c

-- The numbers of the record of a call's row.
abbrev pub numbers_of_call : CallRecord → List ℕ
numbers_of_call r = r.address ∷ r.variable ∷ r.verdict ∷ r.change ∷ r.a ∷ r.b ∷ r.d ∷ []

-- The numbers of a member's record.
abbrev pub numbers_of_member : MemberRecord → List ℕ
numbers_of_member r = r.structure ∷ r.name_length ∷ r.offset ∷ r.element ∷ r.count ∷ []

-- The numbers of a node's record.
abbrev pub numbers_of_node : NodeRecord → List ℕ
numbers_of_node r = r.op ∷ r.a ∷ r.b ∷ []
