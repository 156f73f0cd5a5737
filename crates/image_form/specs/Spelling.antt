-- The bytes of an image: a header of 64 bytes, or of 80 where its version has rows of calls, then the sections in their
-- order, without gaps. Each number is four bytes, the lowest first.
use Rattle.std.specs.Prelude.{ℕ, if◌then◌else◌, List, [], ◌∷◌, ◌++◌, length, codes}
use Rattle.std.specs.List.{flat_map}
use Rattle.byteorder.specs.Endian.{little_bytes}
use Rattle.image_form.specs.Form.{Form}
use Rattle.image_form_sections.specs.Order.{order, sections_end}
use Rattle.image_form_sections.specs.declared.section.Section.{Section}
use Rattle.image_form_sections.specs.declared.section.Section.TheVariants.{Code, Initial, Functions, Places, Owners, Variables, Changes, Flow, Assigned, Rows, Calls, Members, Nodes, Names}
use Rattle.image_form.specs.Numbers.{mode_number, function_numbers, place_numbers, variable_numbers, change_numbers, flow_numbers, assigned_numbers, row_numbers, call_numbers, member_numbers, node_numbers}
use Rattle.image_form_sections.specs.Versions.{version_number, has_callers}

-- The bytes of numbers, one after the other.
abbrev pub spelled : List ℕ → List ℕ
spelled numbers = flat_map (little_bytes 4) numbers

-- The bytes of records, by the numbers of each.
abbrev pub section : {A : Type 0} → (A → List ℕ) → List A → List ℕ
section numbers records = flat_map (λ r. spelled (numbers r)) records

-- How many records each section has.
abbrev pub record_count : Form → Section → ℕ
record_count f Code = length f.code
record_count f Initial = length f.initial
record_count f Functions = length f.functions
record_count f Places = length f.places
record_count f Owners = length f.owners
record_count f Variables = length f.variables
record_count f Changes = length f.changes
record_count f Flow = length f.flow
record_count f Assigned = length f.assigned
record_count f Rows = length f.rows
record_count f Calls = length f.calls
record_count f Members = length f.members
record_count f Nodes = length f.nodes
record_count f Names = length f.names

-- How many bytes an image has.
unfoldable pub size : Form → ℕ
size f = sections_end f.version.level (record_count f) order

-- The numbers of the header behind its first four bytes, as far as each version has them: the version, the size, the
-- mode, how many records each section has.
abbrev pub short_header : Form → List ℕ
short_header f =
    version_number f.version ∷ size f ∷ mode_number f.mode ∷ length f.code ∷ length f.initial ∷ length f.functions
    ∷ length f.places ∷ length f.variables ∷ length f.changes ∷ length f.flow ∷ length f.assigned ∷ length f.rows
    ∷ length f.nodes ∷ length f.names ∷ 0 ∷ []

-- Those that only some versions have: how many rows of calls and how many members.
abbrev pub long_header : Form → List ℕ
long_header f = if has_callers f.version.level then length f.calls ∷ length f.members ∷ 0 ∷ 0 ∷ [] else []

-- The numbers of the header behind its first four bytes.
abbrev pub header : Form → List ℕ
header f = short_header f ++ long_header f

-- The bytes of each section.
abbrev pub section_bytes : Form → Section → List ℕ
section_bytes f Code = spelled f.code
section_bytes f Initial = f.initial
section_bytes f Functions = section (function_numbers f.version.level) f.functions
section_bytes f Places = section place_numbers f.places
section_bytes f Owners = spelled f.owners
section_bytes f Variables = section variable_numbers f.variables
section_bytes f Changes = section change_numbers f.changes
section_bytes f Flow = section flow_numbers f.flow
section_bytes f Assigned = section assigned_numbers f.assigned
section_bytes f Rows = section (row_numbers f.version.level) f.rows
section_bytes f Calls = section call_numbers f.calls
section_bytes f Members = section member_numbers f.members
section_bytes f Nodes = section node_numbers f.nodes
section_bytes f Names = f.names

-- The sections, in the order of the file.
abbrev pub body : Form → List ℕ
body f = flat_map (section_bytes f) order

-- The bytes of an image, which begin with CDBG.
unfoldable pub spelling : Form → List ℕ
spelling f = codes "CDBG" ++ (spelled (header f) ++ body f)
