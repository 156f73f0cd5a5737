-- The sections of an image as numbers, before they are understood: a row of numbers for each record.
use Rattle.std.specs.Prelude.{ℕ, zero, suc, ◌+◌, ◌*◌, ◌/◌, if◌then◌else◌, List, [], ◌∷◌, length, take, drop, slice_index, slice_index_or}
use Rattle.std.specs.Int.{w32, from_le_bytes}
use Rattle.image_form_sections.specs.Order.{count_offset, is_told, record_size, section_start}
use Rattle.image_form_sections.specs.declared.section.Section.{Section}
use Rattle.image_form_sections.specs.declared.section.Section.TheVariants.{Code, Initial, Functions, Places, Owners, Variables, Changes, Flow, Assigned, Rows, Calls, Members, Nodes, Names}
use Rattle.image_form_sections.specs.declared.version.Version.{Version}
use Rattle.image_form_sections.specs.Versions.{version_of}

-- The number whose four bytes begin at a byte.
unfoldable pub number_at : List ℕ → ℕ → ℕ
number_at bytes at = from_le_bytes w32 (take 4 (drop at bytes))

-- So many numbers from a byte on.
abbrev pub numbers_at : ℕ → ℕ → List ℕ → List ℕ
numbers_at zero at bytes = []
numbers_at (suc n) at bytes = number_at bytes at ∷ numbers_at n (at + 4) bytes

-- So many rows from the first byte on, each of `width` numbers.
abbrev pub number_rows_at : ℕ → ℕ → List ℕ → List (List ℕ)
number_rows_at width zero bytes = []
number_rows_at width (suc n) bytes = numbers_at width 0 bytes ∷ number_rows_at width n (drop (4 * width) bytes)

-- The k-th number of the i-th row, 0 where there is none.
abbrev pub cell : List (List ℕ) → ℕ → ℕ → ℕ
cell rows i k = slice_index (slice_index_or rows i []) k

-- an image as it lies in its bytes: the header's numbers, and each section's records as bytes
pub record Sections : Type 0 where
  pub version : ℕ
  pub mode : ℕ
  pub code : List (List ℕ)
  pub initial : List ℕ
  pub functions : List (List ℕ)
  pub places : List (List ℕ)
  pub owners : List (List ℕ)
  pub variables : List (List ℕ)
  pub changes : List (List ℕ)
  pub flow : List (List ℕ)
  pub assigned : List (List ℕ)
  pub rows : List (List ℕ)
  pub calls : List (List ℕ)
  pub members : List (List ℕ)
  pub nodes : List (List ℕ)
  pub names : List ℕ

-- How many records each section has.
abbrev pub section_records : Sections → Section → ℕ
section_records s Code = length s.code
section_records s Initial = length s.initial
section_records s Functions = length s.functions
section_records s Places = length s.places
section_records s Owners = length s.owners
section_records s Variables = length s.variables
section_records s Changes = length s.changes
section_records s Flow = length s.flow
section_records s Assigned = length s.assigned
section_records s Rows = length s.rows
section_records s Calls = length s.calls
section_records s Members = length s.members
section_records s Nodes = length s.nodes
section_records s Names = length s.names

-- The version that the header says.
abbrev pub version_told : List ℕ → Version
version_told bytes = version_of (number_at bytes 4)

-- How many records the header says that a section has: none where it does not tell of the section.
abbrev pub count_told : List ℕ → Section → ℕ
count_told bytes which = if is_told (version_told bytes).level which then number_at bytes (count_offset which) else 0

-- The bytes from the first one of a section on.
abbrev pub bytes_from : List ℕ → Section → List ℕ
bytes_from bytes which = drop (section_start (version_told bytes).level (count_told bytes) which) bytes

-- The rows of a section, as many as the header says.
abbrev pub rows_of : List ℕ → Section → List (List ℕ)
rows_of bytes which =
    number_rows_at (record_size (version_told bytes).level which / 4) (count_told bytes which) (bytes_from bytes which)

-- The sections of bytes, by the counts of the header.
unfoldable pub sections_at : List ℕ → Sections
sections_at bytes = record {
  version = number_at bytes 4;
  mode = number_at bytes 12;
  code = rows_of bytes Code;
  initial = take (count_told bytes Initial) (bytes_from bytes Initial);
  functions = rows_of bytes Functions;
  places = rows_of bytes Places;
  owners = rows_of bytes Owners;
  variables = rows_of bytes Variables;
  changes = rows_of bytes Changes;
  flow = rows_of bytes Flow;
  assigned = rows_of bytes Assigned;
  rows = rows_of bytes Rows;
  calls = rows_of bytes Calls;
  members = rows_of bytes Members;
  nodes = rows_of bytes Nodes;
  names = bytes_from bytes Names;
}
