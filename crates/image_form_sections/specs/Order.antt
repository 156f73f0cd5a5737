-- The table of the sections: in which order they stand, how many bytes a record of each has, and where the header says
-- how many records there are.
use Rattle.std.specs.Prelude.{ℕ, ◌+◌, ◌*◌, ◌||◌, Bool, true, false, if◌then◌else◌, List, [], ◌∷◌, take, sum_by}
use Rattle.image_form_sections.specs.declared.section.Section.{Section}
use Rattle.image_form_sections.specs.declared.section.Section.TheVariants.{Code, Initial, Functions, Places, Owners, Variables, Changes, Flow, Assigned, Rows, Calls, Members, Nodes, Names}
use Rattle.image_form_sections.specs.declared.version.Level.{Level}
use Rattle.image_form_sections.specs.Versions.{has_quiet, has_callers, header_size}

-- The sections in the order of the file.
abbrev pub order : List Section
order =
    Code ∷ Initial ∷ Functions ∷ Places ∷ Owners ∷ Variables ∷ Changes ∷ Flow ∷ Assigned ∷ Rows ∷ Calls ∷ Members
    ∷ Nodes
    ∷ Names ∷ []

-- How many sections stand before one.
abbrev pub section_number : Section → ℕ
section_number Code = 0
section_number Initial = 1
section_number Functions = 2
section_number Places = 3
section_number Owners = 4
section_number Variables = 5
section_number Changes = 6
section_number Flow = 7
section_number Assigned = 8
section_number Rows = 9
section_number Calls = 10
section_number Members = 11
section_number Nodes = 12
section_number Names = 13

-- How many bytes a record has, in a version of this level.
abbrev pub record_size : Level → Section → ℕ
record_size level Code = 4
record_size level Initial = 1
record_size level Functions = if has_callers level then 24 else 20
record_size level Places = 16
record_size level Owners = 4
record_size level Variables = 32
record_size level Changes = 20
record_size level Flow = 8
record_size level Assigned = 8
record_size level Rows = if has_quiet level then 28 else 24
record_size level Calls = 28
record_size level Members = 20
record_size level Nodes = 12
record_size level Names = 1

-- The byte of the header at which the number of records stands. A code word has one owner, so both have one count.
abbrev pub count_offset : Section → ℕ
count_offset Code = 16
count_offset Initial = 20
count_offset Functions = 24
count_offset Places = 28
count_offset Owners = 16
count_offset Variables = 32
count_offset Changes = 36
count_offset Flow = 40
count_offset Assigned = 44
count_offset Rows = 48
count_offset Calls = 64
count_offset Members = 68
count_offset Nodes = 52
count_offset Names = 56

-- The header of each version tells of the section.
abbrev pub is_always : Section → Bool
is_always Code = true
is_always Initial = true
is_always Functions = true
is_always Places = true
is_always Owners = true
is_always Variables = true
is_always Changes = true
is_always Flow = true
is_always Assigned = true
is_always Rows = true
is_always Calls = false
is_always Members = false
is_always Nodes = true
is_always Names = true

-- The header of a version of this level tells of the section.
abbrev pub is_told : Level → Section → Bool
is_told level section = is_always section || has_callers level

-- The byte behind the header and sections of so many records each.
abbrev pub sections_end : Level → (Section → ℕ) → List Section → ℕ
sections_end level count sections = header_size level + sum_by (λ s. record_size level s * count s) sections

-- The byte at which a section begins: behind the header and the sections before it.
abbrev pub section_start : Level → (Section → ℕ) → Section → ℕ
section_start level count section = sections_end level count (take (section_number section) order)
