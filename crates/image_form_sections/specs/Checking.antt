-- How bytes are checked: the sections that they spell, or the first rule that they break.
use Rattle.std.specs.Prelude.{ℕ, ◌+◌, ◌%◌, ◌&&◌, ◌||◌, ◌==◌, Bool, nat_lt, nat_le, if◌then◌else◌, List, [], ◌∷◌, length, take, Result, Ok, Err, codes}
use Rattle.std.specs.Option.{option_map_or}
use Rattle.std.specs.Str.{bytes_eq}
use Rattle.memory_map.specs.Maps.{most_words, bytes_size}
use Rattle.debug_records.specs.declared.code.Code.{Code}
use Rattle.debug_records.specs.declared.code.TheConstants.Code.{HEADER_SIZE, MAGIC, VERSION, LENGTH, HEADER_NUMBERS, FUNCTIONS, PLACES, OWNERS, VARIABLES, CHANGES, PAIRS_AND_ROWS, NODES_AND_NAMES}
use Rattle.image_form_sections.specs.Breaches.{Fault, ◌>>=◌, Check, first_breach, first_broken, breach_in}
use Rattle.image_form_sections.specs.Order.{order, count_offset, record_size, sections_end, section_start}
use Rattle.image_form_sections.specs.Sections.{number_at, Sections, section_records, count_told, version_told, sections_at}
use Rattle.image_form_sections.specs.declared.section.Section.{Section}
use Rattle.image_form_sections.specs.declared.section.Section.TheVariants as section
use Rattle.image_form_sections.specs.TestsOfChanges.{change_tests, flow_tests, assigned_tests, row_tests}
use Rattle.image_form_sections.specs.TestsOfCode.{function_tests, place_tests, owner_tests}
use Rattle.image_form_sections.specs.TestsOfNames.{name_tests, first_misfit}
use Rattle.image_form_sections.specs.TestsOfNodes.{node_tests}
use Rattle.image_form_sections.specs.TestsOfVariables.{variable_tests}
use Rattle.image_form_sections.specs.Versions.{is_read, level_of, has_callers, has_structures, header_size}

-- The number of bytes that the counts of a header ask for.
unfoldable pub size_told : List ℕ → ℕ
size_told bytes = sections_end (version_told bytes).level (count_told bytes) order

-- The rules of the numbers that stand behind byte 64 of a header. Members stand only where structures may.
abbrev pub long_checks : List ℕ → List Check
long_checks bytes =
    record {
      code = HEADER_NUMBERS;
      at = count_offset section.Members;
      kept = has_structures || count_told bytes section.Members == 0;
    }
    ∷ record { code = HEADER_NUMBERS; at = 72; kept = number_at bytes 72 == 0 }
    ∷ record { code = HEADER_NUMBERS; at = 76; kept = number_at bytes 76 == 0 }
    ∷ []

-- The rules of the mode and the counts.
abbrev pub count_checks : List ℕ → List Check
count_checks bytes =
    record { code = HEADER_NUMBERS; at = 12; kept = nat_le (number_at bytes 12) 1 }
    ∷ record {
      code = HEADER_NUMBERS;
      at = count_offset section.Code;
      kept = nat_le (count_told bytes section.Code) (most_words (version_told bytes).map);
    }
    ∷ record {
      code = HEADER_NUMBERS;
      at = count_offset section.Initial;
      kept = nat_le (count_told bytes section.Initial) bytes_size && count_told bytes section.Initial % 4 == 0;
    }
    ∷ record {
      code = HEADER_NUMBERS;
      at = count_offset section.Functions;
      kept = nat_le 1 (count_told bytes section.Functions);
    }
    ∷ record {
      code = HEADER_NUMBERS;
      at = count_offset section.Places;
      kept = nat_le 1 (count_told bytes section.Places);
    }
    ∷ record {
      code = HEADER_NUMBERS;
      at = count_offset section.Rows;
      kept = nat_le (count_told bytes section.Rows) 1000000;
    }
    ∷ record { code = HEADER_NUMBERS; at = 60; kept = number_at bytes 60 == 0 }
    ∷ (if has_callers (version_told bytes).level then long_checks bytes else [])

-- The rules of the header, of at least 64 bytes.
abbrev pub header_checks : List ℕ → List Check
header_checks bytes =
    record { code = MAGIC; at = 0; kept = bytes_eq (codes "CDBG") (take 4 bytes) }
    ∷ record { code = VERSION; at = 4; kept = is_read (number_at bytes 4) }
    ∷ record {
      code = HEADER_SIZE;
      at = length bytes;
      kept = nat_le (header_size (version_told bytes).level) (length bytes);
    }
    ∷ record { code = LENGTH; at = 8; kept = number_at bytes 8 == length bytes && size_told bytes == length bytes }
    ∷ count_checks bytes

-- The breach of a section, at the first of its rows with a test that fails.
abbrev pub breach_of : Code → Sections → Section → (ℕ → List Bool) → Result (Unit {0}) Fault
breach_of code s which tests =
    breach_in code (section_start (level_of s.version) (section_records s) which)
    (record_size (level_of s.version) which)
    (first_broken tests (section_records s which) 0)

-- The first breach of functions, places, owners, variables and changes.
unfoldable pub breach_of_program : Sections → Result (Unit {0}) Fault
breach_of_program s =
    breach_of FUNCTIONS s section.Functions (function_tests s) >>= λ _.
    breach_of PLACES s section.Places (place_tests s) >>= λ _.
    breach_of OWNERS s section.Owners (owner_tests s) >>= λ _.
    breach_of VARIABLES s section.Variables (variable_tests s) >>= λ _.
    breach_of CHANGES s section.Changes (change_tests s)

-- The first breach of pairs, visible rows, nodes and names.
unfoldable pub breach_of_tables : Sections → Result (Unit {0}) Fault
breach_of_tables s =
    breach_of PAIRS_AND_ROWS s section.Flow (flow_tests s) >>= λ _.
    breach_of PAIRS_AND_ROWS s section.Assigned (assigned_tests s) >>= λ _.
    breach_of PAIRS_AND_ROWS s section.Rows (row_tests s) >>= λ _.
    breach_of NODES_AND_NAMES s section.Nodes (node_tests s) >>= λ _.
    option_map_or (λ k. Err (NODES_AND_NAMES, section_start (level_of s.version) (section_records s) section.Names + k))
    (first_misfit (name_tests s) s.names) (Ok tt)

-- The sections of bytes, or their first breach in the order of the file.
unfoldable pub checked_of : List ℕ → Result Sections Fault
checked_of bytes =
    if nat_lt (length bytes) 64 then Err (HEADER_SIZE, length bytes)
    else first_breach (header_checks bytes) >>= λ _. breach_of_program (sections_at bytes) >>= λ _.
    breach_of_tables (sections_at bytes) >>= λ _. Ok (sections_at bytes)
