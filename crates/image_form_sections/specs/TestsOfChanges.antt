-- The tests of changes, of the pairs of flow and assignments, and of visible rows.
use Rattle.std.specs.List.{list_any}
use Rattle.std.specs.Prelude.{ℕ, ◌+◌, ◌*◌, ◌-◌, Bool, not, ◌&&◌, ◌||◌, ◌==◌, nat_lt, nat_le, if◌then◌else◌, List, [], ◌∷◌, length, slice_index}
use Rattle.image_form_sections.specs.Sections.{Sections, cell}
use Rattle.image_form_sections.specs.Versions.{has_quiet, level_of}
use Rattle.image_form_sections.specs.TestsOfTables.{within, is_not_below, is_pair_above, is_place, is_code_address}

-- The number is that of a kind. That an assignment sank is said in versions with quiet paths alone.
unfoldable pub is_kind : Sections → ℕ → Bool
is_kind s n = nat_le n 3 || n == 4 && has_quiet (level_of s.version)

-- By a change of the kind of this number an assignment went from its place: it was removed, or it sank.
abbrev pub is_taking : ℕ → Bool
is_taking n = n == 0 || n == 4

-- The pass name's length, the kind, the place, the variable and the zero of the i-th change.
abbrev pub change_tests : Sections → ℕ → List Bool
change_tests s i =
    within 1 16 (cell s.changes i 0) ∷ is_kind s (cell s.changes i 1) ∷ is_place s (cell s.changes i 2)
    ∷ nat_lt (cell s.changes i 3) (length s.variables) ∷ (cell s.changes i 4 == 0) ∷ []

-- The two places of the i-th flow pair.
abbrev pub flow_tests : Sections → ℕ → List Bool
flow_tests s i =
    (is_place s (cell s.flow i 0) && is_not_below s.flow 0 i) ∷ (is_place s (cell s.flow i 1) && is_pair_above s.flow i)
    ∷ []

-- The place and the variable of the i-th assigned pair.
abbrev pub assigned_tests : Sections → ℕ → List Bool
assigned_tests s i =
    (is_place s (cell s.assigned i 0) && is_not_below s.assigned 0 i)
    ∷ (nat_lt (cell s.assigned i 1) (length s.variables) && is_pair_above s.assigned i) ∷ []

-- The variable of the i-th visible row: one of the place's function.
unfoldable pub is_visible : Sections → ℕ → Bool
is_visible s i =
    nat_lt (cell s.rows i 1) (length s.variables)
    && cell s.variables (cell s.rows i 1) 1 == cell s.places (cell s.rows i 0 - 1) 2 && is_pair_above s.rows i

-- The change: 0 where the home is shown, else one of the row's variable.
unfoldable pub is_change : Sections → ℕ → Bool
is_change s i =
    if cell s.rows i 2 == 0 then cell s.rows i 3 == 0
    else (within 1 (length s.changes) (cell s.rows i 3) && cell s.changes (cell s.rows i 3 - 1) 3 == cell s.rows i 1)

-- The number behind the change: 0, a node or a start place, by the verdict.
unfoldable pub is_node_or_start : Sections → ℕ → Bool
is_node_or_start s i =
    if cell s.rows i 2 == 0 then cell s.rows i 4 == 0
    else (if cell s.rows i 2 == 1 then nat_lt (cell s.rows i 4) (length s.nodes) else is_place s (cell s.rows i 4))

-- The writer: 0 where there is none, else the address of a code word.
unfoldable pub is_writer : Sections → ℕ → Bool
is_writer s i =
    if nat_lt (cell s.rows i 2) 2 then cell s.rows i 5 == 0
    else
    (if is_taking (cell s.changes (cell s.rows i 3 - 1) 1) then cell s.rows i 5 == 0
    else is_code_address s (cell s.rows i 5))

-- A place and a variable as one number.
unfoldable pub pair_key : (place variable : ℕ) → ℕ
pair_key place variable = place * 4294967296 + variable

-- A change took an assignment of a variable from a place.
abbrev pub is_taken_from : Sections → (place variable : ℕ) → Bool
is_taken_from s place variable =
    list_any
    (λ change. is_taking (slice_index change 1) && slice_index change 2 == place && slice_index change 3 == variable)
    s.changes

-- A place assigns a variable, and no change took that assignment.
unfoldable pub is_quiet_place : Sections → (place variable : ℕ) → Bool
is_quiet_place s place variable =
    list_any (λ pair. slice_index pair 0 == place && slice_index pair 1 == variable) s.assigned
    && not (is_taken_from s place variable)

-- The place at which a quiet path begins: 0 where there is none, and where a value is shown.
unfoldable pub is_quiet_start : Sections → ℕ → Bool
is_quiet_start s i =
    cell s.rows i 6 == 0 || (nat_le 2 (cell s.rows i 2) && is_quiet_place s (cell s.rows i 6) (cell s.rows i 1))

-- The place, the variable, the verdict, the change, the node or start place, the writer and the quiet path's begin of
-- the i-th visible row.
abbrev pub row_tests : Sections → ℕ → List Bool
row_tests s i =
    (is_place s (cell s.rows i 0) && is_not_below s.rows 0 i) ∷ is_visible s i ∷ nat_le (cell s.rows i 2) 3
    ∷ is_change s i
    ∷ is_node_or_start s i ∷ is_writer s i ∷ is_quiet_start s i ∷ []
