-- The tests of variables.
use Rattle.std.specs.Prelude.{ℕ, zero, suc, ◌+◌, ◌%◌, Bool, not, ◌&&◌, ◌||◌, ◌==◌, nat_lt, nat_le, if◌then◌else◌, List, [], ◌∷◌, length}
use Rattle.image_form_sections.specs.Bounds.{no_function}
use Rattle.image_form_sections.specs.Bounds.{first_static_address, static_size}
use Rattle.image_form_sections.specs.Sections.{Sections, cell}
use Rattle.image_form_sections.specs.Versions.{map_of}
use Rattle.image_form_sections.specs.TestsOfTables.{within, is_above}

-- The i-th variable belongs to no function.
abbrev pub is_static : Sections → ℕ → Bool
is_static s i = cell s.variables i 1 == no_function

-- Its group: 0 named static, 1 a literal, 2 of a function.
unfoldable pub group_at : Sections → ℕ → ℕ
group_at s i = if is_static s i then (if cell s.variables i 0 == 0 then 1 else 0) else 2

-- The group of the variable before it.
abbrev pub group_before : Sections → ℕ → ℕ
group_before s zero = 0
group_before s (suc i) = group_at s i

-- The name's length: 0 only where a literal may stand.
unfoldable pub is_name_length : Sections → ℕ → Bool
is_name_length s i = nat_le (cell s.variables i 0) 63 && not (cell s.variables i 0 == 0 && group_before s i == 2)

-- The function: one that is there, or none for the groups that stand first.
unfoldable pub is_function : Sections → ℕ → Bool
is_function s i =
    if is_static s i then nat_le (group_before s i) (group_at s i)
    else (nat_le 1 (cell s.variables i 0) && nat_lt (cell s.variables i 1) (length s.functions))

-- The position: above that of the variable before it in its group.
unfoldable pub is_position : Sections → ℕ → Bool
is_position s i = not (group_before s i == group_at s i) || is_above s.variables 2 i

-- The storage: 0 exactly for static ones.
unfoldable pub is_storage : Sections → ℕ → Bool
is_storage s i = if is_static s i then cell s.variables i 4 == 0 else within 1 3 (cell s.variables i 4)

-- one of the registers s1 to s11 and t3 to t6, which can be homes
unfoldable pub is_home_register : ℕ → Bool
is_home_register r = r == 9 || within 18 31 r

-- An address of static memory, in the map of the version.
unfoldable pub is_static_address : Sections → ℕ → Bool
is_static_address s address =
    nat_le (first_static_address (map_of s.version)) address
    && nat_lt address (first_static_address (map_of s.version) + static_size)

-- The storage's value: an address, a register of homes, or an offset in the function's frame.
unfoldable pub is_value : Sections → ℕ → Bool
is_value s i =
    if cell s.variables i 4 == 0 then is_static_address s (cell s.variables i 5)
    else (if cell s.variables i 4 == 2 then is_home_register (cell s.variables i 5)
    else (cell s.variables i 5 % 4 == 0 && nat_lt (cell s.variables i 5) (cell s.functions (cell s.variables i 1) 3)))

-- The count: 0 for a home.
unfoldable pub is_count : Sections → ℕ → Bool
is_count s i = nat_lt (cell s.variables i 4) 2 || cell s.variables i 6 == 0

-- The name's length, the function, the position, the element type, the storage, its value, the count and the zero of
-- the i-th variable.
abbrev pub variable_tests : Sections → ℕ → List Bool
variable_tests s i =
    is_name_length s i ∷ is_function s i ∷ is_position s i ∷ nat_le (cell s.variables i 3) 6 ∷ is_storage s i
    ∷ is_value s i
    ∷ is_count s i ∷ (cell s.variables i 7 == 0) ∷ []
