-- Tests that every table needs: for each number of a row, whether it keeps its rule.
use Rattle.std.specs.Prelude.{ℕ, zero, suc, ◌+◌, ◌*◌, ◌%◌, Bool, ◌&&◌, ◌||◌, ◌==◌, nat_lt, nat_le, List, length}
use Rattle.image_form_sections.specs.Bounds.{first_code_address}
use Rattle.image_form_sections.specs.Sections.{Sections, cell}

-- a number lies between two others, or is one of them
abbrev pub within : ℕ → ℕ → ℕ → Bool
within low high n = nat_le low n && nat_le n high

-- The k-th number of the row before the i-th, or one given where there is none.
abbrev pub previous : List (List ℕ) → ℕ → ℕ → ℕ → ℕ
previous rows k none zero = none
previous rows k none (suc i) = cell rows i k

-- The k-th number of a row is above that of the row before.
unfoldable pub is_above : List (List ℕ) → ℕ → ℕ → Bool
is_above rows k i = i == 0 || nat_lt (previous rows k 0 i) (cell rows i k)

-- It is not below it.
unfoldable pub is_not_below : List (List ℕ) → ℕ → ℕ → Bool
is_not_below rows k i = nat_le (previous rows k 0 i) (cell rows i k)

-- The first two numbers of a row come behind those of the row before: by the first, then by the second.
unfoldable pub is_pair_above : List (List ℕ) → ℕ → Bool
is_pair_above rows i =
    i == 0 || nat_lt (previous rows 0 0 i) (cell rows i 0)
    || (previous rows 0 0 i == cell rows i 0 && nat_lt (previous rows 1 0 i) (cell rows i 1))

-- The number of a place.
unfoldable pub is_place : Sections → ℕ → Bool
is_place s n = within 1 (length s.places) n

-- The address of a code word.
unfoldable pub is_code_address : Sections → ℕ → Bool
is_code_address s address =
    address % 4 == 0 && nat_le first_code_address address && nat_lt address (first_code_address + 4 * length s.code)

-- The address lies in the k-th function.
unfoldable pub is_in_function : Sections → ℕ → ℕ → Bool
is_in_function s k address = nat_le (cell s.functions k 1) address && nat_lt address (cell s.functions k 2)
