-- The tests of functions, places and owners.
use Rattle.std.specs.Prelude.{ℕ, ◌+◌, ◌-◌, ◌*◌, ◌%◌, Bool, true, false, ◌&&◌, ◌||◌, ◌==◌, nat_lt, nat_le, List, [], ◌∷◌, slice_index, length}
use Rattle.std.specs.List.{position_from}
use Rattle.std.specs.Option.{option_map_or}
use Rattle.image_form_sections.specs.Bounds.{first_code_address}
use Rattle.image_form_sections.specs.Bounds.{word_address}
use Rattle.image_form_sections.specs.Masks.{masked, mask_of}
use Rattle.image_form_sections.specs.Sections.{Sections, cell}
use Rattle.image_form_sections.specs.TestsOfTables.{within, previous, is_above, is_not_below, is_place, is_code_address, is_in_function}

-- The first address: of a code word, not before the end of the function before.
unfoldable pub is_first : Sections → ℕ → Bool
is_first s i = is_code_address s (cell s.functions i 1) && nat_le (previous s.functions 2 0 i) (cell s.functions i 1)

-- The end address: behind the first, no further than the code.
unfoldable pub is_end : Sections → ℕ → Bool
is_end s i =
    cell s.functions i 2 % 4 == 0 && nat_lt (cell s.functions i 1) (cell s.functions i 2)
    && nat_le (cell s.functions i 2) (first_code_address + 4 * length s.code)

-- the size of a frame: a multiple of 16 from 16 to 16,384
unfoldable pub is_frame : ℕ → Bool
is_frame size = size % 16 == 0 && within 16 16384 size

-- A mask of registers that keep scalars alone.
unfoldable pub is_mask : ℕ → Bool
is_mask mask = mask == mask_of (masked mask)

-- The name's length, the first address, the end address, the frame size, the entry place and the saved registers of the
-- i-th function.
abbrev pub function_tests : Sections → ℕ → List Bool
function_tests s i =
    within 1 63 (cell s.functions i 0) ∷ is_first s i ∷ is_end s i ∷ is_frame (cell s.functions i 3)
    ∷ (is_place s (cell s.functions i 4) && is_above s.functions 4 i) ∷ is_mask (cell s.functions i 5) ∷ []

-- The first place with that address is the i-th.
unfoldable pub is_first_place : Sections → ℕ → ℕ → Bool
is_first_place s i address =
    option_map_or (λ j. j == i) (position_from (λ p. slice_index p 3 == address) 0 s.places) false

-- The address of the i-th place: a multiple of 4 within its function, no earlier place's.
unfoldable pub is_place_address : Sections → ℕ → Bool
is_place_address s i =
    cell s.places i 3 % 4 == 0 && is_in_function s (cell s.places i 2) (cell s.places i 3)
    && is_first_place s i (cell s.places i 3)

-- The position, the line, the function and the address of the i-th place.
abbrev pub place_tests : Sections → ℕ → List Bool
place_tests s i =
    is_above s.places 0 i ∷ (nat_le 1 (cell s.places i 1) && is_not_below s.places 1 i)
    ∷ (nat_lt (cell s.places i 2) (length s.functions) && is_not_below s.places 2 i) ∷ is_place_address s i ∷ []

-- The owner of the w-th code word is 0, or a place of the function that holds the word.
unfoldable pub is_owner : Sections → ℕ → Bool
is_owner s w =
    cell s.owners w 0 == 0
    || (is_place s (cell s.owners w 0) && is_in_function s (cell s.places (cell s.owners w 0 - 1) 2) (word_address w))

-- The place at the word's address, if there is one, owns it.
unfoldable pub is_marked : Sections → ℕ → Bool
is_marked s w =
    option_map_or (λ j. cell s.owners w 0 == j + 1) (position_from (λ p. slice_index p 3 == word_address w) 0 s.places)
    true

-- what is tested of the owner of a code word
abbrev pub owner_tests : Sections → ℕ → List Bool
owner_tests s w = (is_owner s w && is_marked s w) ∷ []
