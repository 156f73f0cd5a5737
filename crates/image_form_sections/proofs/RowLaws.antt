-- The numbers of rows, where they stand in the bytes.
use Rattle.std.proofs.Common.{◌≡◌, ℕ, zero, suc, ◌+◌, ◌*◌, ◌<◌, ◌≤◌, List, [], length, get_or, take, drop, refl, ap, ◌∙◌, arith}
use Rattle.std.specs.Int.{w32, from_le_bytes}
use Rattle.std.proofs.lemmas.List.{drop-drop, get_or_past}
use Rattle.image_form_sections.specs.Sections.{number_at, numbers_at, number_rows_at, cell}

pub length-numbers_at : (n at : ℕ) (bytes : List ℕ) → length (numbers_at n at bytes) ≡ n
length-numbers_at zero at bytes = refl
length-numbers_at (suc n) at bytes = ap suc (length-numbers_at n (at + 4) bytes)

pub length-rows_at : (width n : ℕ) (bytes : List ℕ) → length (number_rows_at width n bytes) ≡ n
length-rows_at width zero bytes = refl
length-rows_at width (suc n) bytes = ap suc (length-rows_at width n (drop (4 * width) bytes))

-- A number behind others, where it stands.
pub number_of : (n at k : ℕ) (bytes : List ℕ) → k < n → get_or (numbers_at n at bytes) k 0 ≡ number_at bytes (at + 4 * k)
number_of zero at k bytes lt = absurd (omega (arith, lt))
number_of (suc n) at zero bytes lt = ap (number_at bytes) (omega arith)
number_of (suc n) at (suc k) bytes lt = number_of n (at + 4) k bytes (omega (arith, lt)) ∙ ap (number_at bytes) (omega arith)

row_of_rows : (width n i : ℕ) (bytes : List ℕ) → i < n → get_or (number_rows_at width n bytes) i [] ≡ numbers_at width 0 (drop (4 * width * i) bytes)
row_of_rows width zero i bytes lt = absurd (omega (arith, lt))
row_of_rows width (suc n) zero bytes lt = let none : 4 * width * 0 ≡ 0 = omega arith in rw none refl
row_of_rows width (suc n) (suc i) bytes lt =
    row_of_rows width n i (drop (4 * width) bytes) (omega (arith, lt))
    ∙ ap (numbers_at width 0) (drop-drop (4 * width * i) (4 * width) bytes ∙ ap (λ (m : ℕ). drop m bytes) (omega arith))

number_at-drop : (bytes : List ℕ) (n at : ℕ) → number_at (drop n bytes) at ≡ number_at bytes (n + at)
unfolding number_at
number_at-drop bytes n at = ap (λ (b : List ℕ). from_le_bytes w32 (take 4 b)) (drop-drop at n bytes)

pub cell_at : (width count row field : ℕ) (bytes : List ℕ) → row < count → field < width → cell (number_rows_at width count bytes) row field ≡ number_at bytes (4 * (width * row + field))
cell_at width count row field bytes in_count in_width =
    ap (λ (r : List ℕ). get_or r field 0) (row_of_rows width count row bytes in_count)
    ∙ number_of width 0 field (drop (4 * width * row) bytes) in_width
    ∙ number_at-drop bytes (4 * width * row) (0 + 4 * field)
    ∙ ap (number_at bytes) (omega arith)

-- There is no row behind the last.
pub cell_below : (width count row field : ℕ) (bytes : List ℕ) → count ≤ row → cell (number_rows_at width count bytes) row field ≡ 0
cell_below width count row field bytes past = ap (λ (r : List ℕ). get_or r field 0) (get_or_past (number_rows_at width count bytes) row [] (omega (arith, past, length-rows_at width count bytes)))

-- Nor a number behind a row's last.
pub cell_beside : (width count row field : ℕ) (bytes : List ℕ) → row < count → width ≤ field → cell (number_rows_at width count bytes) row field ≡ 0
cell_beside width count row field bytes in_count past =
    ap (λ (r : List ℕ). get_or r field 0) (row_of_rows width count row bytes in_count)
    ∙ get_or_past (numbers_at width 0 (drop (4 * width * row) bytes)) field 0 (omega (arith, past, length-numbers_at width 0 (drop (4 * width * row) bytes)))
