-- Rows that were read are spelled as the bytes that they were read from.
use Rattle.std.proofs.Common.{◌≡◌, ℕ, zero, suc, ◌+◌, ◌*◌, ◌<◌, ◌≤◌, List, [], ◌∷◌, ◌++◌, length, take, drop, refl, sym, ap, ◌∙◌, arith, length-drop, length-take}
use Rattle.std.specs.Prelude.{map}
use Rattle.std.specs.Int.{w32, to_le_bytes}
use Rattle.std.specs.List.{flat_map, AllByRecursion}
use Rattle.std.proofs.lemmas.List.{drop-drop}
use Rattle.std.proofs.lemmas.List.Concat.{flat_map-cons}
use Rattle.std.proofs.lemmas.Nat.{le_bytes_4}
use Rattle.std.proofs.Math.Seq.{take-add}
use Rattle.image_form_sections.proofs.Octets.{AreBytes, AreBytes-drop, AreBytes-take, number_fits}
use Rattle.image_form.specs.Rules.{AllFit, RecordsFit}
use Rattle.image_form_sections.specs.Sections.{number_at, numbers_at, number_rows_at}
use Rattle.image_form.specs.Spelling.{section, spelled}

pub all_bytes : (bytes : List ℕ) → AreBytes bytes → AllByRecursion (λ b. b < 256) bytes
all_bytes [] are = tt
all_bytes (b ∷ bytes) are = (are 0, all_bytes bytes (λ i. are (suc i)))

number_spelled : (bytes : List ℕ) (at : ℕ) → AreBytes bytes → at + 4 ≤ length bytes → to_le_bytes w32 (number_at bytes at) ≡ take 4 (drop at bytes)
unfolding number_at
number_spelled bytes at are le =
    le_bytes_4 (take 4 (drop at bytes)) _ (omega (arith, length-take 4 (drop at bytes), length-drop at bytes)) (AreBytes-take 4 (drop at bytes) (AreBytes-drop at bytes are)) refl

pub numbers_fit : (n at : ℕ) (bytes : List ℕ) → AreBytes bytes → AllFit (numbers_at n at bytes)
numbers_fit zero at bytes are = tt
numbers_fit (suc n) at bytes are = (number_fits bytes at are, numbers_fit n (at + 4) bytes are)

pub numbers_spelled : (n at : ℕ) (bytes : List ℕ) → AreBytes bytes → at + 4 * n ≤ length bytes → spelled (numbers_at n at bytes) ≡ take (4 * n) (drop at bytes)
numbers_spelled zero at bytes are le = refl
numbers_spelled (suc n) at bytes are le =
    let size : 4 * suc n ≡ 4 + 4 * n = omega arith in
    let tail : spelled (numbers_at n (at + 4) bytes) ≡ take (4 * n) (drop 4 (drop at bytes)) = numbers_spelled n (at + 4) bytes are (omega (arith, le)) ∙ ap (take (4 * n)) (sym (drop-drop 4 at bytes)) in
    flat_map-cons (to_le_bytes w32) (number_at bytes at) (numbers_at n (at + 4) bytes)
    ∙ (λ i. number_spelled bytes at are (omega (arith, le)) i ++ tail i)
    ∙ sym (take-add 4 (4 * n) (drop at bytes))
    ∙ ap (λ (k : ℕ). take k (drop at bytes)) (sym size)

-- The bytes of rows.
abbrev pub spelled_rows : List (List ℕ) → List ℕ
spelled_rows rows = flat_map spelled rows

pub rows_spelled : (width n : ℕ) (bytes : List ℕ) → AreBytes bytes → 4 * width * n ≤ length bytes → spelled_rows (number_rows_at width n bytes) ≡ take (4 * width * n) bytes
rows_spelled width zero bytes are le = let none : 4 * width * 0 ≡ 0 = omega arith in rw none refl
rows_spelled width (suc n) bytes are le =
    let size : 4 * width * suc n ≡ 4 * width + 4 * width * n = omega arith in
    let head : spelled (numbers_at width 0 bytes) ≡ take (4 * width) bytes = numbers_spelled width 0 bytes are (omega (arith, le)) in
    let tail = rows_spelled width n (drop (4 * width) bytes) (AreBytes-drop (4 * width) bytes are) (omega (arith, le, length-drop (4 * width) bytes)) in
    flat_map-cons spelled (numbers_at width 0 bytes) (number_rows_at width n (drop (4 * width) bytes))
    ∙ (λ i. head i ++ tail i)
    ∙ sym (take-add (4 * width) (4 * width * n) bytes)
    ∙ ap (λ (k : ℕ). take k bytes) (sym size)

pub rows_fit : (width n : ℕ) (bytes : List ℕ) → AreBytes bytes → AllByRecursion AllFit (number_rows_at width n bytes)
rows_fit width zero bytes are = tt
rows_fit width (suc n) bytes are = (numbers_fit width 0 bytes are, rows_fit width n (drop (4 * width) bytes) (AreBytes-drop (4 * width) bytes are))

-- Records are spelled as their rows, and fit where their rows do.
pub section-rows : {A : Type 0} (numbers : A → List ℕ) (xs : List A) → section numbers xs ≡ spelled_rows (map numbers xs)
section-rows numbers [] = refl
section-rows numbers (x ∷ xs) =
    flat_map-cons (λ r. spelled (numbers r)) x xs ∙ ap (λ (b : List ℕ). spelled (numbers x) ++ b) (section-rows numbers xs) ∙ sym (flat_map-cons spelled (numbers x) (map numbers xs))

pub records_fit : {A : Type 0} (numbers : A → List ℕ) (xs : List A) → AllByRecursion AllFit (map numbers xs) → RecordsFit numbers xs
records_fit numbers [] fit = tt
records_fit numbers (x ∷ xs) fit = (fit.0, records_fit numbers xs fit.1)
