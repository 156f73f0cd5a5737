-- What `{:08x}` writes of a number of 32 bits.
use Rattle.std.proofs.Common.{◌≡◌, ℕ, zero, suc, ◌+◌, ◌-◌, ◌/◌, ◌%◌, ◌^◌, ◌<◌, ◌≤◌, false, eqb, List, [], ◌∷◌, ◌++◌, length, refl, sym, ap, ◌∙◌, ⊎_elim, append_assoc, arith}
use Rattle.std.specs.Prelude.{replicate}
use Rattle.std.specs.Fmt.{digits, digits_onto, digit_glyph, padded_integral, format_spec, char_count}
use Rattle.std.proofs.lemmas.Bool.{cases_lt}
use Rattle.std.proofs.lemmas.Bool.Decides.{nat_tests}
use Rattle.std.proofs.lemmas.List.{replicate_more, append-nil}
use Rattle.std.proofs.Math.Nat.{pow-suc}
use Rattle.line_form.specs.Hexadecimal.{hexadecimal, hexadecimal_digit}

-- the digits of zero
zeros : (width : ℕ) → hexadecimal width 0 ≡ replicate width 48
unfolding hexadecimal
zeros zero = refl
zeros (suc width) =
    let next : width + 1 ≡ suc width = omega arith in
    ap (λ ds. ds ++ 48 ∷ []) (zeros width) ∙ replicate_more width 48 ∙ ap (λ k. replicate k 48) next

-- the last digit behind the others, and what stands behind it
last_digit : (width n : ℕ) (behind : List ℕ) → hexadecimal (suc width) n ++ behind ≡ hexadecimal width (n / 16) ++ digit_glyph false (n % 16) ∷ behind
unfolding hexadecimal
last_digit width n behind = append_assoc (hexadecimal width (n / 16)) (hexadecimal_digit (n % 16) ∷ []) behind

-- a number with one digit, written from the last digit on
one_digit : (count n : ℕ) (behind : List ℕ) → n < 16 → digits_onto (suc count) 16 false n behind ≡ digit_glyph false (n % 16) ∷ behind
one_digit count n behind small = let none : n / 16 ≡ 0 = omega arith in rw none

-- a number with more digits, whose last one is written first
more_digits : (count n : ℕ) (behind : List ℕ) → 16 ≤ n
    → digits_onto (suc count) 16 false n behind ≡ digits_onto count 16 false (n / 16) (digit_glyph false (n % 16) ∷ behind)
more_digits count n behind large = let some : eqb (n / 16) 0 ≡ false = grind (arith, nat_tests) in rw some

-- one digit, with zeros in front
zeros_and_one : (width count n : ℕ) (behind : List ℕ) → n < 16
    → replicate (suc width + length behind - length (digits_onto (suc count) 16 false n behind)) 48 ++ digits_onto (suc count) 16 false n behind
    ≡ hexadecimal (suc width) n ++ behind
zeros_and_one width count n behind small =
    let shown : List ℕ = digit_glyph false (n % 16) ∷ behind in
    let room : suc width + length behind - suc (length behind) ≡ width = omega arith in
    let none : 0 ≡ n / 16 = omega arith in
    ap (λ ds. replicate (suc width + length behind - length ds) 48 ++ ds) (one_digit count n behind small)
    ∙ ap (λ k. replicate k 48 ++ shown) room
    ∙ ap (λ ds. ds ++ shown) (sym (zeros width))
    ∙ ap (λ m. hexadecimal width m ++ shown) none
    ∙ sym (last_digit width n behind)

-- Digits written from the last one on, with zeros in front, are so many digits.
zeros_in_front : (width count n : ℕ) (behind : List ℕ) → n < 16 ^ suc width → width < count
    → replicate (suc width + length behind - length (digits_onto count 16 false n behind)) 48 ++ digits_onto count 16 false n behind
    ≡ hexadecimal (suc width) n ++ behind
zeros_in_front width zero n behind fits enough = elim enough [ ]
zeros_in_front zero (suc count) n behind fits enough = zeros_and_one zero count n behind fits
zeros_in_front (suc width) (suc count) n behind fits enough = ⊎_elim
    (λ small. zeros_and_one (suc width) count n behind small)
    (λ large.
    let shown : List ℕ = digit_glyph false (n % 16) ∷ behind in
    let less : n / 16 < 16 ^ suc width = omega (arith, pow-suc 16 (suc width)) in
    let same : suc (suc width) + length behind ≡ suc width + suc (length behind) = omega arith in
    ap (λ ds. replicate (suc (suc width) + length behind - length ds) 48 ++ ds) (more_digits count n behind large)
    ∙ ap (λ room. replicate (room - length (digits_onto count 16 false (n / 16) shown)) 48 ++ digits_onto count 16 false (n / 16) shown) same
    ∙ zeros_in_front width count (n / 16) shown less (omega arith)
    ∙ sym (last_digit (suc width) n behind))
    (cases_lt n 16)

-- any digits, with zeros in front up to eight
padded_to_eight : (ds : List ℕ) → padded_integral (format_spec 32 0 4 8 (2 ^ 64 - 1)) false [] ds ≡ replicate (8 - length ds) 48 ++ ds
unfolding padded_integral char_count
padded_to_eight ds =
    let room : 8 - length ds - 0 - 0 ≡ 8 - length ds = omega arith in
    rw (room, append-nil)

-- a number of 32 bits, in eight digits
pub padded_hexadecimal : (n : ℕ) → n < 2 ^ 32
    → padded_integral (format_spec 32 0 4 8 (2 ^ 64 - 1)) false [] (digits 16 false n) ≡ hexadecimal 8 n
unfolding digits
padded_hexadecimal n small = padded_to_eight (digits 16 false n) ∙ zeros_in_front 7 64 n [] small (omega arith) ∙ append-nil (hexadecimal 8 n)
