-- What `{:02}` writes of a small number.
use Rattle.std.proofs.Common.{◌≡◌, ℕ, ◌+◌, ◌-◌, ◌/◌, ◌%◌, ◌^◌, ◌<◌, ◌≤◌, true, false, ltb, List, [], ◌∷◌, ◌++◌, length, ap, ◌∙◌, ⊎_elim, arith}
use Rattle.std.specs.Prelude.{replicate}
use Rattle.std.specs.Fmt.{decimal, padded_integral, format_spec, char_count}
use Rattle.std.proofs.lemmas.Bool.{cases_lt, lt-ltb, le-ltb}
use Rattle.std.proofs.lemmas.List.{length-append, append-nil}
use Rattle.std.proofs.lemmas.Fmt.{decimal_digit, decimal_step, decimal_nonempty}
use Rattle.debug_records.specs.Code.{two_digits}

-- zeros in front of the digits, up to two
padded_to_two : (ds : List ℕ) → padded_integral (format_spec 32 0 4 2 (2 ^ 64 - 1)) false [] ds ≡ replicate (2 - length ds) 48 ++ ds
unfolding padded_integral char_count
padded_to_two ds = let room : 2 - length ds - 0 - 0 ≡ 2 - length ds = omega arith in rw (room, append-nil)

-- a number that is not a digit has two digits or more
two_or_more : (n : ℕ) → 10 ≤ n → n < 2 ^ 64 → 2 ≤ length (decimal n)
two_or_more n large fits =
    let front : 0 < length (decimal (n / 10)) = decimal_nonempty (n / 10) (omega arith) in
    omega (arith, ap length (decimal_step n large fits), length-append (decimal (n / 10)) ((48 + n % 10) ∷ []))

-- a number below 256 in two digits, or in three
pub padded_two_digits : (n : ℕ) → n < 256 → padded_integral (format_spec 32 0 4 2 (2 ^ 64 - 1)) false [] (decimal n) ≡ two_digits n
padded_two_digits n small = padded_to_two (decimal n) ∙ ⊎_elim
    (λ one. let digit : ltb n 10 ≡ true = lt-ltb n 10 one in rw (digit, decimal_digit n one))
    (λ more.
    let digits : ltb n 10 ≡ false = le-ltb n 10 more in
    let long : 2 - length (decimal n) ≡ 0 = omega (arith, two_or_more n more (omega arith)) in
    rw (digits, long))
    (cases_lt n 10)
