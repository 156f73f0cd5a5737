-- The numbers of lines.
use Rattle.std.proofs.Common.{rules, ◌≡◌, ℕ, ◌<◌, ◌≤◌, ◌^◌, true, ◌&&◌, ◌==◌, not, List, [], ◌∷◌, length, get_or, sym, ◌∙◌, arith}
use Rattle.std.specs.Prelude.{Result, Ok, nat_le}
use Rattle.std.specs.Char.{is_ascii_digit}
use Rattle.std.specs.List.{list_all}
use Rattle.std.specs.Str.{IsUtf8}
use Rattle.std.specs.Str.Parse.{ParsesUnsigned, digits_value}
use Rattle.std.proofs.lemmas.Bool.{and_parts, leb-true, false≢true, not-true, eq-eqb}
use Rattle.std.proofs.lemmas.Fmt.{IsAscii-from_digits}
use Rattle.std.proofs.lemmas.Str.{IsUtf8-from_ascii}
use Rattle.std.proofs.lemmas.Str.Parse.{IsNumeralModel, numerals_by_value, parse_gives, digits_value_short}
use Rattle.script_form.specs.Reading.{is_line_number}

-- what is asked of the number of a line
pub record IsNumeralOfLine (word : List ℕ) : Type 0 where
  pub some : 0 < length word
  pub short : length word ≤ 9
  pub digits : list_all is_ascii_digit word ≡ true
  pub first : get_or word 0 0 ≡ 48 → ⊥

pub numeral_of_line : (word : List ℕ) → is_line_number word ≡ true → IsNumeralOfLine word
unfolding is_line_number
numeral_of_line [] number = absurd (false≢true number)
numeral_of_line (b ∷ bs) number =
    let parts = and_parts (not (b == 48) && nat_le (length (b ∷ bs)) 9) (list_all is_ascii_digit (b ∷ bs)) number in
    let front = and_parts (not (b == 48)) (nat_le (length (b ∷ bs)) 9) parts.0 in
    record { some = omega arith; short = leb-true (length (b ∷ bs)) 9 front.1; digits = parts.1; first = λ zero. false≢true (sym (not-true (b == 48) front.0) ∙ eq-eqb b 48 zero) }

-- the words of this crate and of std for digits and their value are the same
pub own : IsNumeralModel (λ ds. list_all is_ascii_digit ds ≡ true) (digits_value 10)
own = numerals_by_value (λ ds. list_all is_ascii_digit ds ≡ true) (search rules)

-- digits are a text
pub digits_are_text : (word : List ℕ) → is_line_number word ≡ true → IsUtf8 word
digits_are_text word number = IsUtf8-from_ascii word (IsAscii-from_digits word (own.to word (numeral_of_line word number).digits))

-- the number is parsed
pub line_number_parsed : {E : Type 0} (word : List ℕ) (r : Result ℕ E) → is_line_number word ≡ true → ParsesUnsigned 32 10 word r → r ≡ Ok (digits_value 10 word)
line_number_parsed word r number parses =
    let numeral = numeral_of_line word number in
    let small : digits_value 10 word < 10 ^ 9 = digits_value_short own word 9 numeral.digits numeral.short in
    parse_gives own 32 word r parses numeral.digits numeral.some (omega (arith, small))
