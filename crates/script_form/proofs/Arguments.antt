-- The arguments of commands, both ways.
use Rattle.std.proofs.Common.{◌≡◌, ℕ, zero, suc, ◌<◌, ◌≤◌, ◌^◌, true, false, ◌==◌, List, [], ◌∷◌, length, get_or, refl, sym, ap, ◌∙◌, ⊎_elim, arith}
use Rattle.std.specs.Prelude.{Ok, Err, nat_le, ◌≢◌}
use Rattle.std.specs.Char.{is_ascii_digit}
use Rattle.std.specs.Fmt.{decimal}
use Rattle.std.specs.List.{list_all}
use Rattle.std.specs.Str.Parse.{digits_value}
use Rattle.std.proofs.lemmas.Bool.{and_parts, cases_Bool, false≢true, ne_eqb}
use Rattle.std.proofs.lemmas.Bool.Decides.{nat_tests}
use Rattle.std.proofs.lemmas.Fmt.{decimal-digits_value, digits_decimal, digits_value-decimal, length-decimal-le, first_decimal, decimal_nonempty, decimal_digit}
use Rattle.std.proofs.lemmas.Str.Parse.{digits_value_short}
use Rattle.debug_records.specs.declared.code.TheConstants.Code.{LINE_NUMBER, COMMAND_NAME}
use Rattle.script_form.specs.Reading.{begins_with_digit, is_line_number, mark_of, name_of}
use Rattle.script_form.specs.Script.{Mark, OnLine, InFunction, IsMark, mark_word, begins_name, is_name, is_name_byte}
use Rattle.script_form.proofs.Numbers.{numeral_of_line, own}

-- The word says the number.
pub record SaysNumber (word : List ℕ) (n : ℕ) : Type 0 where
  pub spelled : word ≡ decimal n
  pub some : 1 ≤ n
  pub short : n < 10 ^ 9

value_is_some : (word : List ℕ) (v : ℕ) → (get_or word 0 0 ≡ 48 → ⊥) → word ≡ decimal v → 1 ≤ v
value_is_some word zero first spelled = absurd (first (ap (λ w. get_or w 0 0) (spelled ∙ decimal_digit 0 (omega arith))))
value_is_some word (suc v) first spelled = omega arith

-- what is the number of a line says its value
pub number_sound : (word : List ℕ) → is_line_number word ≡ true → SaysNumber word (digits_value 10 word)
number_sound word number =
    let numeral = numeral_of_line word number in
    let small : digits_value 10 word < 10 ^ 9 = digits_value_short own word 9 numeral.digits numeral.short in
    let spelled : word ≡ decimal (digits_value 10 word) =
    sym (decimal-digits_value own word numeral.digits numeral.some (λ zero. absurd (numeral.first zero)) (omega (arith, small))) in
    record { spelled = spelled; some = value_is_some word (digits_value 10 word) numeral.first spelled; short = small }

-- digits are the number of a line
pub line_number_from : (word : List ℕ) → 0 < length word → length word ≤ 9 → list_all is_ascii_digit word ≡ true → 48 < get_or word 0 0
    → is_line_number word ≡ true
unfolding is_line_number
line_number_from [] some short digits first = absurd (omega arith)
line_number_from (b ∷ bs) some short digits first =
    let no_zero : (b == 48) ≡ false = ne_eqb b 48 (λ e. absurd (omega (arith, e, first))) in
    let fits : nat_le (length (b ∷ bs)) 9 ≡ true = grind (arith, nat_tests, short) in
    rw (no_zero, fits) digits

pub digit_from : (word : List ℕ) → 0 < length word → list_all is_ascii_digit word ≡ true → begins_with_digit word ≡ true
unfolding begins_with_digit
digit_from [] some digits = absurd (omega arith)
digit_from (b ∷ bs) some digits = (and_parts (is_ascii_digit b) (list_all is_ascii_digit bs) digits).0

-- The number of a line in decimal is one, and is read as one.
pub record IsReadAs (word : List ℕ) (n : ℕ) : Type 0 where
  pub digit : begins_with_digit word ≡ true
  pub number : is_line_number word ≡ true
  pub value : digits_value 10 word ≡ n

pub number_complete : (n : ℕ) → 1 ≤ n → n < 10 ^ 9 → IsReadAs (decimal n) n
number_complete n some short =
    let small : n < 2 ^ 64 = omega (arith, short) in
    let digits : list_all is_ascii_digit (decimal n) ≡ true = digits_decimal own n small in
    let nonempty : 0 < length (decimal n) = decimal_nonempty n small in
    let most : length (decimal n) ≤ 9 = length-decimal-le 9 n (omega arith) short small in
    let first : 48 < get_or (decimal n) 0 0 = first_decimal n (omega (arith, some)) small in
    record {
      digit = digit_from (decimal n) nonempty digits;
      number = line_number_from (decimal n) nonempty most digits first;
      value = digits_value-decimal own n small;
    }

-- a name begins with no digit
first_no_digit : (b : ℕ) → begins_name b ≡ true → is_ascii_digit b ≡ false
first_no_digit b begins = grind (arith, nat_tests)

pub name_no_digit : (name : List ℕ) → is_name name ≡ true → begins_with_digit name ≡ false
unfolding begins_with_digit
name_no_digit [] name = absurd (false≢true name)
name_no_digit (b ∷ bs) name = first_no_digit b (and_parts (begins_name b) (list_all is_name_byte bs) name).0

-- a name is read
pub name_complete : (name : List ℕ) → is_name name ≡ true → name_of name ≡ Ok name
unfolding name_of
name_complete name is = rw is

-- what is no name is not
pub name_broken : (word : List ℕ) → is_name word ≡ false → name_of word ≡ Err COMMAND_NAME
unfolding name_of
name_broken word none = rw none

-- a mark is read
pub mark_complete : (m : Mark) → IsMark m → mark_of (mark_word m) ≡ Ok m
unfolding mark_of
mark_complete (OnLine n) good =
    let read = number_complete n good.0 good.1 in
    rw (read.digit, read.number, read.value)
mark_complete (InFunction name) good = rw (name_no_digit name good, name_complete name good)

mark_by_digit : (word : List ℕ) → begins_with_digit word ≡ true → is_line_number word ≡ true → mark_of word ≡ Ok (OnLine (digits_value 10 word))
unfolding mark_of
mark_by_digit word digit number = rw (digit, number)

mark_no_line : (word : List ℕ) → begins_with_digit word ≡ true → is_line_number word ≡ false → mark_of word ≡ Err LINE_NUMBER
unfolding mark_of
mark_no_line word digit number = rw (digit, number)

mark_by_name : (word : List ℕ) → begins_with_digit word ≡ false → is_name word ≡ true → mark_of word ≡ Ok (InFunction word)
unfolding mark_of
mark_by_name word digit name = rw (digit, name_complete word name)

pub mark_no_name : (word : List ℕ) → begins_with_digit word ≡ false → is_name word ≡ false → mark_of word ≡ Err COMMAND_NAME
unfolding mark_of
mark_no_name word digit name = rw (digit, name_broken word name)

-- no number is said by a word that is not the number of a line
pub no_number : (word : List ℕ) → is_line_number word ≡ false → (n : ℕ) → 1 ≤ n → n < 10 ^ 9 → word ≢ decimal n
no_number word none n some short spelled =
    false≢true (sym none ∙ ap is_line_number spelled ∙ (number_complete n some short).number)

-- a word that says no number is not the number of a line
pub mark_broken_line : (word : List ℕ) → begins_with_digit word ≡ true → ((n : ℕ) → 1 ≤ n → n < 10 ^ 9 → word ≢ decimal n) → mark_of word ≡ Err LINE_NUMBER
mark_broken_line word digit none = ⊎_elim
    (λ (number : is_line_number word ≡ true).
    let says = number_sound word number in
    absurd (none (digits_value 10 word) says.some says.short says.spelled))
    (λ (number : is_line_number word ≡ false). mark_no_line word digit number)
    (cases_Bool (is_line_number word))

-- What a word marks, or why it marks nothing.
pub data MarkCases : List ℕ → Type 0 where
  marks : {word : List ℕ} → (m : Mark) → mark_of word ≡ Ok m → word ≡ mark_word m → IsMark m → MarkCases word
  no_line : {word : List ℕ} → mark_of word ≡ Err LINE_NUMBER → begins_with_digit word ≡ true
      → ((n : ℕ) → 1 ≤ n → n < 10 ^ 9 → word ≢ decimal n) → MarkCases word
  no_name : {word : List ℕ} → mark_of word ≡ Err COMMAND_NAME → begins_with_digit word ≡ false → is_name word ≡ false → MarkCases word

pub mark_cases : (word : List ℕ) → MarkCases word
mark_cases word = ⊎_elim
    (λ (digit : begins_with_digit word ≡ true). ⊎_elim
    (λ (number : is_line_number word ≡ true).
    let says = number_sound word number in
    marks (OnLine (digits_value 10 word)) (mark_by_digit word digit number) says.spelled (says.some, says.short))
    (λ (number : is_line_number word ≡ false). no_line (mark_no_line word digit number) digit (no_number word number))
    (cases_Bool (is_line_number word)))
    (λ (digit : begins_with_digit word ≡ false). ⊎_elim
    (λ (name : is_name word ≡ true). marks (InFunction word) (mark_by_name word digit name) refl name)
    (λ (name : is_name word ≡ false). no_name (mark_no_name word digit name) digit name)
    (cases_Bool (is_name word)))
    (cases_Bool (begins_with_digit word))
